-- Laws of the folding, as a sum of octets and as the code does it.
pub mod Elimination
pub mod Folding
