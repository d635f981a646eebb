-- Laws of the parts.
pub mod Sizes
pub mod Heads
pub mod LentFits
pub mod Zeros
pub mod Items
pub mod Blanks
