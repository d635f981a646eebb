-- Laws of digits.
pub mod Values
pub mod Spelling
