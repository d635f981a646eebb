-- Laws of layouts as lists of fields.
pub mod Sizes
pub mod Puts
pub mod Tables
pub mod Pairs
