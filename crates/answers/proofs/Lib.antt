-- Laws of the answers and of the options.
pub mod Distinct
pub mod Limits
