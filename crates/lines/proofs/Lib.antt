-- Laws of lines in blocks, and the theorem.
pub mod Newlines
pub mod Output
pub mod Found
pub mod Stepping
pub mod Runs
pub mod Examples
