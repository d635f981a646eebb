-- Laws of the definitions by subject, then what the definitions mean.
pub mod Runs
pub mod Fields
pub mod Passing
pub mod Broken
pub mod Starts
