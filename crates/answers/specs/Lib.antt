-- What each answer is called by number, and what stands beside it.
pub mod Values
pub mod Tables
pub mod Answers
pub mod Trust
pub mod Warns
pub mod Settings
