-- The slots of a directory, and what the parse decides.
pub mod Directory
pub mod Decisions
