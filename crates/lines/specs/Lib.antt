-- The lines of an input that comes in blocks, and what a program puts out for them.
pub mod Input
pub mod Next
pub mod Steps
pub mod Runs
