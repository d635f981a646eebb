-- Laws of the count by classes, by subject: what the engine's table is; bytes and their classes, tables of rings, the table of 256 counts.
pub mod Meaning
pub mod Classes
pub mod Tables
pub mod Steps
pub mod Engine
