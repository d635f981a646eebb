-- Laws of numbers as bytes, and of bytes written to a buffer.
pub mod Widths
pub mod Stored
pub mod Kept
pub mod Copies
pub mod Blocks
