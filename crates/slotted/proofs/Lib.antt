-- Laws of what the parse says, and of its answer with tables; then what they mean.
pub mod Locating
pub mod Parses
pub mod Meaning
