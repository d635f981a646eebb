-- Laws of the layout of a parse.
pub mod Sizes
pub mod Slots
pub mod Wholes
