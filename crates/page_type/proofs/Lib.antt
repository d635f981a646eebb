-- Laws of the letters of page types.
pub mod Letters
