-- The decoding of a page.
pub mod Decode
