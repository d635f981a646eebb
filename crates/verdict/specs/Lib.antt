-- What is decided of a page.
pub mod Sectors
pub mod Verdict
