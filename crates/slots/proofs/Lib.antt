-- Laws of the definitions by subject, then what the definitions mean.
pub mod Words
pub mod Slices
pub mod Plain
pub mod Scanned
pub mod Sweeps
pub mod Limits
pub mod RowCounts
pub mod Pages
pub mod Best
pub mod Looks
