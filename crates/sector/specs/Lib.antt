-- What the contracts of `sector` cite: shifted bytes, and the fit of a sector.
pub mod Byte
pub mod Fit
pub mod Scan
pub mod Sorted
