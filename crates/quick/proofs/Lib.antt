-- Laws of the line through the first two bytes of a sector, and of the fit of a sector that stays on it, by subject.
pub mod Meaning
pub mod Lines
pub mod Shifted
pub mod Exact
pub mod Lone
pub mod Fits
