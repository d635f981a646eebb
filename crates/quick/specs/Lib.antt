-- What the contracts of `quick` cite: the line through the first two bytes of a sector, and the fit of one that stays on it.
pub mod Line
