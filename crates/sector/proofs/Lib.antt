-- Laws of the shifted bytes and of the fit, by subject.
pub mod Meaning
pub mod Bytes
pub mod Folds
pub mod Shifts
pub mod Leads
pub mod Sorted
pub mod Ties
pub mod Exact
pub mod StepSearch
pub mod Scans
