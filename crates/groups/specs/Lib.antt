-- Groups of candidates.
pub mod Groups
