-- Laws of the summary of a page, and the theorems on replacement.
pub mod Replacements
pub mod Parts
pub mod Sectors
pub mod Rescans
pub mod Outcomes
pub mod WholePages
