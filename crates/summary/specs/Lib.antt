-- What the contracts of `summary` cite: the scan of a page, the replacement of a sector, and what a list of replacements makes of a page.
pub mod Page
pub mod Replace
pub mod State
-- private
pub mod Rescan
