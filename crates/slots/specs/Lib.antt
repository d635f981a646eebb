-- The slot directory: what the scan and the row-count test find; what the scan's directory means; what is looked for first; and what the
-- scan keeps on its one pass.
pub mod Slots
pub mod Best
pub mod Pairs
pub mod Looks
-- private
pub mod Sweep
pub mod Plain
