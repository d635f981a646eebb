-- The prelude search: what it finds, and what an answer of it means.
pub mod Preludes
pub mod Starts
-- private
pub mod Passes
