-- What speaks for each value of bv.
pub mod Votes
pub mod Eight
-- private
pub mod CountTables
