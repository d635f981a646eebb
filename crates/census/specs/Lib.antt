-- What the contracts of `census` cite.
pub mod Told
-- private
pub mod Tables
