-- What a choice of bv means.
pub mod Values
pub mod Sources
pub mod Evidence
pub mod Supplied
