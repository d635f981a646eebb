-- The choice of bv.
pub mod Rules
pub mod Supplied
