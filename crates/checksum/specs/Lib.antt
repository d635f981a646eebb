-- The 32-bit frame check sequence of ITU-T V.42.
pub mod Poly
pub mod V42
-- private
pub mod Register
