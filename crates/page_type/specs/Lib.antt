-- The page type.
pub mod Types
