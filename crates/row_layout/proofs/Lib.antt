-- Laws of the layouts for rows.
pub mod Sizes
pub mod Starts
pub mod Wholes
