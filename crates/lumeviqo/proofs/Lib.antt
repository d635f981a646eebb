-- Laws of what the functions tell.
pub mod Calls
