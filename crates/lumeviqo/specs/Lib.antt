-- What the functions find, and what becomes of the buffers that a caller lends.
pub mod Calls
