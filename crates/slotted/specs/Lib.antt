-- What the parse says in a small value, and with tables.
pub mod Locations
pub mod Parses
