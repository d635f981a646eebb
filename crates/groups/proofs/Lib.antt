-- Laws of groups of candidates: the table that holds them, the order within.
pub mod Listed
pub mod GroupTable
pub mod Order
