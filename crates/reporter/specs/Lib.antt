-- What the contracts of `reporter` cite.
pub mod Turns
