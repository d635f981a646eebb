-- Laws of a stored page, by subject, and what the rules say in plain terms.
pub mod Zeros
pub mod Trailer
pub mod Verdicts
pub mod FirstPage
