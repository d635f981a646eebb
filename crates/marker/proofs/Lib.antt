-- Laws of the search, and what it finds.
pub mod Search
