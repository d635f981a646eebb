-- Laws of what the search finds, and of what the parse decides.
pub mod Found
pub mod Inside
pub mod LastLive
pub mod Decisions
