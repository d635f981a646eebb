-- Laws of what is decided of a page: its sectors, and the cases of a decision.
pub mod WeakSectors
pub mod DecisionCases
