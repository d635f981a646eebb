-- The proofs of what a choice means, and what they lean on.
pub mod Values
pub mod Passing
pub mod Voting
pub mod Standing
pub mod BvTable
pub mod Ranking
pub mod Outcomes
pub mod Deciding
pub mod AllExact
pub mod Sources
pub mod Taken
pub mod EvidenceTable
pub mod Evidence
pub mod Supplied
