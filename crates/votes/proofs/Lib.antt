-- Laws of the votes, of the counts, and of the candidates; and what the candidates and the top are.
pub mod Tests
pub mod CandidateTable
pub mod Keys
pub mod Ballots
pub mod Assessments
pub mod Meaning
pub mod Eight
