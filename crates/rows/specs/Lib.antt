-- The rows: those of a directory, and what asking for one, for their number or for all of them answers.
pub mod Rows
pub mod RowAnswers
