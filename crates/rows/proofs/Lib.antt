-- Laws of the rows from the far end, of asking for one, of counting and of gathering them; then what they mean.
pub mod FarEnd
pub mod RowAnswers
pub mod RowCounts
pub mod RowStarts
pub mod Meaning
