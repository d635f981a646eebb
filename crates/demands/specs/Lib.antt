-- The demands as statements: what is to be believed stands here, and proofs/ has their proofs under the same names.
-- Demand 1, of the entries, of the program's lines and of the functions for C
pub mod Told
pub mod Demand1
pub mod Replies
pub mod CallsFromC
pub mod Limits
pub mod Demand2
pub mod Demand3
pub mod Accepted
pub mod Anchors
pub mod SingleOutcome
pub mod Warned
