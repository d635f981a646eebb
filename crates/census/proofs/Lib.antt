pub mod Noted
pub mod Counting
pub mod Truth
