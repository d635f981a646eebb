-- A stored page by itself: its trailer, its integrity, and the fields of page 0.
pub mod Trailer
pub mod Integrity
pub mod Superblock
