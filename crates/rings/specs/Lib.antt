-- What the contracts of `rings` cite: the counts of a class of bytes, tables of rings, and the greatest sum of eight of them.
pub mod Class
pub mod Table
pub mod Peak
pub mod Quad
