-- Laws of rings, by subject: the room they go into, bytes noted, classes counted, rings laid twice; quarters of a ring, turns, and the search for peaks.
pub mod Rooms
pub mod Notes
pub mod Counted
pub mod Laid
pub mod Quarters
pub mod Turns
pub mod PeakSearch
