-- Whether one run of bytes occurs in another.
pub mod Marker
