-- Laws of frames.
pub mod Frames
