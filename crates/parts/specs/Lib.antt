-- The parts of the layouts of include/lumeviqo.h.
pub mod Parts
pub mod Lent
