-- The layouts of include/lumeviqo.h for a stored page, and their sizes.
pub mod Layouts
pub mod Sizes
