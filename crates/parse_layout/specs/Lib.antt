-- The layout of include/lumeviqo.h for a parse, and what is put of it from the page.
pub mod ParseLayouts
-- private
pub mod FromPage
