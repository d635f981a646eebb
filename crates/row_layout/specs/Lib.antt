-- The layouts of include/lumeviqo.h for rows, and what is put of them from the page.
pub mod RowLayouts
-- private
pub mod FromPage
