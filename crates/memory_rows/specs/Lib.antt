pub mod Rows
pub mod Cells
