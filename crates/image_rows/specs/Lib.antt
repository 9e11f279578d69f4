pub mod Rows
pub mod Columns
pub mod Chains
