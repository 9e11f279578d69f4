pub mod Columns
pub mod Bytes
