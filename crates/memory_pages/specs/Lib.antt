pub mod Columns
pub mod Pages
pub mod Spots
