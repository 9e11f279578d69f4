pub mod Counting
pub mod Keeping
