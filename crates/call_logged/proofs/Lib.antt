pub mod Logging
pub mod Marking
