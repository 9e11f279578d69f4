pub mod Loading
pub mod Reopening
