pub mod Follows
pub mod Line
pub mod Lives
