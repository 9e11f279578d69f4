pub mod Ranks
pub mod Opened
pub mod Unwritten
pub mod Listing
