pub mod Pages
pub mod Changes
pub mod Pending
pub mod Spots
