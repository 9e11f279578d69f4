pub mod Running
pub mod Beginning
pub mod Leaving
pub mod Stepping
pub mod Allotting
pub mod Repeating
