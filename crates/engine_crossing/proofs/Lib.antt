pub mod Bookings
pub mod Runs
pub mod Window
pub mod Seen
pub mod Adding
pub mod Progress
