pub mod Same
pub mod Entries
pub mod Cursors
pub mod Records
pub mod Walk
pub mod Answering
pub mod Known
pub mod Again
