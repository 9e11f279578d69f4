pub mod Repeated
pub mod Walking
pub mod Listed
pub mod Marked
pub mod Ending
pub mod Restoring
pub mod Copied
