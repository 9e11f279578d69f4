pub mod Numbered
pub mod Headers
pub mod Showing
pub mod Fitting
pub mod Recorded
pub mod Writing
