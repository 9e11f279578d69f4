pub mod Notes
pub mod Iterations
pub mod Searches
pub mod Versions
pub mod Tables
pub mod Picking
