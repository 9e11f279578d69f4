pub mod Lengths
pub mod Weeks
pub mod Edges
pub mod Rows
pub mod Cases
