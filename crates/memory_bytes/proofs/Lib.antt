pub mod Bytes
pub mod Moves
pub mod Scans
pub mod Spans
