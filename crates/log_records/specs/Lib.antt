pub mod Kinds
pub mod Records
pub mod Laws
pub mod Bytes
pub mod Entries
pub mod Cases
