pub mod Places
pub mod Views
pub mod Opens
pub mod Flat
pub mod Elements
pub mod Store
