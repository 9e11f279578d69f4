pub mod Limits
pub mod Numbers
pub mod Tuple
pub mod Spell
pub mod Block
pub mod Decode
pub mod Bytes
pub mod Laws
