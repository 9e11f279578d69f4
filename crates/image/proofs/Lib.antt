pub mod Collect
pub mod Named
pub mod Staged
