pub mod Repeats
pub mod Logged
pub mod RollForward
pub mod Disk
pub mod History
pub mod HistoryCases
