pub mod CrashRecovery
pub mod Code
pub mod NothingLost
