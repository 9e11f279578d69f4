pub mod Calendar
pub mod Cases
