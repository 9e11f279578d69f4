pub mod Removals
pub mod RunPlans
pub mod Memory
pub mod RunBounds
pub mod Own
pub mod Closing
pub mod Next
