pub mod View
pub mod Stages
pub mod Whole
pub mod Answers
