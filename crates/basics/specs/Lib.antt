pub mod Basics
pub mod Lists
