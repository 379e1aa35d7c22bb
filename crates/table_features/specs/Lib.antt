pub mod Features
pub mod Properties
pub mod Needed
