pub mod Steps
pub mod Classes
pub mod Answers
