pub mod Cut
pub mod Truths
pub mod Turns
