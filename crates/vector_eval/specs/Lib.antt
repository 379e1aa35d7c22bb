pub mod Outcomes
pub mod Numbers
pub mod Truths
pub mod Casts
pub mod Values
pub mod Rows
pub mod Batches
pub mod Steps
