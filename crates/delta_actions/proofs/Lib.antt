pub mod Maybe
pub mod Collecting
pub mod Turns
pub mod First
pub mod Kept
pub mod Back
pub mod Lines
pub mod Formed
