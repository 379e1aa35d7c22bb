pub mod Block
pub mod Commits
pub mod StepsPutting
