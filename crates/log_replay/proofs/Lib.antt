mod Coming
pub mod Counting
mod Deciding
mod Growing
mod Marking
mod Numbered
mod Replaying
mod Snapshots
