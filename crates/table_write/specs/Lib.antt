pub mod Outside
pub mod Writing
pub mod StepsWriting
pub mod Create
pub mod Delete
pub mod Emptied
pub mod NewTable
