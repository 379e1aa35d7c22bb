pub mod File
pub mod Writing
pub mod Chunks
pub mod Groups
