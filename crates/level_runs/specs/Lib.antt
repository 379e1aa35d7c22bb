pub mod Answers
pub mod Bits
pub mod Reading
pub mod Runs
pub mod Steps
pub mod Varint
