pub mod Types
pub mod Names
pub mod Metadata
pub mod Columns
pub mod Answers
pub mod Written
pub mod Writable
pub mod StepsReading
