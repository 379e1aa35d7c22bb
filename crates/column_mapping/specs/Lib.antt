pub mod Mapping
pub mod Places
pub mod Steps
