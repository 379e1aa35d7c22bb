pub mod Levels
pub mod Cut
mod Derived
mod Behind
