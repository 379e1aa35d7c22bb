pub mod Blocks
pub mod Cells
pub mod Flags
pub mod Lanes
