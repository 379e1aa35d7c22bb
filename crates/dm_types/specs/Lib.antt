pub mod Order
pub mod Then
pub mod Value
pub mod Lanes
pub mod LaneLaws
pub mod Scaled
pub mod Ranges
