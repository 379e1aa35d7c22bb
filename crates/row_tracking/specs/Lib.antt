pub mod Ids
pub mod Checked
pub mod Order
pub mod StepsIds
pub mod StepsChecked
pub mod StepsOrder
