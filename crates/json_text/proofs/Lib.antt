pub mod Plain
pub mod Feeds
pub mod Ordered
