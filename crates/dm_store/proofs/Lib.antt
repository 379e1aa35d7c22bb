pub mod Distinct
pub mod Moves
pub mod Listing
pub mod Once
pub mod Told
pub mod Deduped
