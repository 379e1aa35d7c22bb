mod Following
mod Mapped
pub mod Numbered
mod Ordered
mod Readable
mod Said
mod Spelled
mod Usable
pub mod Lent
pub mod Least
mod Set
mod Told
mod All
mod Sound
