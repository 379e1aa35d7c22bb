mod Ranges
mod Sequence
mod Places
