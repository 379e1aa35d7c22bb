mod Bits
mod Counts
mod Shown
mod Tested
