mod Digits
mod Found
mod Frames
mod Inserted
mod Naming
mod Next
mod Spelling
