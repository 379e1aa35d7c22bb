mod Sorting
mod Scales
