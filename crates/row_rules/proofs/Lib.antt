mod Each
mod Prefix
mod Whole
mod Exact
