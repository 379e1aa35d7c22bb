mod Least
mod Named
mod Needs
