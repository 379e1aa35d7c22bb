mod Firsts
mod Joining
mod Within
