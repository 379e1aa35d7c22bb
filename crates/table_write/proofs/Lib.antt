mod Creating
mod Deleted
mod Deleting
mod EmptyState
mod Grown
mod NewStands
mod NewState
mod Written
