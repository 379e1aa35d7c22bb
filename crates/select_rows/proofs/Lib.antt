pub mod ByPlace
mod Fitted
mod Typed
mod Valued
