pub mod Tree
pub mod Due
pub mod Grammar
pub mod Held
pub mod Open
pub mod Reading
pub mod Create
pub mod Statements
