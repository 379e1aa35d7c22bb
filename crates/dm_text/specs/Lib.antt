pub mod Numbers
pub mod Calendar
pub mod Moments
pub mod Reading
pub mod Printing
pub mod Answers
pub mod Fronts
