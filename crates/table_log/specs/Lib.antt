pub mod Log
pub mod Versions
pub mod Listed
pub mod Agree
