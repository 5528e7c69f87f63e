pub mod Flags
pub mod Listed
pub mod Work
