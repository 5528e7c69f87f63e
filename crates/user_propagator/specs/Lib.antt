pub mod Board
pub mod Noticing
pub mod Waiting
pub mod Meaning
pub mod Nothing
