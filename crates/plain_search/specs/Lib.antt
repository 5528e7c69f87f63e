pub mod Steps
pub mod Marks
pub mod Rules
pub mod Search
