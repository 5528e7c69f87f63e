pub mod Mirrors
pub mod Rows
pub mod Finding
pub mod Standing
pub mod Idling
