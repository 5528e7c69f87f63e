pub mod Given
pub mod Held
pub mod Standing
pub mod Steps
pub mod Finds
pub mod Recheck
