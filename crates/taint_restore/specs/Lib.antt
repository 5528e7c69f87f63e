pub mod Needed
pub mod Marking
pub mod Restored
pub mod Known
pub mod Standing
