pub mod Placing
pub mod Raising
