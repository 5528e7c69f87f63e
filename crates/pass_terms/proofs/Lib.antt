pub mod Ruling
pub mod Shortening
