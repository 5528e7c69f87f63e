pub mod Setting
pub mod Redundancy
