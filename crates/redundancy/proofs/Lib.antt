pub mod Setting
pub mod Touching
pub mod Chains
