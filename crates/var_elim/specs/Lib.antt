pub mod Merging
pub mod Testing
pub mod Eliminating
pub mod Pass
