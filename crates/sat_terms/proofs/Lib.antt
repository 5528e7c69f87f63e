pub mod Literals
pub mod Truths
pub mod Models
pub mod Members
