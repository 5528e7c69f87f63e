pub mod Comparing
pub mod Choosing
pub mod Changing
pub mod Trying
pub mod Pass
