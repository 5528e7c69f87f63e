pub mod Pair
pub mod Open
