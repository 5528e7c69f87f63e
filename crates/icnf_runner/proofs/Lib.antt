pub mod Goods
pub mod Course
pub mod Sessions
pub mod Runs
pub mod Texts
pub mod Words
