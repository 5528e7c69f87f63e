pub mod Values
pub mod Following
pub mod Counting
pub mod Queue
pub mod Due
pub mod Cards
pub mod Meant
pub mod Boards
