pub mod Group
pub mod Depends
pub mod Meant
pub mod Boards
