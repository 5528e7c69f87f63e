pub mod Admitting
pub mod Leading
pub mod Following
pub mod Saying
pub mod Boards
