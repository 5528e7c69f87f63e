pub mod Counted
pub mod Extending
pub mod Gaps
pub mod Rows
