pub mod Counts
pub mod Gap
pub mod MarkSet
