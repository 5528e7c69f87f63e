pub mod Clashing
pub mod Asking
pub mod Weighing
pub mod Counting
pub mod Walking
pub mod Passing
