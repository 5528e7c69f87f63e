pub mod Options
pub mod Good
pub mod Output
pub mod Session
pub mod Runs
pub mod Items
