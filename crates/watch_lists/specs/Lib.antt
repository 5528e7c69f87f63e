pub mod Propagation
pub mod Copying
pub mod Watching
pub mod Visiting
pub mod Placing
pub mod Shorts
pub mod Worlds
