pub mod Knowing
pub mod Rooting
pub mod Falses
pub mod Reasons
pub mod Implied
pub mod Blocking
