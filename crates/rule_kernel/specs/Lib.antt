pub mod Changes
pub mod Frozen
pub mod Rules
pub mod Settled
pub mod State
pub mod Waiting
