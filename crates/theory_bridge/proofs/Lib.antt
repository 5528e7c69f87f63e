pub mod Later
pub mod Going
pub mod Asking
pub mod Standing
pub mod Following
pub mod Rows
pub mod Walking
