pub mod Firm
pub mod Resolving
pub mod Subsuming
pub mod Implying
pub mod Vivifying
pub mod Signing
