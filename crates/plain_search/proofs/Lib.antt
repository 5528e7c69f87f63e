pub mod Values
pub mod RuleLemmas
pub mod Looking
pub mod Finding
pub mod Turns
