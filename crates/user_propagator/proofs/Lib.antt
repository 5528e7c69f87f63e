pub mod Seeing
pub mod Noticing
pub mod Queues
pub mod Phasing
pub mod Lawful
