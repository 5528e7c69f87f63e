pub mod Literal
pub mod Truth
pub mod Cardinality
pub mod Normal
pub mod Answer
pub mod Limits
