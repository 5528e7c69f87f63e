pub mod Trail
pub mod Table
pub mod Clauses
pub mod Rank
pub mod Mark
