pub mod Constraint
