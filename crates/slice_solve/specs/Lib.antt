pub mod Joins
pub mod Linear
