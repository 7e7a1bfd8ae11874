pub mod Closing
pub mod Digits
pub mod Fronts
pub mod Moves
mod Rows
pub mod Runs
pub mod Tables
