pub mod Faults
pub mod Positions
pub mod Tables
pub mod Views
