pub mod Forest
pub mod Marks
pub mod Faults
