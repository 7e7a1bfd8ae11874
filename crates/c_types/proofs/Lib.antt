pub mod Distinct
pub mod Rising
pub mod Sorting
pub mod FirstFaults
pub mod Assembly
