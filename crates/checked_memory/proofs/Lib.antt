pub mod Walks
pub mod Writes
pub mod Cells
pub mod Finds
