mod Compute
mod Computed
pub mod Resolved
mod Rows
pub mod Folds
mod FaultRows
mod GraphRows
mod CheckedRows
pub mod Related
mod TracedCompute
mod TracedRows
