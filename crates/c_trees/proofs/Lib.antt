pub mod Walking
pub mod Calls
pub mod StatementLaws
