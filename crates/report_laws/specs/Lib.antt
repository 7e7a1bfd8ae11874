pub mod Walks
pub mod Traces
pub mod Words
