pub mod Setting
pub mod Terms
pub mod Inserting
pub mod Lines
pub mod Readable
