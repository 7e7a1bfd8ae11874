pub mod Values
pub mod Joined
pub mod LineWords
pub mod Lines
pub mod Reports
pub mod Readable
pub mod Beginnings
