pub mod Layouts
pub mod Numbers
pub mod Sigs
pub mod Table
pub mod CheckedTypes
