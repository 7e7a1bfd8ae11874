pub mod Descent
pub mod Shown
