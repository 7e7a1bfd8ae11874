pub mod Choosing
pub mod Settling
pub mod Turning
pub mod Needed
