pub mod Gives
pub mod Places
pub mod DescentItems
pub mod ShownItems
