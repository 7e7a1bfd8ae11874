pub mod Places
pub mod FileNames
pub mod Noted
