pub mod FirstFault
pub mod Ranks
pub mod Refused
pub mod Resolving
