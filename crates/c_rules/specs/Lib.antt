pub mod Apart
pub mod Telling
pub mod Views
pub mod BodyLocals
