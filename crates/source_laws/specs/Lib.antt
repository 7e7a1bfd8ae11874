pub mod Renumbering
pub mod SameProgram
pub mod Settled
pub mod OneSource
pub mod Tokens
