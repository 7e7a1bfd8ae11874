pub mod Pieces
pub mod Firsts
pub mod StmtComplete
pub mod StmtSound
pub mod StmtSteps
pub mod StmtUnfold
