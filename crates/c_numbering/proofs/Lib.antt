pub mod DenotesLemmas
pub mod KeyLemmas
pub mod TableLemmas
pub mod CellLemmas
pub mod SigLemmas
pub mod CheckedLaws
pub mod DeclaredLaws
pub mod NumberingLaws
