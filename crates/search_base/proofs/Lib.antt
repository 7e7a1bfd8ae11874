pub mod PathLaws
pub mod InsertLaws
pub mod TermLaws
pub mod ChoiceLaws
pub mod LineLaws
pub mod OnLaws
pub mod FirstLaws
