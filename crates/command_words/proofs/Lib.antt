pub mod NamedWords
pub mod Numerals
pub mod OptionFits
pub mod OptionReads
pub mod OptionTables
pub mod Forms
pub mod PathWords
