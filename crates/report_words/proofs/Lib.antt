pub mod Cutting
pub mod Texts
pub mod Bytes
pub mod Numerals
pub mod EndTexts
