pub mod ListLemmas
pub mod ProductLemmas
pub mod FieldLemmas
pub mod PlaceLaws
pub mod Going
pub mod ToldTypes
pub mod GatherLemmas
