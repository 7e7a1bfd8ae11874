pub mod Related
pub mod Outcomes
pub mod Control
pub mod PathLaws
pub mod Members
pub mod Renamed
pub mod Renaming
pub mod Scanned
pub mod Listed
pub mod Laid
pub mod OneList
pub mod OnlyList
pub mod StructCells
pub mod NamedTypes
pub mod NotedTypes
pub mod NotedBodies
pub mod FirstFields
pub mod Pointed
pub mod Erased
pub mod Ranks
pub mod Numbers
pub mod Lockstep
pub mod Grown
pub mod Start
pub mod Exact
pub mod LinearLaws
mod LinearCompute
mod LinearRows
