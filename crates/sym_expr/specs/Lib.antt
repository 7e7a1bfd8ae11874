pub mod Sums
pub mod PlacesSeen
pub mod TermsSeen
pub mod AtomsSeen
