pub mod FaultLemmas
pub mod HeldLemmas
pub mod PrefixLemmas
pub mod StreamLemmas
pub mod ToldLemmas
