pub mod GoesLaws
pub mod PastLaws
pub mod EventLaws
pub mod AccessLaws
pub mod OwnLaws
pub mod LawfulLaws
pub mod RunRows
