pub mod PlaceLaws
mod PlaceSteps
pub mod FormLaws
pub mod AtomLaws
mod MergeSteps
mod FormSteps
