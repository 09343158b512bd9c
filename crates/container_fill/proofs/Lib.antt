pub mod FpLemmas
pub mod OpenLemmas
pub mod PackLemmas
pub mod PlaceLemmas
pub mod StepLemmas
pub mod KeepLemmas
pub mod FillerLemmas
pub mod TurnLemmas
