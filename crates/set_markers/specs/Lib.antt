pub mod SetMarkers
pub mod Steps
