mod Pieces
mod Overlaid
mod FloorLemmas
mod Derived
mod Listing
mod Named
mod Chosen
mod Recorded
