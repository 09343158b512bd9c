pub mod Pieces
pub mod Streams
pub mod Shelf
pub mod Places
