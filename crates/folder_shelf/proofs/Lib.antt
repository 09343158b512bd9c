pub mod HexTexts
pub mod Named
