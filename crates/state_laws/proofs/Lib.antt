pub mod Standing
pub mod Changing
pub mod Growing
pub mod Beginning
pub mod Members
pub mod Shrinking
