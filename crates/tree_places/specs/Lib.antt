pub mod Line
pub mod Images
pub mod Example
pub mod Laws
pub mod Own
pub mod Underway
