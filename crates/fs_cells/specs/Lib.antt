pub mod Actions
pub mod Laws
pub mod Parts
pub mod Standing
pub mod Starts
pub mod Values
