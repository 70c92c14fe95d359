pub mod Lines
pub mod Texts
pub mod Faults
pub mod Stores
pub mod Steps
pub mod Laws
pub mod News
