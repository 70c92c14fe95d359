pub mod Rows
pub mod Places
pub mod Chains
pub mod Draining
