pub mod Carried
pub mod Examples
pub mod Keeps
pub mod Places
pub mod Settled
pub mod Unique
pub mod Walk
