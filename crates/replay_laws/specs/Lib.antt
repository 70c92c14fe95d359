pub mod Examples
pub mod Keeps
pub mod Places
pub mod Replay
pub mod Settled
