pub mod Frame
pub mod Faults
pub mod Told
pub mod Heads
pub mod Put
