pub mod Store
pub mod Holds
pub mod Faults
