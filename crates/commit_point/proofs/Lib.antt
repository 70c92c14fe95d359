pub mod Steps
pub mod Making
pub mod Moving
pub mod Digits
pub mod Ready
pub mod Reading
pub mod Looking
