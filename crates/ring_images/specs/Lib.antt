pub mod Readable
pub mod Turned
pub mod Held
pub mod Append
pub mod Silent
pub mod Cleaning
pub mod Begun
pub mod Headers
