pub mod Loop
pub mod Codec
pub mod Payload
pub mod Shorts
