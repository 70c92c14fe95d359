pub mod Headers
pub mod Numbers
pub mod Seals
pub mod Facts
pub mod HeadFacts
pub mod Put
