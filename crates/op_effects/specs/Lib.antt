pub mod Ready
pub mod Collections
pub mod Clear
