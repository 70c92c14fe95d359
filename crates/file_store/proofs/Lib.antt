mod Answering
mod Closed
mod Draining
mod Queueing
pub mod Shown
pub mod Stilled
mod Swept
