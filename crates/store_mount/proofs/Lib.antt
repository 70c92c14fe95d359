mod Fit
mod Told
mod Going
mod Ways
mod Refusals
pub mod Carried
mod Reopened
mod Numbers
