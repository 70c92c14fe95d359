mod Faults
mod Enters
mod GivesUp
mod Reopens
