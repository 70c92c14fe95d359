mod Off
mod Made
mod Orders
mod Telling
mod Unmade
