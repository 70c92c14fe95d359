mod Opened
mod Found
mod Refused
mod Made
