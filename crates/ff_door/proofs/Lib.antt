mod Turns
mod Gathering
mod Rows
mod Sound
mod Ends
mod Made
