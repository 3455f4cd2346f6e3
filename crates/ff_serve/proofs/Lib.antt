mod Deduced
mod Quieted
mod Commands
