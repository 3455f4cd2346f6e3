pub mod Readings
mod Written
mod Floats
mod Feeds
mod ReadBack
