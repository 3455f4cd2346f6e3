mod Done
mod Numbered
