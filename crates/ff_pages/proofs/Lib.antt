mod Paged
mod Ends
mod Finding
mod RunningTo
mod Moved
mod Begun
mod Closing
mod Bordering
