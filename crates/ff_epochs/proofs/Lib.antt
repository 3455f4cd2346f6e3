mod Settled
mod ListedPins
