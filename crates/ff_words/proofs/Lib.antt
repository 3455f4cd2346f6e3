mod AppLemmas
mod States
mod Steps
mod Forward
mod Backward
mod Final
mod DigitLemmas
