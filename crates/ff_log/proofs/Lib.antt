mod NumberLemmas
mod PlaceLaws
mod CiteLaws
mod LineLaws
mod LogLaws
mod OneLog
mod Others
