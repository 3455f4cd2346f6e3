mod Few
mod Made
