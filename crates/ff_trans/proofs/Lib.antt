mod Marks
mod Indexes
mod Shares
mod Keys
mod Lists
mod FoundTriples
