pub mod Boards
pub mod Reasons
pub mod Replies
pub mod Entries
