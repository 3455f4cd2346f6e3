pub mod NumberedLists
