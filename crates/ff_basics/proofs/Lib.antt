pub mod Numbers
pub mod Tests
pub mod Options
pub mod Memberships
pub mod Lists
pub mod NumberedLists
