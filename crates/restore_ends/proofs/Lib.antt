pub mod Alone
pub mod Replies
pub mod Came
pub mod Gone
pub mod Ran
pub mod Ends
pub mod Closes
pub mod Wanted
