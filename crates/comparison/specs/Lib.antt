pub mod Compare
pub mod Replies
pub mod promises
