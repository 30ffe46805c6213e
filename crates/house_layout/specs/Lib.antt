pub mod Layout
pub mod Reply
pub mod Fields
pub mod promises
