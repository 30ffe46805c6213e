pub mod ListBytes
pub mod promises
