pub mod Values
pub mod promises
