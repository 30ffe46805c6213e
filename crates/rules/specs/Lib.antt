pub mod Permit
pub mod promises
