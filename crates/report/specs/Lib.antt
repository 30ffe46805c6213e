pub mod Report
pub mod promises
