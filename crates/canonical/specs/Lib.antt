pub mod Canonical
pub mod Calls
pub mod Shape
pub mod promises
