pub mod Check
pub mod Meaning
pub mod Listed
pub mod promises
