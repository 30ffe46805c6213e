pub mod Legal
pub mod Refusals
pub mod FileMatter
pub mod promises
