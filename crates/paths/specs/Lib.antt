pub mod Calls
pub mod HandOut
