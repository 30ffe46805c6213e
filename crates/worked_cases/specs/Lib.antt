pub mod Text
pub mod Cases
pub mod Files
pub mod Copies
pub mod Comparisons
pub mod Unknowns
