-- What functions promise each other; no contract of a call rests on these definitions.
pub mod Pairs
pub mod Building
pub mod Kept
pub mod Taking
