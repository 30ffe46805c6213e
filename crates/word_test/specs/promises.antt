-- What functions promise each other; no contract of a call rests on these definitions.
pub mod Steps
pub mod Walk
pub mod Backward
pub mod Last
