-- What functions promise each other; no contract of a call rests on these definitions.
pub mod Archive
pub mod Shown
pub mod Symbols
