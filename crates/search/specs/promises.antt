-- What functions promise each other; no contract of a call rests on these definitions.
pub mod Last
pub mod Onward
pub mod PairSearch
pub mod Search
pub mod Walk
pub mod WordValues
pub mod WalkPairs
