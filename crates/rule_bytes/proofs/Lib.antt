pub mod Parsing
pub mod RoundTrip
pub mod ReadingLaws
pub mod CopyLaws
pub mod PlaceLaws
pub mod WordsLaws
