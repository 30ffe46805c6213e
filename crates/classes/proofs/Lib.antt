pub mod OpenLaws
pub mod PrefixLaws
pub mod SeekLaws
pub mod LengthLaws
pub mod AfterLaws
pub mod ByWordsLaws
pub mod ClassLaws
