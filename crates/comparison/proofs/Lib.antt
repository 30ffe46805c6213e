pub mod CompareLaws
pub mod DifferenceLaws
pub mod ReplyLaws
pub mod ConversionLaws
pub mod Reordering
