pub mod Cases
pub mod ListLaws
pub mod OrderLaws
pub mod Distinct
pub mod Pointwise
pub mod Pieces
pub mod ReorderLaws
pub mod Ranges
