pub mod RefusalNumbers
pub mod KindLaws
pub mod RecordLaws
pub mod LayoutLaws
pub mod Exits
