pub mod NumberLaws
pub mod PutLaws
pub mod WroteLaws
pub mod DecimalLaws
