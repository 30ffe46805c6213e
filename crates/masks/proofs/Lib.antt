pub mod BitLaws
pub mod MaskLaws
pub mod TableLaws
