pub mod SymbolLaws
pub mod LoadLaws
pub mod UnknownLaws
pub mod ShownLaws
pub mod LegalLaws
pub mod CallLaws
