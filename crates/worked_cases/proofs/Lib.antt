pub mod CasesHold
pub mod FilesHold
pub mod CopiesHold
pub mod ComparisonsHold
pub mod UnknownsHold
