pub mod Word
pub mod promises
