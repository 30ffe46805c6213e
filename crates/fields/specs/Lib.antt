pub mod Numbers
pub mod Decimal
pub mod promises
