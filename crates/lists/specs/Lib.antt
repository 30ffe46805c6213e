pub mod Lists
pub mod Order
pub mod Reorder
