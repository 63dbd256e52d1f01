pub mod Lists
pub mod Built
