pub mod Shown
pub mod Tables
pub mod Lists
pub mod PlainLaws
