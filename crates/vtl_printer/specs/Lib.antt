pub mod Spellings
pub mod Layouts
pub mod LexedBack
pub mod Shown
pub mod ReadBack
