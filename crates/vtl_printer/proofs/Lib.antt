pub mod CharBytes
pub mod Fronts
pub mod Literals
pub mod Pushes
pub mod ReadsBack
pub mod Signs
pub mod Words
pub mod PrintLaws
