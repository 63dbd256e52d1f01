pub mod Numbers
pub mod Logic
pub mod Comparisons
pub mod Texts
pub mod Operators
pub mod Rows
pub mod Scalars
pub mod Kept
