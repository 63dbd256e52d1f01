pub mod Rounding
pub mod SchoolLaws
