pub mod Joins
pub mod Results
pub mod Shapes
pub mod Walks
