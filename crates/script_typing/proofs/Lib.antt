pub mod Walks
pub mod Progress
pub mod Fitting
pub mod Results
