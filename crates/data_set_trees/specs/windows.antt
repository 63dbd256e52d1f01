pub mod Functions
pub mod Parts
pub mod Results
pub mod Windows
pub mod WellTyped
pub mod Laws
pub mod Examples
