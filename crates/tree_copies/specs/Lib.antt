pub mod Made
pub mod Laws
pub mod Parts
pub mod Shapes
