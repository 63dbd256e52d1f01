pub mod Times
pub mod Laws
pub mod Examples
