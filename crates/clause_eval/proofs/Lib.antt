pub mod Parts
pub mod Puts
pub mod RoleLemmas
pub mod Named
