pub mod Journals
pub mod Stands
pub mod Releases
pub mod Ends
pub mod Counts
pub mod Words
-- statements at work, for what stands above
pub use Rattle.transform_nodes.specs.Nodes
pub use Rattle.transform_nodes.specs.Faults
pub use Rattle.transform_nodes.specs.Trees
pub use Rattle.transform_nodes.specs.declared.fault
pub use Rattle.transform_nodes.specs.declared.node
pub use Rattle.transform_nodes.specs.declared.work
