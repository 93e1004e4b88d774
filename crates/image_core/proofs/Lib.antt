pub mod Standing
pub mod Indexing
pub mod Naming
pub mod Parts
pub mod Faults
pub mod Once
pub mod Paths
