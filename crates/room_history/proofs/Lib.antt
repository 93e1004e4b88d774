pub mod Chains
pub mod Twins
pub mod Callers
pub mod Disorders
