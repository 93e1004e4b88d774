pub mod Header
pub mod Object
pub mod Heap
pub mod Fault
pub mod Shape
pub mod Live
pub mod Index
