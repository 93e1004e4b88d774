pub mod PuttingSome
pub mod Ranges
pub mod Timing
