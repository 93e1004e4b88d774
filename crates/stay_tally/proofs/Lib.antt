pub mod Can
pub mod Counted
pub mod Together
pub mod Closed
