pub mod Bits
pub mod Showing
pub mod Counting
pub mod Seeking
pub mod Runs
