pub mod Handfuls
pub mod Mixes
pub mod Timings
pub mod Looks
