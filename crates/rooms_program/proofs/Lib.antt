pub mod Digits
pub mod Inputs
pub mod Limits
pub mod Performing
pub mod Schedules
pub mod Trials
