pub mod Breaks
pub mod Lines
pub mod Numbers
pub mod Prints
pub mod Schedules
pub mod Trials
