pub mod Commands
pub mod Limits
pub mod Runs
pub mod Schedules
pub mod Sizes
pub mod Statuses
pub mod Texts
pub mod Trials
