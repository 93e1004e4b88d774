pub mod Said
pub mod Steps
pub mod Slots
pub mod GivenRows
pub mod Walks
pub mod Parses
pub mod Assigned
pub mod Forms
