pub mod Totals
pub mod Steps
pub mod Closing
pub mod Making
pub mod Looking
