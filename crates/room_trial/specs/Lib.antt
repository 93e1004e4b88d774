pub mod Receipts
pub mod Scripts
pub mod Callers
pub mod Crews
pub mod Histories
pub mod Texts
