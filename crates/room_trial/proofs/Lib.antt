pub mod Receipts
pub mod Counting
pub mod Answering
pub mod Together
pub mod Texts
