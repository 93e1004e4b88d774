pub mod Spelling
pub mod Header
pub mod Once
pub mod Stages
pub mod Drawing
pub mod ObjectWords
pub mod Lawful
pub mod Reading
