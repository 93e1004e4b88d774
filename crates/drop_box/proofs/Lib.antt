pub mod Can
pub mod Left
