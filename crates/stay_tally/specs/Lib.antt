pub mod Tally
pub mod Laws
pub mod Staying
pub mod Crews
