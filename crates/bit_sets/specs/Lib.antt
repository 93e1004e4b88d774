pub mod Bits
pub mod Rank
pub mod Next
pub mod Run
pub mod SetModel
pub mod RankedModel
