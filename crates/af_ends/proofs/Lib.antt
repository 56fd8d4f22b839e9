pub mod Crossing
pub mod Told
pub mod Parts
