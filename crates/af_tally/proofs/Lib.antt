pub mod Tallying
pub mod Sounding
