pub mod Tracks
pub mod Mixers
pub mod Opening
