pub mod Refusals
pub mod Streams
pub mod Recordings
pub mod Statics
