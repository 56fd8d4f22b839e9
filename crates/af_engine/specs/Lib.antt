pub mod MixerSpecs
pub mod Shares
pub mod NewTracks
pub mod NewEnds
pub mod Engines
pub mod NewEngine
pub mod Met
