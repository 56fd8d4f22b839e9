pub mod Slots
pub mod Heard
pub mod Fits
pub mod Mixer
pub mod Known
pub mod Mixing
pub mod Lends
pub mod Meets
