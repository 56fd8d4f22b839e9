mod Puts
mod Releases
mod Cycles
mod Fronts
