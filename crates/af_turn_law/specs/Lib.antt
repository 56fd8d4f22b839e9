pub mod Marking
pub mod Acting
pub mod Phased
pub mod ListTurns
pub mod Laws
