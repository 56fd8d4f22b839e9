pub mod Asking
pub mod Parties
pub mod Turning
pub mod Works
