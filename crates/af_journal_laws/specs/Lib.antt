pub mod Meetings
pub mod Spared
pub mod Alone
pub mod Fates
pub mod Alive
pub mod Drained
pub mod Settled
pub mod Laws
