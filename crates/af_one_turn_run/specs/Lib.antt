pub mod NoPokes
pub mod MetLast
pub mod Laws
