mod Zips
mod Lines
mod HeldFacts
mod Clients
mod AfterEnd
mod OthersMet
