pub mod Common
mod Mets
mod Rising
mod MetTests
mod Levels
mod EagerMets
mod StageCounts
mod Extends
mod OneOrder
mod MayTests
mod MetsInOrder
mod OrderToTurns
mod TurnsToOrder
mod TurnsAndOrders
pub mod Histories
