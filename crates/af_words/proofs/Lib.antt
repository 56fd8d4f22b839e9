mod PlainWords
mod Spelled
pub mod DrawnNames
mod Commands
mod SubWords
mod PlayerWords
