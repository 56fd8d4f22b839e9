pub mod Common
pub mod Legal
pub mod MadeCalls
pub mod WorkLeft
pub mod CanWorkOn
pub mod StepMade
pub mod TurnMade
