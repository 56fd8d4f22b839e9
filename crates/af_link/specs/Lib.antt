pub mod PipeEnds
pub mod Reports
pub mod Names
pub mod Linked
