pub mod Merges
pub mod MergeSteps
pub mod Walks
pub mod Rising
pub mod Stages
pub mod MergePieces
pub mod OneOrder
pub mod MergeSearch
