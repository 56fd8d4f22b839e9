pub mod RenderLaws
pub mod TurnsSoFar
