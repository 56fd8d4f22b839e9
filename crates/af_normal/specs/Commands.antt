-- What the looks at a command block do to its server.
use Rattle.std.specs.Prelude.{◌≡◌, ℕ, List, [], ◌∷◌, ◌++◌}
use Rattle.af_base.specs.declared.turn.CommandLook.{CommandLook}
use Rattle.af_model.specs.Cycles.{LooksBy}
use Rattle.af_server.specs.Order.{ServerState}
use Rattle.af_server.specs.Slot.{listed}
use Rattle.af_life.specs.Looks.{as_slot, command_events, all_command_events, HasWords, LegalLooks, words_taken}

-- one look, by some front
pub record LooksOnce (s : ServerState) (look : CommandLook) (t : ServerState) : Type 0 where
  pub front : ℕ
  pub looks : LooksBy 2 (listed s) (as_slot look) front
  pub words : HasWords look
  pub list : t.pass.part.events ≡ s.pass.part.events ++ command_events (listed s) look front
  pub took : t.pass.part.frames ≡ s.pass.part.frames ++ words_taken (look ∷ [])
  pub shape : t.pass.part.shape ≡ s.pass.part.shape
  pub hand : t.pass.has_hand ≡ s.pass.has_hand

-- some looks, each by some front
pub record LooksMade (s : ServerState) (looks : List CommandLook) (t : ServerState) : Type 0 where
  pub fronts : List ℕ
  pub legal : LegalLooks (listed s) looks fronts
  pub list : t.pass.part.events ≡ s.pass.part.events ++ all_command_events (listed s) looks fronts
  pub took : t.pass.part.frames ≡ s.pass.part.frames ++ words_taken looks
  pub shape : t.pass.part.shape ≡ s.pass.part.shape
  pub hand : t.pass.has_hand ≡ s.pass.has_hand
