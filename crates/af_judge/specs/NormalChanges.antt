-- How a judge tells what a turn changed.
use Rattle.std.specs.Prelude.{ℕ, ◌==◌, ◌||◌, not, nat_lt, Bool, List, map, drop, if◌then◌else◌, ◌∷◌}
use Rattle.af_base.specs.declared.state.FastState.{FastState}
use Rattle.af_base.specs.declared.turn.NormalTake.{NormalTake}
use Rattle.af_base.specs.Command.{code_of}

-- the draft was edited: the tracks changed, or the command
abbrev pub is_edited : FastState → FastState → Bool
is_edited before after = nat_lt before.tracks_gen after.tracks_gen || not (code_of after.command == code_of before.command)

-- the tracks of the takes from a place on
abbrev pub tracks_from : List NormalTake → ℕ → List ℕ
tracks_from takes next = map (λ take. take.track) (drop next takes)

-- the number in front of others, if it is due
abbrev pub with_due : Bool → ℕ → List ℕ → List ℕ
with_due due i others = if due then i ∷ others else others
