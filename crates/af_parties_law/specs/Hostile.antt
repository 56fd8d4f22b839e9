-- What pokes may do: shut their own track, and no other.
use Rattle.std.specs.Prelude.{◌≡◌, ℕ, ◌<◌, ◌==◌, ◌&&◌, not, Bool, true, List, length}
use Rattle.std.specs.List.{list_all}
use Rattle.af_audit.specs.Spared.{none_corrupt}
use Rattle.af_base.specs.Turn.{Turn}
use Rattle.af_life.specs.Kept.{track_in}
use Rattle.af_life.specs.Obeys.{is_shut}
use Rattle.af_tally.specs.Summaries.{EntryUsed, Look, Shown, calls_of, entry_looks, is_lawful_shown, turn_looks}

-- none of these looks at stream blocks was Shut at the track i
abbrev pub none_shut : ℕ → List Look → Bool
none_shut i looks = list_all (λ look. not ((look.track == i) && is_shut look.seen)) looks

-- a turn of the normal mixer found neither block of the track i shut: no look at its commands was Shut, and none at its stream
abbrev pub is_spared_in_turn : ℕ → Turn → Bool
is_spared_in_turn i turn = list_all (λ look. not (is_shut look.seen)) (track_in turn i).looks && none_shut i (turn_looks turn)

-- The track i is spared in a run: no call of its client was answered Corrupt, and no look of the normal mixer at its blocks was Shut
pub record IsSpared (run : Shown) (i : ℕ) : Type 0 where
  pub calls : none_corrupt (calls_of run i) ≡ true
  pub turns : list_all (is_spared_in_turn i) run.turns ≡ true

-- Whatever the clients stored in their words, each track on whose blocks no poke was performed is spared
pub record PokesSpareOthers (run : Shown) : Type 0 where
  pub each : (i : ℕ) → i < length run.calls → is_lawful_shown run i ≡ true → IsSpared run i

-- an entry of the fast mixer has no look at the track i that was Shut
abbrev pub is_spared_in_entry : ℕ → EntryUsed → Bool
is_spared_in_entry i used = none_shut i (entry_looks used)

-- Whatever the clients stored in their words, no look of the fast mixer at the stream of a track on whose blocks no poke was performed was Shut
pub record PokesSpareEntries (run : Shown) : Type 0 where
  pub each : (i : ℕ) → i < length run.calls → is_lawful_shown run i ≡ true → list_all (is_spared_in_entry i) run.entries ≡ true
