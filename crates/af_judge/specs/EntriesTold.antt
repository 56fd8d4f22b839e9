-- What some entries of a log leave, told one after the other, and when all are right.
use Rattle.std.specs.Prelude.{◌≡◌, ℕ, ◌+◌, ◌<◌, ◌≤◌, ◌==◌, ◌&&◌, Bool, MatchBool, fold, List, [], ◌∷◌}
use Rattle.af_base.specs.declared.frame.Frame.{Frame}
use Rattle.af_base.specs.declared.log.CycleEntry.{CycleEntry}
use Rattle.af_base.specs.declared.state.FastState.{FastState}
use Rattle.af_judge.specs.declared.track_judge.TrackJudge.{TrackJudge}
use Rattle.af_judge.specs.FastKept.{EndsAsTurn, FastKept, IsEntryRight, entry_told, entry_tracks}

-- what is kept of the fast mixer and of the tracks
pub record Playing : Type 0 where
  pub fast : FastKept
  pub tracks : List TrackJudge

abbrev pub playing : FastKept → List TrackJudge → Playing
playing fast tracks = record { fast = fast; tracks = tracks }

-- what an entry leaves of the fast mixer and of the tracks
unfoldable pub entry_leaves : List FastState → List Frame → CycleEntry → Playing → Playing
entry_leaves states frames entry p = record { fast = entry_told states frames entry p.tracks p.fast; tracks = entry_tracks states frames entry p.fast p.tracks }

-- what some entries leave, one after the other
abbrev pub entries_leave : List FastState → List Frame → List CycleEntry → Playing → Playing
entries_leave states frames entries p = fold (λ q entry. entry_leaves states frames entry q) p entries

-- an entry is right after what was told
unfoldable pub IsRightAfter : List FastState → List Frame → CycleEntry → Playing → Type 0
IsRightAfter states frames entry p = IsEntryRight states frames entry p.fast p.tracks

-- each of some entries is right after what was told, those before it among that
abbrev pub AreEntriesRight : List FastState → List Frame → List CycleEntry → Playing → Type 0
AreEntriesRight states frames [] p = Unit {0}
AreEntriesRight states frames (entry ∷ entries) p = IsRightAfter states frames entry p × AreEntriesRight states frames entries (entry_leaves states frames entry p)

-- So many entries of a log from a place on may follow, by a script of so many cycles: there is room for them, none come after the end, and else they are a turn. `cut` says whether it may end since the log is full
pub record MayEnter (cut : Bool) (f : FastKept) (cycles : ℕ) (entries : List CycleEntry) (first count : ℕ) : Type 0 where
  pub room : f.told.report.cycle < cycles
  pub within : f.told.report.cycle + count ≤ cycles
  pub turn : MatchBool f.ended (count ≡ 0) (EndsAsTurn entries first count 16 (cut && f.told.report.cycle + count == cycles))
