-- Where the proxies of a turn of the normal mixer act.
use Rattle.std.specs.Prelude.{◌≡◌, ◌⊎◌, ℕ, ◌<◌, true, false, bit_and, List, [], length}
use Rattle.std.specs.List.{AllByRecursion}
use Rattle.af_base.specs.declared.event.ClientEvent.{ClientEvent}
use Rattle.af_base.specs.declared.event.ClientEvent.TheVariants as client
use Rattle.af_base.specs.Turn.{Turn}
use Rattle.af_life.specs.Heard.{learnt}
use Rattle.af_life.specs.Kept.{track_at, track_in, is_home}
use Rattle.af_life.specs.TurnEvents.{tracks_at, invalid}
use Rattle.af_runs.specs.Blocks.{client_list, is_tame}
use Rattle.af_runs.specs.Found.{TurnFound, outside_of}
use Rattle.af_runs.specs.Runs.{Run, told_at, takes_part}
use Rattle.af_runs.specs.Sessions.{Session, setup_of}

-- flags that the client saw, or cleared a flag of, had no INVALID
abbrev pub SeesNoInvalid : ClientEvent → Type 0
SeesNoInvalid (client.ClearFlags old) = bit_and old 4 ≡ 0
SeesNoInvalid (client.SawFlags flags) = bit_and flags 4 ≡ 0
SeesNoInvalid _ = Unit {0}

-- the flags that these events saw or cleared had no INVALID
abbrev pub SawNoInvalid : List ClientEvent → Type 0
SawNoInvalid events = AllByRecursion SeesNoInvalid events

-- If a turn finds a track shut whose stream proxy is home and whose stream block is tame so far, so that INVALID is set, the proxy took part in the last meetings, or the client saw no INVALID so far
abbrev pub FindsShutUnseen : Session → Run → TurnFound → Turn → Type 0
FindsShutUnseen s run f e = let k = learnt (outside_of (setup_of s) f e) in
    e.ended ≡ false → (n : ℕ) → n < length run.tracks → is_tame (told_at run n).stream ≡ true → is_home (track_at (tracks_at (setup_of s) k run.normal e n) n).holder ≡ true
    → (invalid k (track_in e n) (tracks_at (setup_of s) k run.normal e n) n ≡ []) ⊎ ((takes_part s run n ≡ true) ⊎ SawNoInvalid (client_list (told_at run n).stream))
