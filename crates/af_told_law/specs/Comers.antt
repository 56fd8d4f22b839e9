-- What a turn of the normal mixer needs of the stream proxies that come home in it.
use Rattle.std.specs.Prelude.{◌≡◌, ℕ, ◌<◌, ◌&&◌, true, length, List, Option, Some}
use Rattle.af_base.specs.Turn.{Turn}
use Rattle.af_life.specs.Edits.{after_ack}
use Rattle.af_life.specs.Kept.{is_home, is_returning, slot_number, track_at}
use Rattle.af_normal.specs.LegalTurned.{in_hand}
use Rattle.af_normal.specs.State.{NormalState, kept_of}
use Rattle.af_runs.specs.Runs.{Run, told_at}
use Rattle.af_server.specs.Order.{ServerState}
use Rattle.af_told_law.specs.Tells.{TellsServer}
use Rattle.af_told_law.specs.Deeds.{Deeds, done_on}

-- each stream proxy that comes home by the acknowledgement seen in the turn, with these items back, is there and did what is told of its block
abbrev pub ComersTell : Run → Deeds → NormalState → Turn → List (Option ServerState) → Type 0
ComersTell run d m e back = (i : ℕ) → i < length m.tracks → (e.ack && is_returning (track_at m.tracks i).holder) ≡ true → is_home (track_at (after_ack e.ack (kept_of m)).tracks i).holder ≡ true
    → (t : ServerState) × (in_hand back m.mutator.returned (slot_number (track_at m.tracks i)) ≡ Some t) × TellsServer (done_on (told_at run i).stream (d.streams i)) t
