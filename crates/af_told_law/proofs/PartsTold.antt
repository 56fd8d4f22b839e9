-- After each turn of the normal mixer, with the meetings behind it known, what a step of the run needs of each track is told: the proxies that came home, the streams and the command proxies.
use Rattle.std.proofs.Common.{length, Bool, Some, arith, false, refl, slice_get, true, ℕ, ◌<◌, ◌≡◌}
use Rattle.af_told_law.proofs.Common.{AreTogether, IsLegal, Links, NormalState, Outside, Run, ServerState, Session, SessionState, Turn, TurnFound, TurnMade, answer_of, cycle_frames, outside_of, track_count, turn_of}
use Rattle.af_runs.specs.Sessions.{setup_of}
use Rattle.af_told_law.specs.Between.{StandsBefore}
use Rattle.af_told_law.specs.Comers.{ComersTell}
use Rattle.af_told_law.specs.NormalLaws.{PartsAreTold, PartsTold, TurnShown, did_by, track_turned}
use Rattle.af_told_law.proofs.Places.{StreamsGo, StreamsStay}
use Rattle.af_told_law.specs.QueueTurned.{QueueKnown}
use Rattle.af_told_law.specs.Tells.{Tells, TellsCommands, TellsStream}
use Rattle.af_told_law.proofs.ComersBack.{comers_legal}
use Rattle.af_told_law.proofs.NormalGoes.{streams_go, streams_stay}
use Rattle.af_told_law.proofs.StreamsEnded.{commands_ended, stream_ended, track_over}
use Rattle.af_told_law.proofs.StreamsTurned.{commands_told, stream_told, track_did}
use Rattle.af_told_law.specs.Deeds.{Deeds, TrackDid}

module _ (s : Session) (links : Links) (run : Run) (d : Deeds) (x : SessionState) (n : NormalState) (o : Outside) (f : TurnFound) (before : AreTogether links x) (after : AreTogether links (record x { normal = n })) (told : Tells s run d x) (stands : StandsBefore x) (legal : IsLegal o x.normal n)
    (made : TurnMade (answer_of (turn_of n.entry)) x.normal n) (shown : TurnShown s run x n o f) (known : QueueKnown (cycle_frames s) run x.normal) (lives : x.normal.ended ≡ false) where
  abbrev e : Turn
  e = turn_of n.entry

  within : (i : ℕ) → i < track_count s → i < length x.normal.tracks
  within i low = let a = told.count.1 in let b = before.count in omega (arith, low, a, b)

  -- ## A turn that went on

  module _ (runs : (turn_of n.entry).ended ≡ false) where
    goes : StreamsGo o x.normal n (turn_of n.entry)
    goes = streams_go links o x.normal n before.normal legal made runs

    comers_so : ComersTell run d x.normal (turn_of n.entry) legal.lists.back
    comers_so = comers_legal links x n o legal runs goes before stands shown.polled shown.pushed shown.later s run told

    stream_went : (i : ℕ) → i < track_count s → TellsStream n x.fast i (track_turned s f run e i).stream ((did_by o x n d).streams i)
    stream_went i low = stream_told links s run x n o told before after legal runs f shown.finds (shown.hears runs) goes stands known shown.polled shown.pushed shown.later i (within i low)

    commands_went : (i : ℕ) (t : ServerState) → slice_get n.commands i ≡ Some t → TellsCommands (track_turned s f run e i).commands ((did_by o x n d).commands i) t
    commands_went i t is = commands_told links s run x n o told before after legal runs f shown.finds (shown.hears runs) goes stands known shown.polled shown.pushed shown.later i t is

    did_went : (i : ℕ) → i < track_count s → TrackDid (did_by o x n d) i (track_turned s f run e i)
    did_went i low = track_did links s run x n o told before after legal runs f shown.finds (shown.hears runs) goes stands known shown.polled shown.pushed shown.later i (within i low)

  -- ## A turn that ended

  module _ (ends : (turn_of n.entry).ended ≡ true) where
    stays : StreamsStay o x.normal n (turn_of n.entry)
    stays = streams_stay links o x.normal n before.normal legal made ends

    stream_over : (i : ℕ) → i < track_count s → TellsStream n x.fast i (track_turned s f run e i).stream ((did_by o x n d).streams i)
    stream_over i low = stream_ended links s run x n o (outside_of (setup_of s) f e) told before legal ends stays lives stands.quiet i (within i low)

    commands_over : (i : ℕ) (t : ServerState) → i < track_count s → slice_get n.commands i ≡ Some t → TellsCommands (track_turned s f run e i).commands ((did_by o x n d).commands i) t
    commands_over i t low is = commands_ended links s run x n o (outside_of (setup_of s) f e) told before legal ends stays lives stands.quiet i t (within i low) is

    did_over : (i : ℕ) → i < track_count s → TrackDid (did_by o x n d) i (track_turned s f run e i)
    did_over i low = track_over links s run x n o (outside_of (setup_of s) f e) told before legal ends stays lives stands.quiet i (within i low)

  -- ## Either turn

  parts_by : (b : Bool) → (turn_of n.entry).ended ≡ b → PartsTold s run d x n o f legal
  parts_by false runs = record { comers = comers_so; streams = stream_went runs; commands = (λ i t low is. commands_went runs i t is); did = did_went runs }
  parts_by true ends = record { comers = comers_so; streams = stream_over ends; commands = commands_over ends; did = did_over ends }

-- after each turn the parts that a step of the run needs are told
pub parts_told : (s : Session) → PartsAreTold s
parts_told s links run d x n o f before after told stands legal made shown known lives = parts_by s links run d x n o f before after told stands legal made shown known lives (turn_of n.entry).ended refl
