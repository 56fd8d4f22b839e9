-- What is told of each track after a turn of the normal mixer.
use Rattle.std.specs.Prelude.{List, Some, [], false, length, slice_get, ℕ, ◌++◌, ◌<◌, ◌∷◌, ◌≡◌}
use Rattle.af_base.specs.Turn.{Turn, turn_of}
use Rattle.af_life.specs.Kept.{Outside, Setup, is_home, pipe_size, slot_number, track_at}
use Rattle.af_normal.specs.LegalTurned.{IsLegal}
use Rattle.af_normal.specs.State.{NormalState, kept_of, setup_of as mixer_setup}
use Rattle.af_normal.specs.TurnMade.{TurnMade, answer_of}
use Rattle.af_link.specs.declared.links.Links.{Links}
use Rattle.af_runs.specs.Found.{TurnFound, outside_of}
use Rattle.af_runs.specs.Runs.{Run, TrackTold, told_at, turned_track}
use Rattle.af_runs.specs.Sessions.{Session, cycle_frames, setup_of, track_count}
use Rattle.af_server.specs.Order.{ServerState}
use Rattle.af_session.specs.Together.{AreTogether, SessionState}
use Rattle.af_told_law.specs.Between.{StandsBefore}
use Rattle.af_told_law.specs.QueueTurned.{QueueKnown}
use Rattle.af_told_law.specs.Comers.{ComersTell}
use Rattle.af_told_law.specs.Tells.{Tells, TellsCommands, TellsStream}
use Rattle.af_life.specs.Edits.{after_ack}
use Rattle.af_model.specs.StateQueue.{HasStateHistory}
use Rattle.af_life.specs.TurnEvents.{front_by_room}
use Rattle.af_model.specs.PipeHistory.{releases_of, room_by}
use Rattle.af_life.specs.Plays.{put_by}
use Rattle.af_model.specs.declared.states.MutatorEvent.TheVariants as mutator
use Rattle.af_base.specs.declared.event.ClientEvent.TheVariants as client
use Rattle.af_model.specs.declared.states.ObserverEvent.TheVariants as observer
use Rattle.af_told_law.specs.Deeds.{Deeds, TrackDid, deeds_turned}
use Rattle.af_base.specs.declared.report.Report.{Report}
use Rattle.af_life.specs.declared.kept.TrackKept.{TrackKept}
use Rattle.af_model.specs.Reports.{report_at}

-- the reports are of one cycle, and say the same of the slot of each track whose proxy isn't home
pub record HeardAlike (tracks : List TrackKept) (r q : Report) : Type 0 where
  pub cycle : r.cycle ≡ q.cycle
  pub slots : (i : ℕ) → i < length tracks → is_home (track_at tracks i).holder ≡ false → report_at r.slots (slot_number (track_at tracks i)) ≡ report_at q.slots (slot_number (track_at tracks i))

-- a turn finds the two blocks of each track as a run tells them
pub record FindsBlocks (run : Run) (f : TurnFound) : Type 0 where
  pub streams : (i : ℕ) → f.streams i ≡ (told_at run i).stream
  pub commands : (i : ℕ) → f.commands i ≡ (told_at run i).commands

-- what a turn that found this makes of a track
abbrev pub track_turned : Session → TurnFound → Run → Turn → ℕ → TrackTold
track_turned s f run e i = turned_track (setup_of s) (outside_of (setup_of s) f e) run.normal e i (told_at run i)

-- of the proxies that aren't home a turn that goes on heard what was found
abbrev pub HearsFound : NormalState → NormalState → Outside → TurnFound → Type 0
HearsFound m n o f = (turn_of n.entry).ended ≡ false → HeardAlike (after_ack (turn_of n.entry).ack (kept_of m)).tracks o.report f.report

-- a turn that looked at the pipe saw the front that its room gives
abbrev pub ShowsFront : Setup → NormalState → NormalState → Turn → Type 0
ShowsFront c m n e = let part = m.pipe.pass.part in (front : ℕ) → n.pipe.pass.part.events ≡ part.events ++ client.SawFront front ∷ releases_of part.shape.cells (length part.frames) (length (put_by c e.mixes))
    → front_by_room (pipe_size c) (length part.frames) (room_by (pipe_size c) (length part.frames) front) ≡ front

-- What is known, once all have met, of a turn of the normal mixer from x to n that saw o and found f: the blocks are found as they are told, of what isn't home the same was heard, the ends of the queue have a history just behind the turn, and the room gives the front of the pipe
pub record TurnShown (s : Session) (run : Run) (x : SessionState) (n : NormalState) (o : Outside) (f : TurnFound) : Type 0 where
  pub finds : FindsBlocks run f
  pub hears : HearsFound x.normal n o f
  pub polled : ℕ
  pub pushed : ℕ
  pub later : HasStateHistory x.normal.mutator.past.first (n.mutator.past.events ++ mutator.Learn polled ∷ []) (x.fast.observer.past.events ++ observer.Learn pushed ∷ [])
  pub front : ShowsFront (setup_of s) x.normal n (turn_of n.entry)

-- what the servers did up to the end of the turn that led to n and saw this
abbrev pub did_by : Outside → SessionState → NormalState → Deeds → Deeds
did_by o x n d = deeds_turned (mixer_setup x.normal) (kept_of x.normal) o (turn_of n.entry) d

-- the proxies that came home are told, and after the turn each track's stream and command proxy
pub record PartsTold (s : Session) (run : Run) (d : Deeds) (x : SessionState) (n : NormalState) (o : Outside) (f : TurnFound) (legal : IsLegal o x.normal n) : Type 0 where
  pub comers : (turn_of n.entry).ended ≡ false → ComersTell run d x.normal (turn_of n.entry) legal.lists.back
  pub streams : (i : ℕ) → i < track_count s → TellsStream n x.fast i (track_turned s f run (turn_of n.entry) i).stream ((did_by o x n d).streams i)
  pub commands : (i : ℕ) (t : ServerState) → i < track_count s → slice_get n.commands i ≡ Some t → TellsCommands (track_turned s f run (turn_of n.entry) i).commands ((did_by o x n d).commands i) t
  pub did : (i : ℕ) → i < track_count s → TrackDid (did_by o x n d) i (track_turned s f run (turn_of n.entry) i)

-- after each turn of the normal mixer the proxies that came home are told, and each track's stream and command proxy
abbrev pub PartsAreTold : Session → Type 0
PartsAreTold s = (links : Links) (run : Run) (d : Deeds) (x : SessionState) (n : NormalState) (o : Outside) (f : TurnFound) → AreTogether links x → AreTogether links (record x { normal = n }) → Tells s run d x → StandsBefore x
    → (legal : IsLegal o x.normal n) → TurnMade (answer_of (turn_of n.entry)) x.normal n → TurnShown s run x n o f → QueueKnown (cycle_frames s) run x.normal → x.normal.ended ≡ false
    → PartsTold s run d x n o f legal
