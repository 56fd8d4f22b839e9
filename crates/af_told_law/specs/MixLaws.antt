-- What the law of a mix says.
use Rattle.std.specs.Prelude.{List, None, [], drop, false, length, take, ℕ, ◌++◌, ◌∷◌, ◌≡◌}
use Rattle.af_base.specs.declared.frame.Frame.{Frame}
use Rattle.af_base.specs.declared.log.Cycle.{Cycle}
use Rattle.af_base.specs.declared.log.CycleEntry.{CycleEntry}
use Rattle.af_fast.specs.Mixer.{MixerState, is_over}
use Rattle.af_fast.specs.Mixing.{MixesOnce}
use Rattle.af_link.specs.declared.links.Links.{Links}
use Rattle.af_model.specs.Journals.{EntrySeen, taken_by}
use Rattle.af_runs.specs.Blocks.{Marks}
use Rattle.af_runs.specs.Rounds.{LegalEntry}
use Rattle.af_runs.specs.Runs.{Run, with_mix}
use Rattle.af_runs.specs.Sessions.{Session}
use Rattle.af_told_law.specs.Leads.{LeadAway}
use Rattle.af_session.specs.Together.{AreTogether, SessionState}
use Rattle.af_told_law.specs.Tells.{Leaves, Tells, held_slot}
use Rattle.af_model.specs.StateQueue.{HasStateHistory}
use Rattle.af_link.specs.PipeEnds.{SeesTaken}
use Rattle.af_enough_law.specs.Seen.{frames_taken}
use Rattle.af_told_law.specs.Deeds.{Deeds, SawOwnBy}

-- an entry as the journal has it, if the log had so many frames before
abbrev pub entry_told : List Frame → ℕ → CycleEntry → EntrySeen
entry_told frames place entry = record { entry = entry; frames = take (taken_by entry) (drop place frames) }

-- the entry that a mix from x to g added, as the journal has it
abbrev pub entry_added : SessionState → MixerState → CycleEntry → EntrySeen
entry_added x g entry = entry_told g.log.frames (length x.fast.log.frames) entry

-- the end of the pipe has as many frames as its list takes
abbrev pub TookCounted : MixerState → Type 0
TookCounted f = length f.pipe.pass.part.frames ≡ frames_taken f.pipe.pass.part.events

-- After the poll of a cycle, a mix of which it is known that each front of the pipe is the number of frames taken adds an entry, and the run with its mix tells the session. A server whose proxy isn't held did nothing. The entry is legal after what is told by marks on whose blocks each front seen is a server's own
abbrev pub MixIsTold : Links → Session → Run → Deeds → SessionState → MixerState → List Frame → Cycle → List Frame → Type 0
MixIsTold links s run d x g out answer out' =
    AreTogether links x → AreTogether links (record x { fast = g }) → LeadAway x.fast.observer.past.state x.normal.tracks → is_over x.fast ≡ false → MixesOnce x.fast out answer g out' → (g.frames ≡ x.fast.frames) × (g.cycles ≡ x.fast.cycles)
    → HasStateHistory x.normal.mutator.past.first x.normal.mutator.past.events x.fast.observer.past.events → TookCounted x.fast → SeesTaken 0 g.pipe.pass.part.events → Tells s run d x
    → (entry : CycleEntry) × (answer ≡ entry.cycle) × (g.log.entries ≡ x.fast.log.entries ++ entry ∷ []) × (left : Leaves s d (with_mix s (entry_added x g entry) run) (record x { fast = g }))
    × ((i : ℕ) → held_slot x.fast i ≡ None → left.deeds.streams i ≡ d.streams i) × ((marks : Marks) → SawOwnBy marks run left.deeds → LegalEntry s marks run (entry_added x g entry))

-- the run tells each mix of a session
abbrev pub MixesAreTold : Session → Type 0
MixesAreTold s = (links : Links) (run : Run) (d : Deeds) (x : SessionState) (g : MixerState) (out : List Frame) (answer : Cycle) (out' : List Frame) → MixIsTold links s run d x g out answer out'
