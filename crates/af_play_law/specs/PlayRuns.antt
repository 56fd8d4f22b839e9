-- What the rounds of a play are by its journal.
use Rattle.std.specs.Prelude.{◌≡◌, ℕ, ◌<◌, ◌&&◌, ◌||◌, Bool, true, false, List, [], ◌∷◌}
use Rattle.std.specs.List.{list_all}
use Rattle.af_link.specs.declared.links.Links.{Links}
use Rattle.af_model.specs.Journals.{RoundSeen}
use Rattle.af_party.specs.Parties.{PartyState}
use Rattle.af_runs.specs.Blocks.{Marks}
use Rattle.af_runs.specs.LegalRuns.{run_from}
use Rattle.af_runs.specs.Rounds.{LegalRound, after_round, all_played}
use Rattle.af_runs.specs.Runs.{Run, takes_part, told_at}
use Rattle.af_runs.specs.Sessions.{Session, track_count}
use Rattle.af_session.specs.Rounds.{with_ends}
use Rattle.af_session.specs.Together.{SessionState}
use Rattle.af_told_law.specs.Deeds.{Deeds, GoOn, SawOwnOf}
use Rattle.af_told_law.specs.Marked.{IsMarkedRun, IsRoundMarked}
use Rattle.af_play_law.specs.RoundPlayed.{PlayStands, RoundPlayed}

-- ## Rounds of a session

-- every client has ended, and both mixers
abbrev pub all_over : SessionState → Bool
all_over x = x.normal.ended && (x.fast.exited && list_all (λ (p : PartyState). p.client.ended) x.clients)

-- These rounds, one after the other, from x to t: each finds that some party goes on, and pokes no block that the marks call lawful
abbrev pub PlaysOn : Session → Marks → SessionState → List RoundSeen → SessionState → Type 0
PlaysOn s marks x [] t = t ≡ x
PlaysOn s marks x (round ∷ rounds) t = (links : Links) × (u : SessionState) × (z : SessionState) × (bytes : List ℕ) × (all_over x ≡ false) × IsRoundMarked marks round.calls × RoundPlayed links s x u z bytes round × PlaysOn s marks (with_ends z) rounds t

-- ## The blocks whose servers' looks are known

-- a track's stream proxy takes part in the meeting after one of these rounds
abbrev pub meets_from : Session → Run → List RoundSeen → ℕ → Bool
meets_from s run [] track = false
meets_from s run (round ∷ rounds) track = takes_part s (all_played s run round) track || meets_from s (after_round s run round) rounds track

-- what is said of the fronts of a stream's looks goes up to its last meeting
abbrev pub sure_marks : Session → Marks → Run → List RoundSeen → Marks
sure_marks s marks run rounds = record { streams = λ track. marks.streams track && meets_from s run rounds track; commands = marks.commands }

-- each round is legal after those before it, up to the last meetings
abbrev pub SureRounds : Session → Marks → Run → List RoundSeen → Type 0
SureRounds s marks run [] = Unit {0}
SureRounds s marks run (round ∷ rounds) = LegalRound true s (sure_marks s marks run (round ∷ rounds)) run round × SureRounds s marks (after_round s run round) rounds

-- ## The law

-- the run tells the session, and no block was poked so far that the marks call lawful
pub record PlayHolds (s : Session) (marks : Marks) (run : Run) (d : Deeds) (x : SessionState) : Type 0 where
  pub stands : PlayStands s run d x
  pub marked : IsMarkedRun marks run

-- The rounds are legal up to the last meetings, the run after them tells the session, and of each stream that meets in one of them each front seen before is its server's own
pub record RunIsTold (s : Session) (marks : Marks) (run : Run) (d : Deeds) (rounds : List RoundSeen) (t : SessionState) : Type 0 where
  pub deeds : Deeds
  pub goes : GoOn d deeds
  pub holds : PlayHolds s marks (run_from s run rounds) deeds t
  pub sure : SureRounds s marks run rounds
  pub saw : (i : ℕ) → i < track_count s → marks.streams i ≡ true → meets_from s run rounds i ≡ true → SawOwnOf (told_at run i).stream.shape (d.streams i)

-- for any marks and any run that tells a session, the rounds played from there on are told
abbrev pub RunsAreTold : Session → Type 0
RunsAreTold s = (marks : Marks) (rounds : List RoundSeen) (run : Run) (d : Deeds) (x t : SessionState) → PlayHolds s marks run d x → PlaysOn s marks x rounds t → RunIsTold s marks run d rounds t
