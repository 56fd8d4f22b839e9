-- What a journal records of the lists of the parties that made it.
use Rattle.std.specs.Prelude.{◌≡◌, ℕ, ◌+◌, ◌≤◌, List, [], ◌∷◌, length, map, flat_map, sum_by, slice_get, slice_index_or, Option, Some, None}
use Rattle.std.specs.List.{range_with_len}
use Rattle.af_base.specs.declared.event.ClientCall.{ClientCall}
use Rattle.af_base.specs.declared.event.ClientCall.TheVariants as call
use Rattle.af_base.specs.declared.event.ClientEvent.{ClientEvent}
use Rattle.af_base.specs.declared.log.CycleEntry.{CycleEntry}
use Rattle.af_base.specs.declared.state.Push.{Push}
use Rattle.af_base.specs.declared.state.Push.TheVariants.{Pushed, Clean, Busy}
use Rattle.af_base.specs.Turn.{Turn}
use Rattle.af_client.specs.Order.{ClientState}
use Rattle.af_model.specs.Journals.{EntrySeen, JournalData, RoundSeen, entries_of}
use Rattle.af_model.specs.Spelled.{Kind, stream, commands, ClientStep, called, met_server, client_spelled}
use Rattle.af_stateq.specs.Laws.{pushed_states}
use Rattle.af_session.specs.Ends.{EndsState}
use Rattle.af_session.specs.Shown.{released_by}
use Rattle.af_party.specs.Parties.{PartyState}

-- ## The clients' calls

-- the calls of a client that a journal records, in order: those of all rounds
abbrev pub calls_told : JournalData → ℕ → List ClientCall
calls_told j i = flat_map (λ (r : RoundSeen). slice_index_or r.calls i []) j.rounds

-- the calls among a client's calls and meetings
abbrev pub calls_among : List ClientStep → List ClientCall
calls_among [] = []
calls_among (called answer ∷ steps) = answer ∷ calls_among steps
calls_among (met_server count ∷ steps) = calls_among steps

-- A list on a block of this kind and these sizes is what these calls spell, each once and in their order, with meetings between them. A call on the other kind of block spells nothing
pub record IsSpelled (kind : Kind) (frames base : ℕ) (calls : List ClientCall) (events : List ClientEvent) : Type 0 where
  pub steps : List ClientStep
  pub calls_are : calls_among steps ≡ calls
  pub spelled : events ≡ client_spelled kind frames base steps

-- the list of a proxy is what these calls spell
abbrev pub Spells : Kind → List ClientCall → ClientState → Type 0
Spells kind calls c = IsSpelled kind c.pass.part.shape.frames c.pass.part.shape.base calls c.pass.part.events

-- the lists of both proxies of a client, of its stream and of its commands, are what these calls spell
abbrev pub BothSpell : List ClientCall → PartyState → Type 0
BothSpell calls p = Spells stream calls p.stream × Spells commands calls p.command

-- the two lists of each client that a run hands back are spelled by just the calls that the journal records
abbrev pub CallsStandOnce : JournalData → EndsState → Type 0
CallsStandOnce j ends = (i : ℕ) (p : PartyState) → slice_get ends.clients i ≡ Some p → BothSpell (calls_told j i) p

-- ## The frames released

-- how many frames a call of a client put
abbrev pub frames_put : ClientCall → ℕ
frames_put (call.Put front count) = count
frames_put _ = 0

-- how many frames the client of each track has released, by the calls that a journal records
abbrev pub released_told : JournalData → List ℕ
released_told j = map (λ (i : ℕ). sum_by frames_put (calls_told j i)) (range_with_len 0 j.tracks)

-- the clients that a run hands back have released as many frames as the journal's calls put
abbrev pub ReleasedAsTold : JournalData → EndsState → Type 0
ReleasedAsTold j ends = released_by ends.clients ≡ released_told j

-- ## The states pushed

-- the number of the state that a push passed on
abbrev pub number_pushed : Push → List ℕ
number_pushed (Pushed number) = number ∷ []
number_pushed Clean = []
number_pushed (Busy seen expected) = []

-- the number of the state that a turn's push passed on, if there was a turn
abbrev pub pushed_by : Option Turn → List ℕ
pushed_by None = []
pushed_by (Some turn) = number_pushed turn.push

-- the numbers of all states whose push a journal records, in order
abbrev pub pushes_told : JournalData → List ℕ
pushes_told j = flat_map (λ (r : RoundSeen). pushed_by r.turn) j.rounds

-- so many numbers, from 1 on
abbrev pub first_numbers : ℕ → List ℕ
first_numbers count = map (λ (k : ℕ). k + 1) (range_with_len 0 count)

-- the numbers of the pushes in a journal are those of the states that stand in the list of the mutator that a run hands back, each once and in order
abbrev pub PushesStandOnce : JournalData → EndsState → Type 0
PushesStandOnce j ends = pushes_told j ≡ first_numbers (length (pushed_states ends.normal.mutator.past.events))

-- ## The states used

-- the state of each entry is the one of the entry before it or the next state, from the number n on
abbrev pub StepsUp : ℕ → List CycleEntry → Type 0
StepsUp n [] = Unit {0}
StepsUp n (entry ∷ entries) = (n ≤ entry.state) × (entry.state ≤ n + 1) × StepsUp entry.state entries

-- no cycle of a journal uses a state older than that of a cycle before it, or leaves a state out
abbrev pub NoneOlder : JournalData → Type 0
NoneOlder j = StepsUp 0 (map (λ (e : EntrySeen). e.entry) (entries_of j.rounds))
