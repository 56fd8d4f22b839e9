-- Marks of meetings: events that change nothing, and name how many events of the other party stand before.
use Rattle.std.specs.Prelude.{◌≡◌, ℕ, zero, suc, ◌≤◌, Bool, true, false, max, fold, MatchBool, List, [], ◌∷◌, length}
use Rattle.af_base.specs.declared.event.ClientEvent.{ClientEvent}
use Rattle.af_base.specs.declared.event.ClientEvent.TheVariants as client
use Rattle.af_base.specs.declared.event.ServerEvent.{ServerEvent}
use Rattle.af_base.specs.declared.event.ServerEvent.TheVariants as server
use Rattle.af_base.specs.declared.event.HandEvent.{HandEvent}
use Rattle.af_base.specs.declared.event.HandEvent.TheVariants as hand
use Rattle.af_model.specs.declared.newest.WriterEvent.{WriterEvent}
use Rattle.af_model.specs.declared.newest.WriterEvent.TheVariants as writes
use Rattle.af_model.specs.declared.newest.ReaderEvent.{ReaderEvent}
use Rattle.af_model.specs.declared.newest.ReaderEvent.TheVariants as reads
use Rattle.af_model.specs.declared.states.MutatorEvent.{MutatorEvent}
use Rattle.af_model.specs.declared.states.MutatorEvent.TheVariants as mutator
use Rattle.af_model.specs.declared.states.ObserverEvent.{ObserverEvent}
use Rattle.af_model.specs.declared.states.ObserverEvent.TheVariants as observer

-- which events of a party are marks, and how many events of the other party each names: an event that is no mark names none
pub record Marking (E : Type 0) : Type 0 where
  pub is_mark : E → Bool
  pub named : E → ℕ

module _ {E : Type 0} (m : Marking E) where
  -- the most that the marks of a list name
  abbrev pub learnt : List E → ℕ
  learnt events = fold (λ most e. max (m.named e) most) 0 events

  -- all events past the first ones are marks
  abbrev pub OnlyMarksPast : ℕ → List E → Type 0
  OnlyMarksPast k [] = Unit {0}
  OnlyMarksPast zero (e ∷ es) = (m.is_mark e ≡ true) × OnlyMarksPast zero es
  OnlyMarksPast (suc k) (e ∷ es) = OnlyMarksPast k es

module _ {A B : Type 0} (mine : Marking A) (others : Marking B) where
  -- by its marks a party has learnt of all events, but marks, that the other one did
  abbrev pub KnowsAll : List A → List B → Type 0
  KnowsAll xs ys = OnlyMarksPast others (learnt mine xs) ys

  -- A party that did the first events, when the other one did the second, may do one more: a mark that names no more than was done, or any event once it has learnt of all
  abbrev pub IsDue : List A → List B → A → Type 0
  IsDue xs ys a = MatchBool (mine.is_mark a) (mine.named a ≤ length ys) (KnowsAll xs ys)

-- ## The marks of each party

abbrev pub client_named : ClientEvent → ℕ
client_named (client.Learn count) = count
client_named _ = 0

abbrev pub client_is_mark : ClientEvent → Bool
client_is_mark (client.Learn count) = true
client_is_mark _ = false

abbrev pub server_named : ServerEvent → ℕ
server_named (server.Learn count) = count
server_named _ = 0

abbrev pub server_is_mark : ServerEvent → Bool
server_is_mark (server.Learn count) = true
server_is_mark _ = false

abbrev pub hand_named : HandEvent → ℕ
hand_named (hand.SetFlags bits) = 0
hand_named (hand.Met count) = count

abbrev pub hand_is_mark : HandEvent → Bool
hand_is_mark (hand.SetFlags bits) = false
hand_is_mark (hand.Met count) = true

-- the marks of the parties of a block, and of the ends of a pipe, which put and take
abbrev pub client_marks : Marking ClientEvent
client_marks = record { is_mark = client_is_mark; named = client_named }

abbrev pub server_marks : Marking ServerEvent
server_marks = record { is_mark = server_is_mark; named = server_named }

abbrev pub hand_marks : Marking HandEvent
hand_marks = record { is_mark = hand_is_mark; named = hand_named }

module _ {P : Type 0} where
  abbrev pub mutator_named : MutatorEvent P → ℕ
  mutator_named (mutator.Learn count) = count
  mutator_named _ = 0

  abbrev pub mutator_is_mark : MutatorEvent P → Bool
  mutator_is_mark (mutator.Learn count) = true
  mutator_is_mark _ = false

  abbrev pub observer_named : ObserverEvent P → ℕ
  observer_named (observer.Learn count) = count
  observer_named _ = 0

  abbrev pub observer_is_mark : ObserverEvent P → Bool
  observer_is_mark (observer.Learn count) = true
  observer_is_mark _ = false

  abbrev pub writer_named : WriterEvent P → ℕ
  writer_named (writes.Learn count) = count
  writer_named _ = 0

  abbrev pub writer_is_mark : WriterEvent P → Bool
  writer_is_mark (writes.Learn count) = true
  writer_is_mark _ = false

  abbrev pub reader_named : ReaderEvent P → ℕ
  reader_named (reads.Learn count) = count
  reader_named _ = 0

  abbrev pub reader_is_mark : ReaderEvent P → Bool
  reader_is_mark (reads.Learn count) = true
  reader_is_mark _ = false

  -- the marks of the ends of a queue
  abbrev pub mutator_marks : Marking (MutatorEvent P)
  mutator_marks = record { is_mark = mutator_is_mark; named = mutator_named }

  abbrev pub observer_marks : Marking (ObserverEvent P)
  observer_marks = record { is_mark = observer_is_mark; named = observer_named }

  -- the marks of the ends of a newest-value cell
  abbrev pub writer_marks : Marking (WriterEvent P)
  writer_marks = record { is_mark = writer_is_mark; named = writer_named }

  abbrev pub reader_marks : Marking (ReaderEvent P)
  reader_marks = record { is_mark = reader_is_mark; named = reader_named }
