-- When the lists that the passes of a run kept are those of its journal. On a block that isn't lawful the journal leaves some fronts open.
use Rattle.std.specs.Prelude.{◌≡◌, ℕ, List, map, Option}
use Rattle.std.specs.Option.{option_map}
use Rattle.af_base.specs.declared.event.ClientEvent.{ClientEvent}
use Rattle.af_base.specs.declared.report.Report.{Report}
use Rattle.af_model.specs.declared.newest.ReaderEvent.{ReaderEvent}
use Rattle.af_model.specs.declared.states.MutatorEvent.{MutatorEvent}
use Rattle.af_model.specs.declared.states.MutatorEvent.TheVariants as mutator
use Rattle.af_model.specs.Order.{ones, twos}
use Rattle.af_runs.specs.Blocks.{BlockTold, client_list}
use Rattle.af_runs.specs.Runs.{Run}
use Rattle.af_runs.specs.Told.{Item}

-- the events of a client's pass, and the words released, are those told of it
pub record KeepsClient (b : BlockTold) (events : List ClientEvent) (released : List ℕ) : Type 0 where
  pub told : events ≡ client_list b
  pub words : released ≡ b.released

module _ {P : Type 0} where
  -- items that are only marked
  abbrev pub marked : List (Option P) → List (Option Item)
  marked items = map (option_map (λ p. tt)) items

  abbrev pub marked_event : MutatorEvent P → MutatorEvent Item
  marked_event (mutator.Push k x items) = mutator.Push k x (marked items)
  marked_event (mutator.SawAck a items) = mutator.SawAck a (marked items)
  marked_event (mutator.Learn count) = mutator.Learn count

  -- the events of the queue's mutator are those told of it
  abbrev pub KeepsMutator : Run → List (MutatorEvent P) → Type 0
  KeepsMutator run events = map marked_event events ≡ ones run.queue

-- the events of the report's reader are those told of it
abbrev pub KeepsReader : Run → List (ReaderEvent Report) → Type 0
KeepsReader run events = events ≡ twos run.report

-- the events of the pipe's end that puts, and the words put, are those told of it
pub record KeepsPipe (run : Run) (events : List ClientEvent) (put : List ℕ) : Type 0 where
  pub told : events ≡ ones run.pipe.told
  pub words : put ≡ run.pipe.put
