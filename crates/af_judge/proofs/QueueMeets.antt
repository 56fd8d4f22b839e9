-- The ends of the state queue meet, and those of the report: each meeting cuts their history.
use Rattle.std.proofs.Common.{◌≡◌, ℕ, ◌+◌, ◌≤◌, refl, arith}
use Rattle.af_judge.proofs.Common.{CellPoint, MutatorEvent, ObserverEvent, QueuePoint, ReaderEvent, WriterEvent, one, two}
use Rattle.af_model.specs.declared.newest.WriterEvent.TheVariants as writes
use Rattle.af_model.specs.declared.newest.ReaderEvent.TheVariants as reads
use Rattle.af_model.specs.declared.states.MutatorEvent.TheVariants as mutator
use Rattle.af_model.specs.declared.states.ObserverEvent.TheVariants as observer
use Rattle.af_model.specs.NewestValue as newest
use Rattle.af_model.specs.StateQueue as queued
use Rattle.af_judge.proofs.Meetings.{IsMeeting}

-- what is at most a number is at most the next one
one_up : (k n : ℕ) → k ≤ n → k ≤ n + 1
one_up k n h = omega arith

module _ {P : Type 0} where
  mutator_counts : (p : QueuePoint P) (e : MutatorEvent P) → (queued.next p (one e)).mutator.count ≡ p.mutator.count + 1
  mutator_counts p (mutator.Push k x items) = refl
  mutator_counts p (mutator.SawAck a items) = refl
  mutator_counts p (mutator.Learn count) = refl

  observer_counts : (p : QueuePoint P) (e : ObserverEvent P) → (queued.next p (two e)).observer.count ≡ p.observer.count + 1
  observer_counts p (observer.SawNext k x items) = refl
  observer_counts p (observer.Ack k items) = refl
  observer_counts p (observer.Learn count) = refl

  mutator_keeps : (c : ℕ) (p : QueuePoint P) (e : MutatorEvent P) → queued.legal p (one e) → queued.legal (queued.next p (two (observer.Learn c))) (one e)
  mutator_keeps c p (mutator.Push k x items) may = may
  mutator_keeps c p (mutator.SawAck a items) may = may
  mutator_keeps c p (mutator.Learn count) may = one_up count p.observer.count may

  observer_keeps : (c : ℕ) (p : QueuePoint P) (e : ObserverEvent P) → queued.legal p (two e) → queued.legal (queued.next p (one (mutator.Learn c))) (two e)
  observer_keeps c p (observer.SawNext k x items) may = may
  observer_keeps c p (observer.Ack k items) may = may
  observer_keeps c p (observer.Learn count) may = (one_up count p.mutator.count may.0, may.1)

  -- the ends of the queue meet, when the observer did so many events before and the mutator so many
  pub queue_meeting : (looks steps : ℕ) → IsMeeting (queued.legal {P = P}) queued.next (λ p. p.mutator.count) (λ p. p.observer.count) (mutator.Learn looks) (observer.Learn steps) steps looks
  queue_meeting looks steps = record {
    first_counts = mutator_counts;
    first_stays = λ p y. refl;
    second_counts = observer_counts;
    second_stays = λ p x. refl;
    a_knows = λ p may. may;
    b_knows = λ p may. may.0;
    a_earlier = λ p y known may. known;
    b_earlier = λ p x known may. (known, may.1);
    a_keeps = observer_keeps looks;
    b_keeps = mutator_keeps steps;
    a_swaps = λ p y. refl;
    b_swaps = λ p x. refl;
  }

module _ {T : Type 0} where
  writer_counts : (p : CellPoint T) (e : WriterEvent T) → (newest.next_value p (one e)).writes ≡ p.writes + 1
  writer_counts p (writes.Store x) = refl
  writer_counts p (writes.Learn count) = refl

  writer_stays : (p : CellPoint T) (e : WriterEvent T) → (newest.next_value p (one e)).reads ≡ p.reads
  writer_stays p (writes.Store x) = refl
  writer_stays p (writes.Learn count) = refl

  writer_keeps : (c : ℕ) (p : CellPoint T) (e : WriterEvent T) → newest.legal_value p (one e) → newest.legal_value (newest.next_value p (two (reads.Learn c))) (one e)
  writer_keeps c p (writes.Store x) may = tt
  writer_keeps c p (writes.Learn count) may = one_up count p.reads may

  reader_keeps : (c : ℕ) (p : CellPoint T) (e : ReaderEvent T) → newest.legal_value p (two e) → newest.legal_value (newest.next_value p (one (writes.Learn c))) (two e)
  reader_keeps c p (reads.Load n x) may = may
  reader_keeps c p (reads.Learn count) may = one_up count p.writes may

  writer_swaps : (c : ℕ) (p : CellPoint T) (e : WriterEvent T) → newest.next_value (newest.next_value p (one e)) (two (reads.Learn c)) ≡ newest.next_value (newest.next_value p (two (reads.Learn c))) (one e)
  writer_swaps c p (writes.Store x) = refl
  writer_swaps c p (writes.Learn count) = refl

  -- the ends of a newest-value cell meet, when the reader did so many events before and the writer so many
  pub cell_meeting : (loads stores : ℕ) → IsMeeting (newest.legal_value {T = T}) newest.next_value (λ p. p.writes) (λ p. p.reads) (writes.Learn loads) (reads.Learn stores) stores loads
  cell_meeting loads stores = record {
    first_counts = writer_counts;
    first_stays = λ p y. refl;
    second_counts = λ p y. refl;
    second_stays = writer_stays;
    a_knows = λ p may. may;
    b_knows = λ p may. may;
    a_earlier = λ p y known may. known;
    b_earlier = λ p x known may. known;
    a_keeps = reader_keeps loads;
    b_keeps = writer_keeps stores;
    a_swaps = λ p y. refl;
    b_swaps = writer_swaps stores;
  }
