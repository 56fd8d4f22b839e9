-- A cycle that mixes nothing leaves each stream as the run's mix tells it: nothing was played.
use Rattle.std.proofs.Common.{Bool, List, None, Option, Some, ap, arith, false, find, if◌then◌else◌, length, nat_lt, not, refl, replicate, subst, suc, sym, true, zero, ℕ, ⊎_elim, ◌&&◌, ◌+◌, ◌<◌, ◌==◌, ◌∙◌, ◌≡◌, ◌≤◌}
use Rattle.af_told_law.proofs.Common.{BlockTold, CycleEntry, EntrySeen, FastState, MixerState, NormalState, Observes, ServerEvent, ServerState, Session, SlotEntry, StreamNames, TrackTold, absent, and_off, at, carries, cases_lt, cycle_frames, entry_slot, get_or-replicate, get_or_past, is_shown, item_at, length-replicate, mixed_track, observed, played, range_with_len, slice_index_or, slot_for, slot_of, slots, still_entry}
use Rattle.af_runs.specs.Runs.{shows_slot}
use Rattle.af_runs.specs.Runs as run_of
use Rattle.af_told_law.specs.Tells.{IfThere, TellsAway, TellsStream, items_sent, mutated_by}
use Rattle.af_told_law.specs.Deeds.{ServerDone, done_on}

abbrev Watching : Type 0
Watching = Observes ServerState StreamNames

-- ## Nothing is played

none_found : (p : ℕ → Bool) (a n : ℕ) → ((k : ℕ) → p k ≡ false) → find p (range_with_len a n) ≡ None
none_found p a zero all = refl
none_found p a (suc n) all = ap (λ (b : Bool). if b then Some a else find p (range_with_len (a + 1) n)) (all a) ∙ none_found p (a + 1) n all

absent_all : (k : ℕ) → slice_index_or (replicate slots absent) k absent ≡ absent
absent_all k = ⊎_elim (λ (low : k < slots). get_or-replicate slots k absent absent low) (λ (high : slots ≤ k). get_or_past (replicate slots absent) k absent (let l : length (replicate slots absent) ≡ slots = length-replicate slots absent in omega (arith, l, high))) (cases_lt k slots)

-- a track is as it was after an entry that mixes nothing
pub track_still : (s : Session) (x : FastState) (e : EntrySeen) (i : ℕ) (t : TrackTold) → e.entry ≡ still_entry e.entry.state e.entry.cycle → mixed_track s x e i t ≡ t
track_still s x e i t still =
    let none : run_of.slot_playing x e.entry i ≡ None = none_found (λ k. shows_slot x e.entry k && ((slot_of x k).track == i)) 0 slots (λ k.
    and_off (carries x k) (is_shown (entry_slot e.entry k).seen) ((slot_of x k).track == i) (ap (λ (entry : CycleEntry). is_shown (entry_slot entry k).seen) still ∙ ap (λ (slot : SlotEntry). is_shown slot.seen) (absent_all k))) in
    ap (λ (o : Option ℕ). elim o as (λ o. TrackTold) [ None ↦ t | Some k ↦ record t { stream = played (cycle_frames s) e k t.stream } ]) none

-- ## The same observer

module _ (m : NormalState) (f g : MixerState) (is : g.observer ≡ f.observer) (i : ℕ) (b : BlockTold) (deed : List ServerEvent) where
  abbrev did : ServerDone
  did = done_on b deed

  away_same : (k : ℕ) → TellsAway m f i k did → TellsAway m g i k did
  away_same k h = record {
    held = subst (λ (o : Watching). IfThere did (item_at o.items (slot_for o.past.state i))) (sym is) h.held;
    goes = subst (λ (o : Watching). slot_for o.past.state i ≡ None → nat_lt o.past.number m.mutator.past.number ≡ true → IfThere did (at (items_sent m) k)) (sym is) h.goes;
    comes = subst (λ (o : Watching). slot_for o.past.state i ≡ None → (not (nat_lt o.past.number m.mutator.past.number) && not (mutated_by m).clear) ≡ true → IfThere did (at (observed o.past.events).given k)) (sym is) h.comes;
    waits = subst (λ (o : Watching). slot_for o.past.state i ≡ None → ((not (nat_lt o.past.number m.mutator.past.number) && not (mutated_by m).clear) ≡ true → at (observed o.past.events).given k ≡ None) → IfThere did (at m.mutator.pending k)) (sym is) h.waits;
    back = subst (λ (o : Watching). slot_for o.past.state i ≡ None → ((not (nat_lt o.past.number m.mutator.past.number) && not (mutated_by m).clear) ≡ true → at (observed o.past.events).given k ≡ None) → IfThere did (at m.mutator.returned k)) (sym is) h.back;
  }

  pub stream_stays : TellsStream m f i b deed → TellsStream m g i b deed
  stream_stays h = record { home = h.home; away = (λ off. away_same _ (h.away off)); hand = h.hand }
