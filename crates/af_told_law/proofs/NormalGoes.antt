-- A turn of the normal mixer leaves each stream proxy in the place that it tells.
use Rattle.af_told_law.specs.Tells.{mutated_by}
use Rattle.std.proofs.Common.{◌≡◌, ℕ, ◌<◌, ◌==◌, ◌⊎◌, inl, inr, not, Bool, true, false, true≢false, MatchBool, if◌then◌else◌, refl, sym, ap, subst, ◌∙◌, List, [], ◌∷◌, ◌++◌, append-nil, length, Option, Some, None, eq-eqb}
use Rattle.af_told_law.proofs.Common.{BegunBy, Brings, Clean, Does, Ended, Grows, IsLegal, Links, Mutates, MutatorEvent, NormalState, Outside, ServerState, Stops, StreamNames, Turn, TurnMade, Turned, TurnsBy, WasAcked, answer_of, at, ended_turn, commands_exit, items_of, kept_of, learnt, marked, mutated, mutator_list, setup_of, slots, stream_at, turn_of, word}
use Rattle.af_model.specs.declared.states.MutatorEvent.TheVariants as mutator
use Rattle.af_normal.specs.Order.{IsInOrder}
use Rattle.af_told_law.proofs.Places.{StreamsGo, StreamsStay, TurnLeavesStreams}
use Rattle.af_told_law.proofs.AckPlaces.{came}
use Rattle.af_told_law.proofs.HandedTurn.{handed, parts, tied, empty}
use Rattle.af_told_law.proofs.PollTold.{marks_are}
use Rattle.af_told_law.proofs.QueueTold.{clear_told, still_told}
use Rattle.af_told_law.proofs.TurnGoes.{goes}
use Rattle.af_told_law.proofs.TurnSteps.{tells, told}

-- ## Where a proxy was that is home in a turn

module _ (links : Links) (o : Outside) (x y : NormalState) (order : IsInOrder links x) (legal : IsLegal o x y) (made : TurnMade (answer_of (turn_of y.entry)) x y) where
  abbrev e : Turn
  e = turn_of y.entry

  abbrev h : NormalState
  h = made.handed

  begun : BegunBy x h
  begun = handed links x made.begun h order made.begins made.hands

  -- ## A turn that went on

  module _ (lives : (turn_of y.entry).ended ≡ false) where
    turned : TurnsBy (turn_of y.entry).push made.handed y
    turned = (subst (λ (b : Bool). Does (if b then Ended else Turned (not (length e.mixes == 0)) e.push) h y) lives made.does).0

    tells_is : turn_of y.entry ≡ told links h (tied links x made.begun h order made.begins made.hands).0 (tied links x made.begun h order made.begins made.hands).1 (empty links x made.begun h order made.begins made.hands) turned.ack turned.report turned.room e.push y turned.goes_on
    tells_is = tells links h (tied links x made.begun h order made.begins made.hands).0 (tied links x made.begun h order made.begins made.hands).1 (empty links x made.begun h order made.begins made.hands) turned.ack turned.report turned.room e.push y turned.goes_on

    pub streams_go : StreamsGo o x y (turn_of y.entry)
    streams_go = subst (StreamsGo o x y) (sym tells_is)
        (goes links x made.begun h order made.begins made.hands turned.ack turned.report turned.room e.push y turned.goes_on
        (ap (λ (w : NormalState). w.ended) (sym begun.same) ∙ turned.lives.0) o
        (subst (λ (t : Turn). Grows (setup_of x) (kept_of x) o t x y) tells_is legal.lists)
        (λ off. (legal.legal.goes_on lives).ack (ap (λ (t : Turn). t.ack) tells_is ∙ off)))

  -- ## A turn that ended

  module _ (over : (turn_of y.entry).ended ≡ true) where
    stops : Stops made.handed y
    stops = subst (λ (b : Bool). Does (if b then Ended else Turned (not (length e.mixes == 0)) e.push) h y) over made.does

    abbrev Mutator : Type 0
    Mutator = Mutates ServerState StreamNames

    -- what the look leaves
    record Looked (m : Mutates ServerState StreamNames) : Type 0 where
      back : List (Option ServerState)
      events : m.past.events ≡ x.mutator.past.events ++ mutator_list (setup_of x) (learnt o) (kept_of x) ended_turn back [] []
      pending : m.pending ≡ x.mutator.pending
      returned : (k : ℕ) (t : ServerState) → k < slots → at m.returned k ≡ Some t → (at x.mutator.returned k ≡ Some t) ⊎ (at back k ≡ Some t)
      first : m.past.first ≡ x.mutator.past.first
      still : (m.past.number ≡ x.mutator.past.number) × (m.past.last ≡ x.mutator.past.last) × (m.past.before ≡ x.mutator.past.before)
      items : (mutated m.past.first m.past.events).items ≡ (mutated_by x).items
      marks : x.ended ≡ false → marked back ≡ (if not x.mutator.past.clear then items_of x.mutator.past.before x.mutator.past.last else [])
      clear : x.ended ≡ false → (m.past.clear ≡ true) × ((mutated_by x).pushed ≡ x.mutator.past.number → (mutated m.past.first m.past.events).clear ≡ true)

    mutator_h : h.mutator ≡ x.mutator
    mutator_h = ap (λ (w : NormalState). w.mutator) begun.same

    listed_by : (b : Bool) (events : List (MutatorEvent ServerState)) → x.ended ≡ b → (if b then [] else events) ≡ (if x.ended then [] else events)
    listed_by b events is = ap (λ (d : Bool). if d then [] else events) (sym is)

    -- the items that a look brings stand at the slots that the last state no longer carries
    marks_of : (back : List (Option ServerState)) → Brings x.mutator back → (b : Bool) → x.mutator.past.clear ≡ b → marked back ≡ (if not b then items_of x.mutator.past.before x.mutator.past.last else [])
    marks_of back brings true is = ap (λ (items : List (Option ServerState)). marked items) (brings.0 is)
    marks_of back brings false is = marks_are x.mutator.past.before x.mutator.past.last back (brings.1 is)

    looked : (b : Bool) → x.ended ≡ b → MatchBool b (stops.mutator ≡ h.mutator) (WasAcked h.mutator true stops.mutator × (commands_exit h.mutator.past.last ≡ true)) → Looked stops.mutator
    looked true is l = let same : stops.mutator ≡ x.mutator = l ∙ mutator_h in record {
      back = [];
      events = ap (λ (m : Mutates ServerState StreamNames). m.past.events) same ∙ sym (append-nil x.mutator.past.events) ∙ ap (λ (es : List (MutatorEvent ServerState)). x.mutator.past.events ++ es) (listed_by true (mutator.SawAck x.mutator.past.number [] ∷ []) is);
      pending = ap (λ (m : Mutates ServerState StreamNames). m.pending) same;
      returned = (λ k t low f. inl (ap (λ (m : Mutates ServerState StreamNames). at m.returned k) (sym same) ∙ f));
      first = ap (λ (m : Mutates ServerState StreamNames). m.past.first) same;
      still = (ap (λ (m : Mutates ServerState StreamNames). m.past.number) same, ap (λ (m : Mutates ServerState StreamNames). m.past.last) same, ap (λ (m : Mutates ServerState StreamNames). m.past.before) same);
      items = ap (λ (m : Mutates ServerState StreamNames). (mutated m.past.first m.past.events).items) same;
      marks = (λ off. absurd (true≢false (sym is ∙ off)));
      clear = (λ off. absurd (true≢false (sym is ∙ off)));
    }
    looked false is l =
        let acked : WasAcked x.mutator true stops.mutator = subst (λ (m : Mutates ServerState StreamNames). WasAcked m true stops.mutator) mutator_h l.0 in
        let list : stops.mutator.past.events ≡ x.mutator.past.events ++ mutator.SawAck x.mutator.past.number acked.0 ∷ [] = ap (λ (m : Mutates ServerState StreamNames). m.past.events) acked.1 in
        let first_is : stops.mutator.past.first ≡ x.mutator.past.first = ap (λ (m : Mutates ServerState StreamNames). m.past.first) acked.1 in record {
          back = acked.0;
          events = list ∙ ap (λ (es : List (MutatorEvent ServerState)). x.mutator.past.events ++ es) (listed_by false (mutator.SawAck x.mutator.past.number acked.0 ∷ []) is);
          pending = ap (λ (m : Mutates ServerState StreamNames). m.pending) acked.1;
          returned = (λ k t low f. by_came acked.0 k t (came acked.0 x.mutator.returned stops.mutator.returned k t (acked.2 k low) f));
          first = first_is;
          still = (ap (λ (m : Mutates ServerState StreamNames). m.past.number) acked.1, ap (λ (m : Mutates ServerState StreamNames). m.past.last) acked.1, ap (λ (m : Mutates ServerState StreamNames). m.past.before) acked.1);
          items = (λ j. (mutated (first_is j) (list j)).items) ∙ still_told x.mutator.past.first x.mutator.past.events x.mutator.past.number acked.0 [] [] (kept_of x) Clean refl;
          marks = (λ off. marks_of acked.0 acked.3 x.mutator.past.clear refl);
          clear = (λ off. (
            ap (λ (m : Mutates ServerState StreamNames). m.past.clear) acked.1 ∙ eq-eqb (word x.mutator.past.number) (word x.mutator.past.number) refl,
            (λ number. (λ j. (mutated (first_is j) (list j)).clear) ∙ clear_told x.mutator.past.first x.mutator.past.events x.mutator.past.number acked.0 [] [] (kept_of x) Clean true refl
                (eq-eqb x.mutator.past.number (mutated_by x).pushed (sym number)) (λ busy. absurd (true≢false (sym busy)))),
          ));
        }
      where
        by_came : (back : List (Option ServerState)) (k : ℕ) (t : ServerState) → (at back k ≡ Some t) ⊎ ((at x.mutator.returned k ≡ Some t) × (at back k ≡ None)) → (at x.mutator.returned k ≡ Some t) ⊎ (at back k ≡ Some t)
        by_came back k t (inl f) = inr f
        by_came back k t (inr f) = inl f.0

    mutator_y : y.mutator ≡ stops.mutator
    mutator_y = ap (λ (w : NormalState). w.mutator) stops.leaves

    all_looked : Looked y.mutator
    all_looked = subst Looked (sym mutator_y) (looked x.ended refl (subst (λ (b : Bool). MatchBool b (stops.mutator ≡ h.mutator) (WasAcked h.mutator true stops.mutator × (commands_exit h.mutator.past.last ≡ true))) (ap (λ (w : NormalState). w.ended) begun.same) stops.looks))

    pub streams_stay : StreamsStay o x y (turn_of y.entry)
    streams_stay = subst (StreamsStay o x y) (sym stops.tells) (record {
      back = all_looked.back;
      mutator = all_looked.events;
      tracks = ap (λ (w : NormalState). w.tracks) stops.leaves ∙ ap (λ (w : NormalState). w.tracks) begun.same;
      home = (λ i t is. parts links x made.begun h order made.begins made.hands i t (ap (λ (w : NormalState). stream_at w.streams i) (sym stops.leaves) ∙ is));
      pending = all_looked.pending;
      returned = all_looked.returned;
      first = all_looked.first;
      still = all_looked.still;
      same_items = all_looked.items;
      marks_back = all_looked.marks;
      clear = all_looked.clear;
    })

-- ## Either turn

pub turn_leaves : (links : Links) (o : Outside) (x y : NormalState) → TurnLeavesStreams links o x y
turn_leaves links o x y order legal made = (streams_go links o x y order legal made, streams_stay links o x y order legal made)
