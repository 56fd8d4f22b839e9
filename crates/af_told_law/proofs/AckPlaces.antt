-- Where the items in hand lie after a look at the acknowledgement, and what it leaves of the pushes.
use Rattle.std.proofs.Common.{◌≡◌, ◌≢◌, ℕ, zero, suc, ◌+◌, ◌<◌, ◌&&◌, ◌⊎◌, inl, inr, not, Bool, true, false, true≢false, is_some, if◌then◌else◌, refl, sym, ap, subst, ◌∙◌, List, [], ◌∷◌, ◌++◌, length, Option, Some, None, ⊎_elim, eq-eqb, get_or-set_other, arith}
use Rattle.af_told_law.proofs.Common.{AreOf, FastTrack, InSlot, IsTied, Links, MutatorEvent, Mutates, NormalState, Pushes as Past, SeesAck, ServerState, StreamNames, WasAcked, Welcomes, WelcomesTo, acked_list, append_cancel_left, at, carries, cases_eq, is_out, kept_of, none-some, not_true, number_seen, saw, set-get_or, slice_set, slot_number, slots, takes_back, track_at, with_mutator, word}
use Rattle.af_model.specs.declared.states.MutatorEvent.TheVariants as mutator
use Rattle.af_normal.proofs.Welcomed.{by_return}
use Rattle.af_told_law.proofs.Basics.{item_within}
use Rattle.af_told_law.proofs.EditPlaces.{item_set}

pub none_of : (o : Option ServerState) → ((t : ServerState) → o ≡ Some t → ⊥) → o ≡ None
none_of None f = refl
none_of (Some t) f = absurd (f t refl)

pub none_by : (o : Option ServerState) → is_some o ≡ false → o ≡ None
none_by None e = refl
none_by (Some t) e = absurd (true≢false e)

pub none_set : (items : List (Option ServerState)) (k : ℕ) → at (slice_set items k None) k ≡ None
none_set [] k = refl
none_set (o ∷ items) zero = refl
none_set (o ∷ items) (suc k) = none_set items k

-- an item in hand came, or was there if none came
pub came : (items before after : List (Option ServerState)) (k : ℕ) (t : ServerState) → at after k ≡ (if is_some (at items k) then at items k else at before k) → at after k ≡ Some t → (at items k ≡ Some t) ⊎ ((at before k ≡ Some t) × (at items k ≡ None))
came items before after k t is e = by_item (at items k) refl
  where
    by_item : (o : Option ServerState) → at items k ≡ o → (at items k ≡ Some t) ⊎ ((at before k ≡ Some t) × (at items k ≡ None))
    by_item None f = inr (ap (λ (o : Option ServerState). if is_some o then o else at before k) (sym f) ∙ sym is ∙ e, f)
    by_item (Some s) f = inl (f ∙ ap (λ (o : Option ServerState). if is_some o then o else at before k) (sym f) ∙ sym is ∙ e)

first_some : (a b : Option ServerState) → is_some a ≡ true → is_some (if is_some a then a else b) ≡ true
first_some None b e = absurd (true≢false (sym e))
first_some (Some t) b e = refl

second_some : (a b : Option ServerState) → is_some b ≡ true → is_some (if is_some a then a else b) ≡ true
second_some None b e = e
second_some (Some t) b e = refl

-- ## One slot before a look

module _ (clear in_draft in_last in_before : Bool) (track last before : FastTrack) (pending returned : Option ServerState) (out : Bool) (one : InSlot clear in_draft in_last in_before track last before pending returned out) where
  -- an item that waits has none of its slot in hand
  pends_alone : is_some pending ≡ true → is_some returned ≡ true → ⊥
  pends_alone some there = true≢false (sym some ∙ one.pends ∙ ap (λ (b : Bool). b && not in_last) (one.rests there).0)

  -- if the last state isn't seen acknowledged, an item that waits or is in hand is not on its way back
  stands_off : clear ≡ false → (is_some pending ≡ true) ⊎ (is_some returned ≡ true) → in_before ≡ false
  stands_off off either = by_before in_before refl
    where
      drafted : (a b : Bool) → true ≡ (a && not b) → (a ≡ true) × (b ≡ false)
      drafted true false e = (refl, refl)
      drafted true true e = absurd (true≢false e)
      drafted false b e = absurd (true≢false e)

      by_before : (b : Bool) → in_before ≡ b → b ≡ false
      by_before false is = refl
      by_before true is = ⊎_elim
          (λ (some : is_some pending ≡ true). let d = drafted in_draft in_last (sym some ∙ one.pends) in absurd (true≢false (sym d.0 ∙ (one.comes off is d.1).0)))
          (λ (some : is_some returned ≡ true). absurd (true≢false (sym some ∙ (one.comes off is (one.rests some).1).1)))
          either

-- ## What comes home

-- items only leave the hand, and a slot is out no more only if its item left it
record Leaves (m n : Mutates ServerState StreamNames) : Type 0 where
  hand : (k : ℕ) (t : ServerState) → at n.returned k ≡ Some t → at m.returned k ≡ Some t
  out : (k : ℕ) → (is_out n.out k ≡ is_out m.out k) ⊎ ((is_some (at m.returned k) ≡ true) × (at n.returned k ≡ None))
  past : n.past ≡ m.past

stays : (m : Mutates ServerState StreamNames) → Leaves m m
stays m = record { hand = (λ k t e. e); out = (λ k. inl refl); past = refl }

taken_back : (slot : ℕ) (m : Mutates ServerState StreamNames) → Leaves m (takes_back slot m)
taken_back slot m = record {
  hand = (λ k t e. ⊎_elim (λ (p : (k ≡ slot) × (None ≡ Some t)). absurd (none-some _ p.1)) (λ (q : at m.returned k ≡ Some t). q) (item_set m.returned slot None k t e));
  out = out_is;
  past = refl;
}
  where
    by_some : (d : Bool) → is_some (at m.returned slot) ≡ d → (is_out (slice_set m.out slot (is_out m.out slot && not (is_some (at m.returned slot)))) slot ≡ is_out m.out slot) ⊎ ((is_some (at m.returned slot) ≡ true) × (at (slice_set m.returned slot None) slot ≡ None))
    by_some true e = inr (e, none_set m.returned slot)
    by_some false e = inl (ap (λ (b : Bool). is_out (slice_set m.out slot b) slot) (same (is_out m.out slot) (is_some (at m.returned slot)) e) ∙ ap (λ (out : List Bool). is_out out slot) (set-get_or m.out slot false))
      where
        same : (a d : Bool) → d ≡ false → (a && not d) ≡ a
        same a true e = absurd (true≢false e)
        same true false e = refl
        same false false e = refl

    out_is : (k : ℕ) → (is_out (slice_set m.out slot (is_out m.out slot && not (is_some (at m.returned slot)))) k ≡ is_out m.out k) ⊎ ((is_some (at m.returned k) ≡ true) × (at (slice_set m.returned slot None) k ≡ None))
    out_is k = ⊎_elim
        (λ (e : k ≡ slot). subst (λ (n : ℕ). (is_out (slice_set m.out slot (is_out m.out slot && not (is_some (at m.returned slot)))) n ≡ is_out m.out n) ⊎ ((is_some (at m.returned n) ≡ true) × (at (slice_set m.returned slot None) n ≡ None))) (sym e) (by_some (is_some (at m.returned slot)) refl))
        (λ (ne : k ≢ slot). inl (get_or-set_other m.out slot k (is_out m.out slot && not (is_some (at m.returned slot))) false ne))
        (cases_eq k slot)

one_leaves : (i : ℕ) (x y : NormalState) → Welcomes i x y → Leaves x.mutator y.mutator
one_leaves i x y w = by_return i x y (Leaves x.mutator y.mutator)
    (λ e. subst (Leaves x.mutator) (ap (λ (z : NormalState). z.mutator) (sym e)) (taken_back (slot_number (track_at x.tracks i)) x.mutator))
    (λ server e. subst (Leaves x.mutator) (ap (λ (z : NormalState). z.mutator) (sym e)) (taken_back (slot_number (track_at x.tracks i)) x.mutator))
    (λ e. subst (Leaves x.mutator) (ap (λ (z : NormalState). z.mutator) (sym e)) (stays x.mutator)) w

join : (m n p : Mutates ServerState StreamNames) → Leaves m n → Leaves n p → Leaves m p
join m n p a b = record {
  hand = (λ k t e. a.hand k t (b.hand k t e));
  out = (λ k. ⊎_elim
      (λ (e : is_out n.out k ≡ is_out m.out k). ⊎_elim
      (λ (f : is_out p.out k ≡ is_out n.out k). inl (f ∙ e))
      (λ (f : (is_some (at n.returned k) ≡ true) × (at p.returned k ≡ None)). inr (some_before k (at n.returned k) refl f.0, f.1))
      (b.out k))
      (λ (e : (is_some (at m.returned k) ≡ true) × (at n.returned k ≡ None)). inr (e.0, none_of (at p.returned k) (λ t f. none-some _ (sym e.1 ∙ b.hand k t f))))
      (a.out k));
  past = b.past ∙ a.past;
}
  where
    some_before : (k : ℕ) (o : Option ServerState) → at n.returned k ≡ o → is_some (at n.returned k) ≡ true → is_some (at m.returned k) ≡ true
    some_before k None e some = absurd (true≢false (sym some ∙ ap is_some e))
    some_before k (Some t) e some = ap is_some (a.hand k t e)

all_leave : (n : ℕ) (x y : NormalState) → WelcomesTo n x y → Leaves x.mutator y.mutator
all_leave zero x y w = subst (Leaves x.mutator) (ap (λ (z : NormalState). z.mutator) (sym w)) (stays x.mutator)
all_leave (suc n) x y (z, before, w) = join x.mutator z.mutator y.mutator (all_leave n x z before) (one_leaves n z y w)

-- ## The look

-- two looks that begin the same events brought the same items
pub first_look : (n : ℕ) (a b : List (Option ServerState)) (xs ys : List (MutatorEvent ServerState)) → mutator.SawAck n a ∷ xs ≡ mutator.SawAck n b ∷ ys → (a ≡ b) × (xs ≡ ys)
first_look n a b xs ys e = (cc, cc)

-- What a look leaves: the pushes as they were, seen acknowledged if it says so, the items in hand, which were there or came by it, and a slot that isn't out, which no state carries that an observer may have. What was in hand, or came, the last state doesn't carry; what waited had none on its way back
pub record Acked (ack : Bool) (x y : Mutates ServerState StreamNames) (back : List (Option ServerState)) : Type 0 where
  pub past : y.past ≡ record x.past { clear = ack; events = y.past.events }
  pub older : ack ≡ false → x.past.clear ≡ false
  pub hand : (k : ℕ) (t : ServerState) → at y.returned k ≡ Some t → (at back k ≡ Some t) ⊎ ((at x.returned k ≡ Some t) × (at back k ≡ None))
  pub unwaited : (k : ℕ) → k < slots → x.past.clear ≡ false → carries x.past.before k ≡ true → carries x.past.last k ≡ false → at x.pending k ≡ None
  pub brings : (ack && not x.past.clear) ≡ true → AreOf x.past.before x.past.last back
  pub none : (ack && not x.past.clear) ≡ false → back ≡ []
  pub rests : (k : ℕ) → k < slots → is_some (at x.returned k) ≡ true → carries x.past.last k ≡ false
  pub comes : (k : ℕ) → k < slots → is_some (at back k) ≡ true → carries x.past.last k ≡ false
  pub waits : (k : ℕ) → k < slots → is_some (at x.pending k) ≡ true → at back k ≡ None
  pub still : ack ≡ false → (k : ℕ) → k < slots → (is_some (at x.pending k) ≡ true) ⊎ (is_some (at x.returned k) ≡ true) → carries x.past.before k ≡ false
  pub there : ack ≡ true → (k : ℕ) → k < slots → is_out x.out k ≡ true → carries x.draft k ≡ false → carries x.past.last k ≡ false → is_some (if is_some (at back k) then at back k else at x.returned k) ≡ true
  pub free : (k : ℕ) → k < slots → is_out y.out k ≡ false → (carries x.past.last k ≡ false) × (ack ≡ false → carries x.past.before k ≡ false) × (at y.returned k ≡ None)

both_so : (a b : Bool) → a ≡ true → b ≡ false → (a && not b) ≡ true
both_so true true e f = absurd (true≢false f)
both_so true false e f = refl
both_so false b e f = absurd (true≢false (sym e))

-- nothing waits at a slot that the draft doesn't carry
unpending : (items now : List (Option ServerState)) (k : ℕ) → now ≡ items → (a b : Bool) → is_some (at now k) ≡ (a && not b) → a ≡ false → at items k ≡ None
unpending items now k same true b is off = absurd (true≢false off)
unpending items now k same false b is off = none_by (at items k) (ap (λ (list : List (Option ServerState)). is_some (at list k)) (sym same) ∙ is)

on_by : (b : Bool) → not b ≡ false → b ≡ true
on_by true e = refl
on_by false e = absurd (true≢false e)

module _ (links : Links) (x y : NormalState) (tied : IsTied links x) where
  past_seen : (b : Bool) (m : Mutates ServerState StreamNames) → WasAcked x.mutator b m → m.past ≡ record x.mutator.past { clear = b; events = m.past.events }
  past_seen true m seen = subst (λ (p : Past ServerState StreamNames). p ≡ record x.mutator.past { clear = true; events = p.events }) (sym (ap (λ (n : Mutates ServerState StreamNames). n.past) seen.1))
      (ap (λ (b : Bool). record (saw x.mutator.past.number seen.0 x.mutator.past) { clear = b }) (eq-eqb (word x.mutator.past.number) (word x.mutator.past.number) refl))
  past_seen false m seen = subst (λ (p : Past ServerState StreamNames). p.clear ≡ false → p ≡ record x.mutator.past { clear = false; events = p.events }) (sym (ap (λ (n : Mutates ServerState StreamNames). n.past) seen.1.2))
      (λ e. ap (λ (b : Bool). record (saw seen.0 [] x.mutator.past) { clear = b }) e) seen.1.4

  older_seen : (b : Bool) (m : Mutates ServerState StreamNames) → WasAcked x.mutator b m → b ≡ false → x.mutator.past.clear ≡ false
  older_seen true m seen e = absurd (true≢false e)
  older_seen false m seen e = seen.1.3

  left_by : (sees : SeesAck true x y) → Leaves sees.mutator y.mutator
  left_by sees = all_leave (length x.tracks) (with_mutator sees.mutator x) y sees.comes

  mutator_is : (sees : SeesAck false x y) → y.mutator ≡ sees.mutator
  mutator_is sees = ap (λ (z : NormalState). z.mutator) sees.comes

  -- the items that came by the look
  abbrev items_of : (ack : Bool) → SeesAck ack x y → List (Option ServerState)
  items_of true sees = sees.acked.0
  items_of false sees = []

  events_are : (ack : Bool) (sees : SeesAck ack x y) → y.mutator.past.events ≡ x.mutator.past.events ++ mutator.SawAck (number_seen (kept_of x) ack) (items_of ack sees) ∷ []
  events_are true sees = ap (λ (p : Past ServerState StreamNames). p.events) (left_by sees).past ∙ ap (λ (m : Mutates ServerState StreamNames). m.past.events) sees.acked.1
  events_are false sees = ap (λ (m : Mutates ServerState StreamNames). m.past.events) (mutator_is sees ∙ sees.acked.1.2)
      ∙ ap (λ (n : ℕ). x.mutator.past.events ++ mutator.SawAck n [] ∷ []) (let a : sees.acked.0 + 1 ≡ x.mutator.past.number = sees.acked.1.1 in omega arith)

  look_by : (ack : Bool) (sees : SeesAck ack x y) → Acked ack x.mutator y.mutator (items_of ack sees)
  look_by true sees = let left : Leaves sees.mutator y.mutator = left_by sees in record {
    past = left.past ∙ past_seen true sees.mutator sees.acked ∙ ap (λ (p : Past ServerState StreamNames). record x.mutator.past { clear = true; events = p.events }) (sym left.past);
    older = (λ e. absurd (true≢false e));
    hand = (λ k t e. let there : at sees.mutator.returned k ≡ Some t = left.hand k t e in
        came sees.acked.0 x.mutator.returned sees.mutator.returned k t (sees.acked.2 k (let l = item_within sees.mutator.returned k t there in let w = sees.held.lengths.1 in omega arith)) there);
    unwaited = (λ k low off on none. let there : is_some (at sees.acked.0 k) ≡ true = (sees.acked.3.1 off).1 k low ∙ both_so (carries x.mutator.past.before k) (carries x.mutator.past.last k) on none in
        let rests = (sees.held.each k low).rests (ap is_some (sees.acked.2 k low) ∙ ap (λ (b : Bool). is_some (if b then at sees.acked.0 k else at x.mutator.returned k)) there ∙ there) in
        unpending x.mutator.pending sees.mutator.pending k (ap (λ (m : Mutates ServerState StreamNames). m.pending) sees.acked.1) _ _ (sees.held.each k low).pends rests.0);
    brings = (λ e. sees.acked.3.1 (not_true x.mutator.past.clear e));
    none = (λ e. sees.acked.3.0 (on_by x.mutator.past.clear e));
    rests = (λ k low some. last_is k ((sees.held.each k low).rests (ap is_some (sees.acked.2 k low) ∙ second_some (at sees.acked.0 k) (at x.mutator.returned k) some)).1);
    comes = (λ k low some. last_is k ((sees.held.each k low).rests (ap is_some (sees.acked.2 k low) ∙ first_some (at sees.acked.0 k) (at x.mutator.returned k) some)).1);
    waits = (λ k low some. none_of (at sees.acked.0 k) (λ t f. pends_alone _ _ _ _ _ _ _ _ _ _ (sees.held.each k low)
        (ap (λ (m : Mutates ServerState StreamNames). is_some (at m.pending k)) sees.acked.1 ∙ some)
        (ap is_some (sees.acked.2 k low) ∙ first_some (at sees.acked.0 k) (at x.mutator.returned k) (ap is_some f))));
    still = (λ e. absurd (true≢false e));
    there = (λ e k low out off last. ap is_some (sym (sees.acked.2 k low)) ∙ (sees.held.each k low).found
        (ap (λ (m : Mutates ServerState StreamNames). is_out m.out k) sees.acked.1 ∙ out)
        (ap (λ (m : Mutates ServerState StreamNames). carries m.draft k) sees.acked.1 ∙ off)
        (ap (λ (m : Mutates ServerState StreamNames). carries m.past.last k) sees.acked.1 ∙ last)
        (inl (ap (λ (m : Mutates ServerState StreamNames). m.past.clear) sees.acked.1 ∙ eq-eqb (word x.mutator.past.number) (word x.mutator.past.number) refl)));
    free = (λ k low off. ⊎_elim
        (λ (e : is_out y.mutator.out k ≡ is_out sees.mutator.out k). let clean = (sees.held.each k low).clean (sym e ∙ off) in
        (last_is k clean.2, (λ f. absurd (true≢false f)), none_of (at y.mutator.returned k) (λ t f. none-some _ (sym (none_by (at sees.mutator.returned k) clean.1) ∙ left.hand k t f))))
        (λ (e : (is_some (at sees.mutator.returned k) ≡ true) × (at y.mutator.returned k ≡ None)).
        (last_is k ((sees.held.each k low).rests e.0).1, (λ f. absurd (true≢false f)), e.1))
        (left.out k));
  }
    where
      last_is : (k : ℕ) → carries sees.mutator.past.last k ≡ false → carries x.mutator.past.last k ≡ false
      last_is k e = ap (λ (m : Mutates ServerState StreamNames). carries m.past.last k) (sym sees.acked.1) ∙ e
  look_by false sees = let past_is : y.mutator.past ≡ sees.mutator.past = ap (λ (m : Mutates ServerState StreamNames). m.past) (mutator_is sees) in record {
    past = past_is ∙ past_seen false sees.mutator sees.acked ∙ ap (λ (p : Past ServerState StreamNames). record x.mutator.past { clear = false; events = p.events }) (sym past_is);
    older = older_seen false sees.mutator sees.acked;
    hand = (λ k t e. inr (ap (λ (m : Mutates ServerState StreamNames). at m.returned k) (sym (mutator_is sees ∙ sees.acked.1.2)) ∙ e, refl));
    unwaited = (λ k low off on none. let comes = (sees.held.each k low).comes sees.acked.1.4
        (ap (λ (m : Mutates ServerState StreamNames). carries m.past.before k) sees.acked.1.2 ∙ on) (ap (λ (m : Mutates ServerState StreamNames). carries m.past.last k) sees.acked.1.2 ∙ none) in
        unpending x.mutator.pending sees.mutator.pending k (ap (λ (m : Mutates ServerState StreamNames). m.pending) sees.acked.1.2) _ _ (sees.held.each k low).pends comes.0);
    brings = (λ e. absurd (true≢false (sym e)));
    none = (λ e. refl);
    rests = (λ k low some. ap (λ (m : Mutates ServerState StreamNames). carries m.past.last k) (sym sees.acked.1.2) ∙ ((sees.held.each k low).rests (ap (λ (m : Mutates ServerState StreamNames). is_some (at m.returned k)) sees.acked.1.2 ∙ some)).1);
    comes = (λ k low some. absurd (true≢false (sym some)));
    waits = (λ k low some. refl);
    still = (λ e k low either. ap (λ (m : Mutates ServerState StreamNames). carries m.past.before k) (sym sees.acked.1.2)
        ∙ stands_off _ _ _ _ _ _ _ _ _ _ (sees.held.each k low) sees.acked.1.4
        (subst (λ (m : Mutates ServerState StreamNames). (is_some (at m.pending k) ≡ true) ⊎ (is_some (at m.returned k) ≡ true)) (sym sees.acked.1.2) either));
    there = (λ e. absurd (true≢false (sym e)));
    free = (λ k low off. let clean = (sees.held.each k low).clean (ap (λ (m : Mutates ServerState StreamNames). is_out m.out k) (sym (mutator_is sees)) ∙ off) in (
      ap (λ (m : Mutates ServerState StreamNames). carries m.past.last k) (sym sees.acked.1.2) ∙ clean.2,
      (λ e. ap (λ (m : Mutates ServerState StreamNames). carries m.past.before k) (sym sees.acked.1.2) ∙ clean.3 sees.acked.1.4),
      ap (λ (m : Mutates ServerState StreamNames). at m.returned k) (mutator_is sees) ∙ none_by (at sees.mutator.returned k) clean.1,
    ));
  }

  -- what the look leaves, by what it saw
  pub look_leaves : (ack : Bool) (sees : SeesAck ack x y) → Acked ack x.mutator y.mutator (acked_list links ack x y tied sees).0
  look_leaves ack sees = subst (Acked ack x.mutator y.mutator) (first_look (number_seen (kept_of x) ack) (items_of ack sees) (acked_list links ack x y tied sees).0 [] []
      (append_cancel_left x.mutator.past.events _ _ (sym (events_are ack sees) ∙ (acked_list links ack x y tied sees).1))).0 (look_by ack sees)
