-- Each call of the mutator keeps what always holds of its draft.
use Rattle.std.proofs.Common.{◌≡◌, ◌≢◌, ℕ, ◌+◌, ◌<◌, ◌≤◌, ◌&&◌, not, if◌then◌else◌, true, false, true≢false, Bool, List, [], length, set, Option, Some, None, is_some, IfSome, bit_and, bit_or, ◌-◌, ◌^◌, refl, ap, sym, ◌∙◌, subst, arith, length-set}
use Rattle.af_stateq.proofs.Common.{AreOf, FastTrack, FitAt, attached, carries, detached, get_or-replicate, get_or-set_other, get_or-set_same, length-replicate, not_both, slot_of, slots}
use mathlib.Core.Logic.{dite}
use native.Mathlib.Decide.{ℕ_discrete}
use Rattle.af_base.specs.declared.state.Command.{Command}
use Rattle.af_stateq.specs.Shelved.{nothing}
use Rattle.af_stateq.specs.Ends.{Pushes, saw, pushes}
use Rattle.af_stateq.specs.Mutates.{Mutates, at, is_out, InSlot, SlotIn, InDraft, IsJoined}
use Rattle.af_stateq.specs.Answers.{shows}
use Rattle.af_stateq.proofs.Slots.{kept, attach_one, detach_one, take_one, join_one, push_one}
use Rattle.af_stateq.proofs.Bits.{attached_here, attached_else, slot_here, slot_else, attached_state, detached_here, detached_else, detached_state}

pub both_are : (a b : Bool) → (a && not b) ≡ true → (a ≡ true) × (b ≡ false)
both_are true true h = absurd (true≢false (sym h))
both_are true false h = (refl, refl)
both_are false b h = absurd (true≢false (sym h))

module _ {P K : Type 0} (fits : K → ℕ → P → Type 0) (m : Mutates P K) (d : InDraft fits m) where
  pub command_keeps : (c : Command) (n : ℕ) (e : Bool) → InDraft fits record m { draft = record m.draft { command = c; cold_gen = n }; edited = e }
  command_keeps c n e = record {
    state = record { whole = d.state.whole; submix = d.state.submix; scaled = d.state.scaled };
    lengths = d.lengths;
    each = d.each;
    fit_pending = d.fit_pending;
    fit_returned = d.fit_returned;
    begins = d.begins;
  }

  module _ (slot : ℕ) (low : 1 ≤ slot) (lt : slot < slots) where
    module _ (mono : Bool) (scale track : ℕ) (item : P) (fine : scale ≤ 4096) (free : is_out m.out slot ≡ false) (fit : (key : K) → m.past.key ≡ Some key → fits key track item) where
      abbrev attaches : Mutates P K
      attaches = record m { draft = attached slot mono scale track m.draft; edited = true; pending = set m.pending slot (Some item); out = set m.out slot true }

      here : slot_of attaches.draft slot ≡ (record { generation = (slot_of m.draft slot).generation + 1; track = track; mono = mono; scale = scale })
      here = slot_here slot mono scale track m.draft low lt d.state

      else_ : (i : ℕ) → i ≢ slot → slot_of attaches.draft i ≡ slot_of m.draft i
      else_ i ne = slot_else slot mono scale track m.draft low lt d.state i ne

      pending_here : at attaches.pending slot ≡ Some item
      pending_here = get_or-set_same m.pending slot (Some item) None (let l = d.lengths.0 in omega arith)

      pub attach_keeps : InDraft fits attaches
      attach_keeps = record {
        state = attached_state slot mono scale track m.draft low lt d.state fine;
        lengths = (length-set m.pending slot (Some item) ∙ d.lengths.0, d.lengths.1, length-set m.out slot true ∙ d.lengths.2);
        each = λ i li. dite (ℕ_discrete i slot)
            (λ e. subst (SlotIn m.past.clear attaches.draft m.past.last m.past.before attaches.pending m.returned attaches.out) (sym e)
            (subst (λ (q : Bool × Option P × Bool). InSlot m.past.clear q.0 (carries m.past.last slot) (carries m.past.before slot) (slot_of attaches.draft slot) (slot_of m.past.last slot) (slot_of m.past.before slot) q.1 (at m.returned slot) q.2)
            (λ j. (sym (attached_here slot mono scale track m.draft low lt d.state) j, sym pending_here j, sym (get_or-set_same m.out slot true false (let l = d.lengths.2 in omega arith)) j))
            (attach_one m.past.clear (carries m.draft slot) (carries m.past.last slot) (carries m.past.before slot) (slot_of m.draft slot) (slot_of m.past.last slot) (slot_of m.past.before slot) (at m.pending slot) (at m.returned slot) (is_out m.out slot) (d.each slot lt) free (slot_of attaches.draft slot) item)))
            (λ ne. kept m.past.clear (carries m.draft i) (carries m.past.last i) (carries m.past.before i) (slot_of m.draft i) (slot_of m.past.last i) (slot_of m.past.before i) (at m.pending i) (at m.returned i) (is_out m.out i)
            (carries attaches.draft i) (slot_of attaches.draft i) (at attaches.pending i) (at m.returned i) (is_out attaches.out i)
            (attached_else slot mono scale track m.draft low lt d.state i ne) (else_ i ne) (get_or-set_other m.pending slot i (Some item) None ne) refl (get_or-set_other m.out slot i true false ne) (d.each i li));
        fit_pending = λ key k i p li is. dite (ℕ_discrete i slot)
            (λ e. let same : item ≡ p = (let a = sym pending_here ∙ ap (at attaches.pending) (sym e) ∙ is in cc) in
            subst (λ (q : ℕ × P). fits key (slot_of attaches.draft q.0).track q.1) (λ j. (sym e j, same j)) (subst (λ (t : FastTrack). fits key t.track item) (sym here) (fit key k)))
            (λ ne. subst (λ (t : FastTrack). fits key t.track p) (sym (else_ i ne)) (d.fit_pending key k i p li (sym (get_or-set_other m.pending slot i (Some item) None ne) ∙ is)));
        fit_returned = λ key k i p li is. dite (ℕ_discrete i slot)
            (λ e. absurd (not_both (is_some (at m.returned slot)) (ap (λ j. is_some (at m.returned j)) (sym e) ∙ ap is_some is) ((d.each slot lt).clean free).1))
            (λ ne. subst (λ (t : FastTrack). fits key t.track p) (sym (else_ i ne)) (d.fit_returned key k i p li is));
        begins = d.begins;
      }

      -- the same with the word that the code computes
      pub attach_keeps_by : (word : ℕ) → word ≡ 2 ^ slot → InDraft fits record attaches { draft = record attaches.draft { mask = bit_or m.draft.mask word } }
      attach_keeps_by word e = subst (λ (n : ℕ). InDraft fits record attaches { draft = record attaches.draft { mask = bit_or m.draft.mask n } }) (sym e) attach_keeps

    module _ (on : carries m.draft slot ≡ true) where
      abbrev detaches : Mutates P K
      detaches = record m { draft = detached slot m.draft; edited = true; pending = set m.pending slot None; returned = set m.returned slot (at m.pending slot) }

      returned_here : at detaches.returned slot ≡ at m.pending slot
      returned_here = get_or-set_same m.returned slot (at m.pending slot) None (let l = d.lengths.1 in omega arith)

      cleared_here : at detaches.pending slot ≡ None
      cleared_here = get_or-set_same m.pending slot None None (let l = d.lengths.0 in omega arith)

      pub detach_keeps : InDraft fits detaches
      detach_keeps = record {
        state = detached_state slot m.draft low lt d.state;
        lengths = (length-set m.pending slot None ∙ d.lengths.0, length-set m.returned slot (at m.pending slot) ∙ d.lengths.1, d.lengths.2);
        each = λ i li. dite (ℕ_discrete i slot)
            (λ e. subst (SlotIn m.past.clear detaches.draft m.past.last m.past.before detaches.pending detaches.returned m.out) (sym e)
            (subst (λ (q : Bool × Option P × Option P). InSlot m.past.clear q.0 (carries m.past.last slot) (carries m.past.before slot) (slot_of m.draft slot) (slot_of m.past.last slot) (slot_of m.past.before slot) q.1 q.2 (is_out m.out slot))
            (λ j. (sym (detached_here slot m.draft low lt) j, sym cleared_here j, sym returned_here j))
            (detach_one m.past.clear (carries m.draft slot) (carries m.past.last slot) (carries m.past.before slot) (slot_of m.draft slot) (slot_of m.past.last slot) (slot_of m.past.before slot) (at m.pending slot) (at m.returned slot) (is_out m.out slot) (d.each slot lt) on)))
            (λ ne. kept m.past.clear (carries m.draft i) (carries m.past.last i) (carries m.past.before i) (slot_of m.draft i) (slot_of m.past.last i) (slot_of m.past.before i) (at m.pending i) (at m.returned i) (is_out m.out i)
            (carries detaches.draft i) (slot_of m.draft i) (at detaches.pending i) (at detaches.returned i) (is_out m.out i)
            (detached_else slot m.draft low lt i li ne) refl (get_or-set_other m.pending slot i None None ne) (get_or-set_other m.returned slot i (at m.pending slot) None ne) refl (d.each i li));
        fit_pending = λ key k i p li is. dite (ℕ_discrete i slot)
            (λ e. absurd (true≢false (sym (ap is_some (sym (ap (at detaches.pending) e ∙ cleared_here) ∙ is)))))
            (λ ne. d.fit_pending key k i p li (sym (get_or-set_other m.pending slot i None None ne) ∙ is));
        fit_returned = λ key k i p li is. dite (ℕ_discrete i slot)
            (λ e. d.fit_pending key k i p li (ap (at m.pending) e ∙ sym returned_here ∙ ap (at detaches.returned) (sym e) ∙ is))
            (λ ne. d.fit_returned key k i p li (sym (get_or-set_other m.returned slot i (at m.pending slot) None ne) ∙ is));
        begins = d.begins;
      }

      pub detach_keeps_by : (word : ℕ) (pending returned : Option P) → word ≡ 2 ^ slot → pending ≡ None → returned ≡ at m.pending slot
          → InDraft fits record m { draft = record m.draft { mask = bit_and m.draft.mask (2 ^ 32 - 1 - word); tracks_gen = m.draft.tracks_gen + 1 }; edited = true; pending = set m.pending slot pending; returned = set m.returned slot returned }
      detach_keeps_by word pending returned e p r =
          subst (λ (q : ℕ × Option P × Option P). InDraft fits record m { draft = record m.draft { mask = bit_and m.draft.mask (2 ^ 32 - 1 - q.0); tracks_gen = m.draft.tracks_gen + 1 }; edited = true; pending = set m.pending slot q.1; returned = set m.returned slot q.2 })
          (λ i. (sym e i, sym p i, sym r i)) detach_keeps

    abbrev still : Bool
    still = is_out m.out slot && not (is_some (at m.returned slot))

    abbrev takes_back : Mutates P K
    takes_back = record m { returned = set m.returned slot None; out = set m.out slot still }

    taken_here : at takes_back.returned slot ≡ None
    taken_here = get_or-set_same m.returned slot None None (let l = d.lengths.1 in omega arith)

    pub take_keeps : InDraft fits takes_back
    take_keeps = record {
      state = d.state;
      lengths = (d.lengths.0, length-set m.returned slot None ∙ d.lengths.1, length-set m.out slot still ∙ d.lengths.2);
      each = λ i li. dite (ℕ_discrete i slot)
          (λ e. subst (SlotIn m.past.clear m.draft m.past.last m.past.before m.pending takes_back.returned takes_back.out) (sym e)
          (subst (λ (q : Option P × Bool). InSlot m.past.clear (carries m.draft slot) (carries m.past.last slot) (carries m.past.before slot) (slot_of m.draft slot) (slot_of m.past.last slot) (slot_of m.past.before slot) (at m.pending slot) q.0 q.1)
          (λ j. (sym taken_here j, sym (get_or-set_same m.out slot still false (let l = d.lengths.2 in omega arith)) j))
          (take_one m.past.clear (carries m.draft slot) (carries m.past.last slot) (carries m.past.before slot) (slot_of m.draft slot) (slot_of m.past.last slot) (slot_of m.past.before slot) (at m.pending slot) (at m.returned slot) (is_out m.out slot) (d.each slot lt))))
          (λ ne. kept m.past.clear (carries m.draft i) (carries m.past.last i) (carries m.past.before i) (slot_of m.draft i) (slot_of m.past.last i) (slot_of m.past.before i) (at m.pending i) (at m.returned i) (is_out m.out i)
          (carries m.draft i) (slot_of m.draft i) (at m.pending i) (at takes_back.returned i) (is_out takes_back.out i)
          refl refl refl (get_or-set_other m.returned slot i None None ne) (get_or-set_other m.out slot i still false ne) (d.each i li));
      fit_pending = d.fit_pending;
      fit_returned = λ key k i p li is. dite (ℕ_discrete i slot)
          (λ e. absurd (true≢false (sym (ap is_some (sym (ap (at takes_back.returned) e ∙ taken_here) ∙ is)))))
          (λ ne. d.fit_returned key k i p li (sym (get_or-set_other m.returned slot i None None ne) ∙ is));
      begins = d.begins;
    }

    pub take_keeps_by : (returned : Option P) (out : Bool) → returned ≡ None → out ≡ still → InDraft fits record m { returned = set m.returned slot returned; out = set m.out slot out }
    take_keeps_by returned out r o = subst (λ (q : Option P × Bool). InDraft fits record m { returned = set m.returned slot q.0; out = set m.out slot q.1 }) (λ i. (sym r i, sym o i)) take_keeps

    pub taken_fits : (o : Option P) → o ≡ at m.returned slot → IfSome o (λ p. (key : K) → m.past.key ≡ Some key → fits key (slot_of m.draft slot).track p)
    taken_fits None e = tt
    taken_fits (Some p) e = λ key k. d.fit_returned key k slot p lt (sym e)

  -- a look that brought nothing
  pub look_keeps : (a : ℕ) → saw a [] m.past ≡ record (saw a [] m.past) { clear = m.past.clear } → InDraft fits record m { past = saw a [] m.past }
  look_keeps a same = subst (λ (q : Pushes P K). InDraft fits record m { past = q }) (sym same)
      record { state = d.state; lengths = d.lengths; each = d.each; fit_pending = d.fit_pending; fit_returned = d.fit_returned; begins = d.begins }

  fit_after : (came after : List (Option P)) → m.past.clear ≡ false → AreOf m.past.before m.past.last came → FitAt fits m.past.key m.past.before came → IsJoined came m.returned after → (key : K) → m.past.key ≡ Some key → (i : ℕ) (p : P) → i < slots → at after i ≡ Some p → (b : Bool) → is_some (at came i) ≡ b → fits key (slot_of m.draft i).track p
  fit_after came after f are fit joined key k i p li is true e =
      let q = both_are (carries m.past.before i) (carries m.past.last i) (sym (are.1 i li) ∙ e) in
      let s = (d.each i li).comes f q.0 q.1 in
      subst (λ (t : FastTrack). fits key t.track p) (sym s.2) (fit key k i p li (sym (ap (λ b. if b then at came i else at m.returned i) e) ∙ sym (joined i li) ∙ is))
  fit_after came after f are fit joined key k i p li is false e = d.fit_returned key k i p li (sym (ap (λ b. if b then at came i else at m.returned i) e) ∙ sym (joined i li) ∙ is)

  -- the items of the slots that the last push took off the states came into hand
  pub join_keeps : (a : ℕ) (came after : List (Option P)) → m.past.clear ≡ false → (saw a came m.past).clear ≡ true → AreOf m.past.before m.past.last came → FitAt fits m.past.key m.past.before came → length after ≡ slots → IsJoined came m.returned after
      → InDraft fits record m { past = saw a came m.past; returned = after }
  join_keeps a came after f t are fit long joined = record {
    state = d.state;
    lengths = (d.lengths.0, long, d.lengths.2);
    each = λ i li. subst (λ (c : Bool). SlotIn c m.draft m.past.last m.past.before m.pending after m.out i) (sym t)
        (join_one m.past.clear (carries m.draft i) (carries m.past.last i) (carries m.past.before i) (slot_of m.draft i) (slot_of m.past.last i) (slot_of m.past.before i) (at m.pending i) (at m.returned i) (is_out m.out i) (d.each i li) f (at came i) (at after i) (are.1 i li) (joined i li));
    fit_pending = d.fit_pending;
    fit_returned = λ key k i p li is. fit_after came after f are fit joined key k i p li is (is_some (at came i)) refl;
    begins = λ _. t;
  }

  -- the draft is the last state
  pub push_keeps : m.past.clear ≡ true → InDraft fits (shows m)
  push_keeps t = record {
    state = d.state;
    lengths = (length-replicate {A = Option P} slots None, d.lengths.1, d.lengths.2);
    each = λ i li. subst (λ (p : Option P). InSlot false (carries m.draft i) (carries m.draft i) (carries m.past.last i) (slot_of m.draft i) (slot_of m.draft i) (slot_of m.past.last i) p (at m.returned i) (is_out m.out i)) (sym (get_or-replicate slots i None None li))
        (push_one m.past.clear (carries m.draft i) (carries m.past.last i) (carries m.past.before i) (slot_of m.draft i) (slot_of m.past.last i) (slot_of m.past.before i) (at m.pending i) (at m.returned i) (is_out m.out i) (d.each i li) t);
    fit_pending = λ key k i p li is. absurd (true≢false (sym (ap is_some (sym (get_or-replicate slots i None None li) ∙ is))));
    fit_returned = d.fit_returned;
    begins = λ e. absurd (omega arith);
  }

  pub push_keeps_by : (past : Pushes P K) (pending : List (Option P)) → past ≡ pushes m.draft m.pending m.past → pending ≡ nothing → m.past.clear ≡ true → InDraft fits record m { past = past; dirty = false; pending = pending }
  push_keeps_by past pending a b t = subst (λ (q : Pushes P K × List (Option P)). InDraft fits record m { past = q.0; dirty = false; pending = q.1 }) (λ i. (sym a i, sym b i)) (push_keeps t)
