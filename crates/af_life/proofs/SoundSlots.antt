-- Serving the tracks keeps what holds of their slots.
use Rattle.std.proofs.Common.{◌≡◌, ℕ, zero, suc, ◌+◌, ◌<◌, ◌≤◌, ◌&&◌, ◌⊎◌, not, Bool, true, false, if◌then◌else◌, true≢false, is_some, sym, refl, ap, subst, ◌∙◌, inl, inr, List, Option, Some, None, arith}
use Rattle.af_life.proofs.Common.{FastState, TrackSeen, carries, find, list_any, no, not_true, range_with_len, slice_set, slot_of, slots}
use Rattle.af_life.proofs.Basics.{at_set, has_slot, lent_away, none_holds, not_ended, returning_away, set_each, slot_is}
use Rattle.af_life.specs.Kept.{Learnt, Setup, is_home, is_lent, is_returning, number_of, seen_at, setting_of, slot_number, track_at}
use Rattle.af_life.specs.Obeys.{free_slot, holds, slot_for}
use Rattle.af_life.specs.Serves.{served, served_to}
use Rattle.af_life.specs.Sound.{AreAlone, IsDrafted, IsSlotted, IsSound}
use Rattle.af_life.specs.declared.kept.Holder.{Holder}
use Rattle.af_life.specs.declared.kept.TrackKept.{TrackKept}
use Rattle.af_life.proofs.SoundLives.{Goes, goes_served}

-- ## A free slot

abbrev Found : (ℕ → Bool) → ℕ → ℕ → ℕ → Type 0
Found p a n k = (p k ≡ true) × (a ≤ k) × (k < a + n)

found : (p : ℕ → Bool) (a n k : ℕ) → find p (range_with_len a n) ≡ Some k → Found p a n k
found p a zero k e = no (ap is_some e)
found p a (suc n) k e = by_first (p a) refl (found p (a + 1) n k) e
  where
    by_first : (b : Bool) → p a ≡ b → (find p (range_with_len (a + 1) n) ≡ Some k → Found p (a + 1) n k) → (if b then Some a else find p (range_with_len (a + 1) n)) ≡ Some k → Found p a (suc n) k
    by_first true is later f = let same : a ≡ k = ap number_of f in (subst (λ (j : ℕ). p j ≡ true) same is, omega arith, omega arith)
    by_first false is later f = let more = later f in (more.0, (let l = more.1 in omega arith), (let l = more.2 in omega arith))

-- the slot that an OPEN gives is one for tracks, and no track has it
pub given_free : (c : Setup) (tracks : List TrackKept) (i k : ℕ) → slot_for c tracks i ≡ Some k → (1 ≤ k) × (k < slots) × ((j : ℕ) → holds k (track_at tracks j) ≡ false)
given_free c tracks i k e = by_fast (setting_of c i).fast e
  where
    by_fast : (b : Bool) → (if b then free_slot tracks else None) ≡ Some k → (1 ≤ k) × (k < slots) × ((j : ℕ) → holds k (track_at tracks j) ≡ false)
    by_fast true f = let here = found (λ slot. not (list_any (holds slot) tracks)) 1 31 k f in
        ((let l = here.1 in omega arith), (let l = here.2 in omega arith), none_holds k tracks (not_true (list_any (holds k) tracks) here.0))
    by_fast false f = no (ap is_some f)

-- ## One track is replaced

-- the track has no slot but one that it had, or that no track had
abbrev pub TakesNone : List TrackKept → ℕ → TrackKept → Type 0
TakesNone tracks i s = (k : ℕ) → holds k s ≡ true → (holds k (track_at tracks i) ≡ true) ⊎ ((j : ℕ) → holds k (track_at tracks j) ≡ false)

pub alone_set : (tracks : List TrackKept) (i : ℕ) (s : TrackKept) → AreAlone tracks → TakesNone tracks i s → AreAlone (slice_set tracks i s)
alone_set tracks i s alone new a b k ha hb = elim (at_set tracks i s a) as (λ x. a ≡ b) [
  | inl p ↦ elim (at_set tracks i s b) as (λ x. a ≡ b) [
    | inl q ↦ p.0 ∙ sym q.0
    | inr q ↦ p.0 ∙ against b (sym (ap (holds k) p.1) ∙ ha) (sym (ap (holds k) q) ∙ hb)
  ]
  | inr p ↦ elim (at_set tracks i s b) as (λ x. a ≡ b) [
    | inl q ↦ sym (against a (sym (ap (holds k) q.1) ∙ hb) (sym (ap (holds k) p) ∙ ha)) ∙ sym q.0
    | inr q ↦ alone a b k (sym (ap (holds k) p) ∙ ha) (sym (ap (holds k) q) ∙ hb)
  ]
]
  where
    -- another track that has the slot too is the track i
    against : (j : ℕ) → holds k s ≡ true → holds k (track_at tracks j) ≡ true → i ≡ j
    against j here there = elim (new k here) as (λ x. i ≡ j) [
      | inl h ↦ alone i j k h there
      | inr f ↦ no (sym (f j) ∙ there)
    ]

-- ## Serving

module _ (c : Setup) (tracks : List TrackKept) (i : ℕ) (s t : TrackKept) (is : track_at tracks i ≡ s) (goes : Goes (slot_for c tracks i) s t) where
  -- whoever holds a slot then held it before, or it was free
  pub takes_none : TakesNone tracks i t
  takes_none k h = let parts = has_slot k t h in
      let before : (s.life.ended && is_home s.holder) ≡ false = ap (λ (o : Holder). s.life.ended && is_home o) (sym goes.holder) ∙ not_ended t.life.ended s.life.ended (is_home t.holder) goes.life.ended parts.2 in
      elim goes.slot as (λ x. (holds k (track_at tracks i) ≡ true) ⊎ ((j : ℕ) → holds k (track_at tracks j) ≡ false)) [
        | inl e ↦ inl (ap (holds k) is ∙ slot_is k s (ap is_some (sym e) ∙ parts.0) (ap number_of (sym e) ∙ parts.1) before)
        | inr g ↦ inr (given_free c tracks i k (sym g.1 ∙ some_of t.slot k parts.0 parts.1)).2
      ]
    where
      some_of : (o : Option ℕ) (k : ℕ) → is_some o ≡ true → number_of o ≡ k → o ≡ Some k
      some_of None k e n = no e
      some_of (Some j) k e n = ap (λ (n : ℕ). Some n) n

  pub slotted : IsSlotted s → IsSlotted t
  slotted h = record {
    slot = (λ some. elim goes.slot as (λ x. (1 ≤ slot_number t) × (slot_number t < slots)) [
      | inl e ↦ subst (λ (o : Option ℕ). (1 ≤ number_of o) × (number_of o < slots)) (sym e) (h.slot (ap is_some (sym e) ∙ some))
      | inr g ↦ low t.slot g.1 some
    ]);
    unopened = (λ a. elim goes.slot as (λ x. is_some t.slot ≡ false) [
      | inl e ↦ ap is_some e ∙ h.unopened (goes.life.absent a)
      | inr g ↦ absurd (true≢false (sym a ∙ g.2))
    ]);
    homely = (λ none. ap is_home goes.holder ∙ elim goes.slot as (λ x. is_home s.holder ≡ true) [
      | inl e ↦ h.homely (ap is_some (sym e) ∙ none)
      | inr g ↦ h.homely g.0
    ]);
  }
    where
      low : (o : Option ℕ) → o ≡ slot_for c tracks i → is_some o ≡ true → (1 ≤ number_of o) × (number_of o < slots)
      low None e some = no some
      low (Some k) e some = let free = given_free c tracks i k (sym e) in (free.0, free.1)

  -- the draft has of the track what it had before
  pub drafted : (draft : FastState) (n : ℕ) → IsSlotted s → IsDrafted draft n s → IsDrafted draft n t
  drafted draft n sl d = record {
    lent = (λ h. let was = ap is_lent (sym goes.holder) ∙ h in subst (λ (o : Option ℕ). carries draft (number_of o) ≡ true) (kept (lent_away s.holder was)) (d.lent was));
    returning = (λ h. let was = ap is_returning (sym goes.holder) ∙ h in subst (λ (o : Option ℕ). carries draft (number_of o) ≡ false) (kept (returning_away s.holder was)) (d.returning was));
    own = (λ away. let was = ap is_home (sym goes.holder) ∙ away in
        subst (λ (o : Option ℕ). ((slot_of draft (number_of o)).track ≡ n) × ((slot_of draft (number_of o)).generation ≡ t.generation)) (kept was) ((d.own was).0, (d.own was).1 ∙ sym goes.generation));
  }
    where
      kept : is_home s.holder ≡ false → s.slot ≡ t.slot
      kept away = elim goes.slot as (λ x. s.slot ≡ t.slot) [
        | inl e ↦ sym e
        | inr g ↦ absurd (true≢false (sym (sl.homely g.0) ∙ away))
      ]

-- the tracks are sound after one is served
pub sound_one : (c : Setup) (k : Learnt) (seen : List TrackSeen) (draft : FastState) (tracks : List TrackKept) (i : ℕ) → IsSound tracks draft → IsSound (slice_set tracks i (served c k (seen_at seen i).looks tracks i)) draft
sound_one c k seen draft tracks i h =
    let s : TrackKept = track_at tracks i in
    let t : TrackKept = served c k (seen_at seen i).looks tracks i in
    let goes : Goes (slot_for c tracks i) s t = goes_served c k (seen_at seen i).looks tracks i (h.slotted i).unopened in record {
      slotted = set_each (λ (j : ℕ) (x : TrackKept). IsSlotted x) tracks i t (slotted c tracks i s t refl goes (h.slotted i)) h.slotted;
      drafted = set_each (IsDrafted draft) tracks i t (drafted c tracks i s t refl goes draft i (h.slotted i) (h.drafted i)) h.drafted;
      alone = alone_set tracks i t h.alone (takes_none c tracks i s t refl goes);
      state = h.state;
    }

-- the tracks are sound after the first ones are served
pub sound_served : (c : Setup) (k : Learnt) (seen : List TrackSeen) (draft : FastState) (tracks : List TrackKept) (n : ℕ) → IsSound tracks draft → IsSound (served_to c k seen tracks n) draft
sound_served c k seen draft tracks zero h = h
sound_served c k seen draft tracks (suc n) h = sound_one c k seen draft (served_to c k seen tracks n) n (sound_served c k seen draft tracks n h)
