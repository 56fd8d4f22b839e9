-- How the facts of one slot fare when it is attached, detached, taken back, pushed, or its item comes back.
use Rattle.std.proofs.Common.{◌≡◌, ℕ, ◌<◌, ◌≤◌, ◌&&◌, ⊎_elim, inl, inr, not, if◌then◌else◌, Bool, true, false, true≢false, Option, Some, None, is_some, refl, ap, sym, ◌∙◌, subst}
use Rattle.af_stateq.proofs.Common.{FastTrack, and_true, both, is_shelf, never_true, not_both, not_true as not_false, slots}
use Rattle.std.proofs.lemmas.Bool.{ltb-true, leb-true}
use Rattle.af_stateq.specs.Mutates.{InSlot}

and_not : (b : Bool) → false ≡ (b && not b)
and_not true = refl
and_not false = refl

pub both_ways : {X : Type 0} (b : Bool) → (b ≡ true → X) → (b ≡ false → X) → X
both_ways true y n = y refl
both_ways false y n = n refl

-- a slot that has a shelf
pub on_shelf : (slot : ℕ) → is_shelf slot ≡ true → (1 ≤ slot) × (slot < slots)
on_shelf slot e = let t = both _ _ e in (leb-true 1 slot t.0, ltb-true slot slots t.1)

module _ {P : Type 0} (clear d l b : Bool) (t tl tb : FastTrack) (p r : Option P) (o : Bool) where
  abbrev Here : Type 0
  Here = InSlot clear d l b t tl tb p r o

  -- a slot that is not touched
  pub kept : (d' : Bool) (t' : FastTrack) (p' r' : Option P) (o' : Bool) → d' ≡ d → t' ≡ t → p' ≡ p → r' ≡ r → o' ≡ o → Here → InSlot clear d' l b t' tl tb p' r' o'
  kept d' t' p' r' o' ed et ep er eo s = subst (λ (q : Bool × FastTrack × Option P × Option P × Bool). InSlot clear q.0 l b q.1 tl tb q.2 q.3 q.4) (λ i. (sym ed i, sym et i, sym ep i, sym er i, sym eo i)) s

  module _ (s : Here) where
    pub attach_one : o ≡ false → (t' : FastTrack) (item : P) → InSlot clear true l b t' tl tb (Some item) r true
    attach_one free t' item = let c = s.clean free in record {
      pends = sym (ap not c.2);
      stays = λ e. absurd (not_both l e c.2);
      comes = λ f e _. absurd (not_both b e (c.3 f));
      rests = λ e. absurd (not_both (is_some r) e c.1);
      clean = λ e. absurd (true≢false e);
      found = λ _ e. absurd (true≢false e);
    }

    pub none_back : d ≡ true → is_some r ≡ false
    none_back on = never_true (is_some r) (λ e. not_both d on (s.rests e).0)

    pub detach_one : d ≡ true → InSlot clear false l b t tl tb None p o
    detach_one on = record {
      pends = refl;
      stays = s.stays;
      comes = λ f e g. absurd (not_both d on (s.comes f e g).0);
      rests = λ e. (refl, not_false l (sym (ap (λ x. x && not l) on) ∙ sym s.pends ∙ e));
      clean = λ e. absurd (not_both d on (s.clean e).0);
      found = λ _ _ e _. s.pends ∙ ap (λ x. x && not l) on ∙ ap not e;
    }

    pub take_one : InSlot clear d l b t tl tb p None (o && not (is_some r))
    take_one = record {
      pends = s.pends;
      stays = s.stays;
      comes = λ f e g. let c = s.comes f e g in (c.0, refl, c.2);
      rests = λ e. absurd (true≢false (sym e));
      clean = λ e. both_ways (is_some r)
          (λ y. let q = s.rests y in (q.0, refl, q.1, λ f. never_true b (λ h. not_both (is_some r) y (s.comes f h q.1).1)))
          (λ n. let c = s.clean (sym (and_true o) ∙ sym (ap (λ x. o && not x) n) ∙ e) in (c.0, refl, c.2, c.3));
      found = λ e f g h. let t = both o (not (is_some r)) e in absurd (not_both (is_some r) (s.found t.0 f g h) (not_false (is_some r) t.1));
    }

    -- the item that the last push took off came back
    pub join_one : clear ≡ false → (came r' : Option P) → is_some came ≡ (b && not l) → r' ≡ (if is_some came then came else r) → InSlot true d l b t tl tb p r' o
    join_one f came r' is e = record {
      pends = s.pends;
      stays = s.stays;
      comes = λ x. absurd (true≢false x);
      rests = λ h. both_ways (is_some came)
          (λ y. let q = both b (not l) (sym is ∙ y) in ((s.comes f q.0 (not_false l q.1)).0, not_false l q.1))
          (λ n. s.rests (sym (ap is_some (e ∙ ap (λ x. if x then came else r) n)) ∙ h));
      clean = λ x. let c = s.clean x in let n : is_some came ≡ false = is ∙ ap (λ y. y && not l) (c.3 f) in
          (c.0, ap is_some (e ∙ ap (λ y. if y then came else r) n) ∙ c.1, c.2, λ y. absurd (true≢false y));
      found = λ x g h _. both_ways b
          (λ y. let c : is_some came ≡ true = is ∙ ap (λ z. z && not l) y ∙ ap not h in ap is_some (e ∙ ap (λ z. if z then came else r) c) ∙ c)
          (λ n. ap is_some (e ∙ ap (λ z. if z then came else r) (is ∙ ap (λ z. z && not l) n)) ∙ s.found x g h (inr n));
    }

    -- none came
    pub stay_one : (r' : Option P) → r' ≡ r → InSlot clear d l b t tl tb p r' o
    stay_one r' e = kept d t p r' o refl refl refl e refl s

    pub push_one : clear ≡ true → InSlot false d d l t t tl None r o
    push_one y = record {
      pends = and_not d;
      stays = λ _. refl;
      comes = λ _ e g. (g, never_true (is_some r) (λ h. not_both l e (s.rests h).1), s.stays e);
      rests = λ e. ((s.rests e).0, (s.rests e).0);
      clean = λ e. let c = s.clean e in (c.0, c.1, c.0, λ _. c.2);
      found = λ x g _ h. ⊎_elim (λ z. absurd (true≢false (sym z))) (λ z. s.found x g z (inl y)) h;
    }
