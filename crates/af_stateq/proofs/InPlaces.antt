-- How the item of one slot goes from place to place.
use Rattle.std.proofs.Common.{◌≡◌, ℕ, Bool, true, false, true≢false, ◌||◌, ◌&&◌, not, if◌then◌else◌, Option, Some, None, is_some, refl, ap, sym, ◌∙◌}
use Rattle.af_stateq.proofs.Common.{Coming, FastState, Going, Held, Move, Nowhere, Pending, Place, Returned, SeeAck, Send, Take, carries, held_of, is_placed, left, let_go, moved, returned_of}
use Rattle.af_stateq.specs.OneHand.{going_of, InPlace}

some_none : {P : Type 0} (x : Option P) (p : P) → x ≡ Some p → x ≡ None → ⊥
some_none x p s n = true≢false (sym (ap is_some s) ∙ ap is_some n)

if_same : {X : Type 0} (b : Bool) (x : X) → (if b then x else x) ≡ x
if_same true x = refl
if_same false x = refl

module _ {P : Type 0} where
  -- a move takes no item away
  placed_after : (b : Bool) (p : P) → is_placed (if b then Held p else Coming p) ≡ true
  placed_after true p = refl
  placed_after false p = refl

  pub is_placed-moved : (m : Move) (i : ℕ) (pl : Place P) → is_placed (moved m i pl) ≡ is_placed pl
  is_placed-moved Send i Nowhere = refl
  is_placed-moved Send i (Pending p) = refl
  is_placed-moved Send i (Going p) = refl
  is_placed-moved Send i (Held p) = refl
  is_placed-moved Send i (Coming p) = refl
  is_placed-moved Send i (Returned p) = refl
  is_placed-moved SeeAck i Nowhere = refl
  is_placed-moved SeeAck i (Pending p) = refl
  is_placed-moved SeeAck i (Going p) = refl
  is_placed-moved SeeAck i (Held p) = refl
  is_placed-moved SeeAck i (Coming p) = refl
  is_placed-moved SeeAck i (Returned p) = refl
  is_placed-moved (Take x) i Nowhere = refl
  is_placed-moved (Take x) i (Pending p) = refl
  is_placed-moved (Take x) i (Going p) = refl
  is_placed-moved (Take x) i (Held p) = placed_after (carries x i) p
  is_placed-moved (Take x) i (Coming p) = refl
  is_placed-moved (Take x) i (Returned p) = refl

  pub is_placed-let_go : (pl : Place P) → is_placed (let_go pl) ≡ is_placed pl
  is_placed-let_go Nowhere = refl
  is_placed-let_go (Pending p) = refl
  is_placed-let_go (Going p) = refl
  is_placed-let_go (Held p) = refl
  is_placed-let_go (Coming p) = refl
  is_placed-let_go (Returned p) = refl

  pub is_placed-left : (pl : Place P) → is_placed (left pl) ≡ (is_placed pl && not (is_some (returned_of pl)))
  is_placed-left Nowhere = refl
  is_placed-left (Pending p) = refl
  is_placed-left (Going p) = refl
  is_placed-left (Held p) = refl
  is_placed-left (Coming p) = refl
  is_placed-left (Returned p) = refl

  module _ (pe go he co re : Option P) where
    -- a push sends the pending item
    pub send_one : (i : ℕ) (pl : Place P) → InPlace pl pe go he co re → go ≡ None → co ≡ None → (pe' go' co' : Option P) → pe' ≡ None → go' ≡ pe → co' ≡ None → InPlace (moved Send i pl) pe' go' he co' re
    send_one i Nowhere h g c pe' go' co' e f k = record { pending = e; going = f ∙ h.pending; held = h.held; coming = k; returned = h.returned }
    send_one i (Pending p) h g c pe' go' co' e f k = record { pending = e; going = f ∙ h.pending; held = h.held; coming = k; returned = h.returned }
    send_one i (Going p) h g c pe' go' co' e f k = absurd (some_none go p h.going g)
    send_one i (Held p) h g c pe' go' co' e f k = record { pending = e; going = f ∙ h.pending; held = h.held; coming = k; returned = h.returned }
    send_one i (Coming p) h g c pe' go' co' e f k = absurd (some_none co p h.coming c)
    send_one i (Returned p) h g c pe' go' co' e f k = record { pending = e; going = f ∙ h.pending; held = h.held; coming = k; returned = h.returned }

    -- the acknowledgement is seen, and the item that comes back is in hand
    pub look_one : (i : ℕ) (pl : Place P) → InPlace pl pe go he co re → (co' re' : Option P) → co' ≡ None → re' ≡ (if is_some co then co else re) → InPlace (moved SeeAck i pl) pe go he co' re'
    look_one i Nowhere h co' re' e f = record { pending = h.pending; going = h.going; held = h.held; coming = e; returned = f ∙ ap (λ (c : Option P). if is_some c then c else re) h.coming ∙ h.returned }
    look_one i (Pending p) h co' re' e f = record { pending = h.pending; going = h.going; held = h.held; coming = e; returned = f ∙ ap (λ (c : Option P). if is_some c then c else re) h.coming ∙ h.returned }
    look_one i (Going p) h co' re' e f = record { pending = h.pending; going = h.going; held = h.held; coming = e; returned = f ∙ ap (λ (c : Option P). if is_some c then c else re) h.coming ∙ h.returned }
    look_one i (Held p) h co' re' e f = record { pending = h.pending; going = h.going; held = h.held; coming = e; returned = f ∙ ap (λ (c : Option P). if is_some c then c else re) h.coming ∙ h.returned }
    look_one i (Coming p) h co' re' e f = record { pending = h.pending; going = h.going; held = h.held; coming = e; returned = f ∙ ap (λ (c : Option P). if is_some c then c else re) h.coming }
    look_one i (Returned p) h co' re' e f = record { pending = h.pending; going = h.going; held = h.held; coming = e; returned = f ∙ ap (λ (c : Option P). if is_some c then c else re) h.coming ∙ h.returned }

    -- a free slot gets an item
    pub attach_at : (pl : Place P) → InPlace pl pe go he co re → is_placed pl ≡ false → (item : P) → InPlace (Pending item) (Some item) go he co re
    attach_at Nowhere h e item = record { pending = refl; going = h.going; held = h.held; coming = h.coming; returned = h.returned }
    attach_at (Pending p) h e item = absurd (true≢false e)
    attach_at (Going p) h e item = absurd (true≢false e)
    attach_at (Held p) h e item = absurd (true≢false e)
    attach_at (Coming p) h e item = absurd (true≢false e)
    attach_at (Returned p) h e item = absurd (true≢false e)

    -- a slot is detached whose item isn't in hand
    pub detach_at : (pl : Place P) → InPlace pl pe go he co re → is_some re ≡ false → InPlace (let_go pl) None go he co pe
    detach_at Nowhere h e = record { pending = refl; going = h.going; held = h.held; coming = h.coming; returned = h.pending }
    detach_at (Pending p) h e = record { pending = refl; going = h.going; held = h.held; coming = h.coming; returned = h.pending }
    detach_at (Going p) h e = record { pending = refl; going = h.going; held = h.held; coming = h.coming; returned = h.pending }
    detach_at (Held p) h e = record { pending = refl; going = h.going; held = h.held; coming = h.coming; returned = h.pending }
    detach_at (Coming p) h e = record { pending = refl; going = h.going; held = h.held; coming = h.coming; returned = h.pending }
    detach_at (Returned p) h e = absurd (true≢false (sym (ap is_some h.returned) ∙ e))

    -- an item in hand is taken back
    pub take_at : (pl : Place P) → InPlace pl pe go he co re → InPlace (left pl) pe go he co None
    take_at Nowhere h = record { pending = h.pending; going = h.going; held = h.held; coming = h.coming; returned = refl }
    take_at (Pending p) h = record { pending = h.pending; going = h.going; held = h.held; coming = h.coming; returned = refl }
    take_at (Going p) h = record { pending = h.pending; going = h.going; held = h.held; coming = h.coming; returned = refl }
    take_at (Held p) h = record { pending = h.pending; going = h.going; held = h.held; coming = h.coming; returned = refl }
    take_at (Coming p) h = record { pending = h.pending; going = h.going; held = h.held; coming = h.coming; returned = refl }
    take_at (Returned p) h = record { pending = h.pending; going = h.going; held = h.held; coming = h.coming; returned = refl }

    -- the observer took the state: the item that came is held, and one whose slot went off is given back
    module _ (x : FastState) (i : ℕ) (go' he' back : Option P) where
      abbrev off : Bool
      off = not (carries x i)

      abbrev Settles : Place P → Type 0
      Settles pl = (he' ≡ (if is_some (going_of pl) || off then going_of pl else held_of pl)) × (back ≡ (if is_some (going_of pl) || off then held_of pl else going_of pl))

      held_one : (b : Bool) (p : P) → pe ≡ None → re ≡ None → go' ≡ None → he' ≡ (if not b then None else Some p) → back ≡ (if not b then Some p else None) → InPlace (if b then Held p else Coming p) pe go' he' back re
      held_one true p e f g k l = record { pending = e; going = g; held = k; coming = l; returned = f }
      held_one false p e f g k l = record { pending = e; going = g; held = k; coming = l; returned = f }

      settle_one : (pl : Place P) → InPlace pl pe go he co re → co ≡ None → go' ≡ None → Settles pl → InPlace (moved (Take x) i pl) pe go' he' back re
      settle_one Nowhere h c g s = record { pending = h.pending; going = g; held = s.0 ∙ if_same off None; coming = s.1 ∙ if_same off None; returned = h.returned }
      settle_one (Pending p) h c g s = record { pending = h.pending; going = g; held = s.0 ∙ if_same off None; coming = s.1 ∙ if_same off None; returned = h.returned }
      settle_one (Going p) h c g s = record { pending = h.pending; going = g; held = s.0; coming = s.1; returned = h.returned }
      settle_one (Held p) h c g s = held_one (carries x i) p h.pending h.returned g s.0 s.1
      settle_one (Coming p) h c g s = absurd (some_none co p h.coming c)
      settle_one (Returned p) h c g s = record { pending = h.pending; going = g; held = s.0 ∙ if_same off None; coming = s.1 ∙ if_same off None; returned = h.returned }

      pub poll_one : (pl : Place P) → InPlace pl pe go he co re → co ≡ None → go' ≡ None → he' ≡ (if is_some go || off then go else he) → back ≡ (if is_some go || off then he else go) → InPlace (moved (Take x) i pl) pe go' he' back re
      poll_one pl h c g e f = settle_one pl h c g (
        e ∙ (λ j. if is_some (h.going j) || off then h.going j else h.held j),
        f ∙ (λ j. if is_some (h.going j) || off then h.held j else h.going j),
      )
