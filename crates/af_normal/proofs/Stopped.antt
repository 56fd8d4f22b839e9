-- A turn that ends the mixer leaves the lists of the entry empty, with their room.
use Rattle.std.proofs.Common.{◌≡◌, ℕ, List, [], ◌∷◌, length, map, refl, sym, ap, subst, ◌∙◌, arith}
use Rattle.af_normal.proofs.Common.{Links, NormalTake, Roomy, Setup, TrackTurn, Turn, asked, take_seen, track_seen}
use Rattle.af_normal.specs.AllMixed.{HasTakes}
use Rattle.af_normal.specs.Order.{HasTurns, IsGoing, IsInOrder}
use Rattle.af_normal.specs.State.{NormalState, setup_of}
use Rattle.af_normal.specs.TurnMade.{Stops}
use Rattle.af_normal.proofs.LegalStops.{order_stopped}

none_of : {A B : Type 0} (f : A → B) (xs : List A) → map f xs ≡ [] → xs ≡ []
none_of f [] e = refl
none_of f (x ∷ xs) e = absurd (omega (arith, ap length e))

module _ (links : Links) (t : ℕ) (x : NormalState) (going : IsGoing links t x) (y : NormalState) (stops : Stops x y)
    (turns_room : y.entry.tracks.room ≡ x.entry.tracks.room) (takes_room : y.entry.mixes.room ≡ x.entry.mixes.room) where
  no_turns : y.entry.tracks ≡ x.entry.tracks
  no_turns = let none : y.entry.tracks.items ≡ [] = none_of track_seen y.entry.tracks.items (ap (λ (e : Turn). e.tracks) stops.tells) in
      (λ i. record { items = (none ∙ sym going.none.0) i; room = turns_room i })

  no_takes : y.entry.mixes ≡ x.entry.mixes
  no_takes = let none : y.entry.mixes.items ≡ [] = none_of take_seen y.entry.mixes.items (ap (λ (e : Turn). e.mixes) stops.tells) in
      (λ i. record { items = (none ∙ sym going.none.1) i; room = takes_room i })

  turns_left : HasTurns (length y.tracks) y.entry.tracks y.spare_turns
  turns_left = subst (λ (n : ℕ). HasTurns n y.entry.tracks y.spare_turns) (sym (ap (λ (m : NormalState). length m.tracks) stops.leaves))
      (subst (λ (r : Roomy TrackTurn). HasTurns (length x.tracks) r y.spare_turns) (sym no_turns)
      (subst (HasTurns (length x.tracks) x.entry.tracks) (sym (ap (λ (m : NormalState). m.spare_turns) stops.leaves)) going.turns_room))

  takes_left : HasTakes (asked (setup_of y)) (length y.tracks) y.entry.mixes y.spare_takes
  takes_left = subst (λ (c : Setup). HasTakes (asked c) (length y.tracks) y.entry.mixes y.spare_takes) (sym (ap setup_of stops.leaves))
      (subst (λ (n : ℕ). HasTakes (asked (setup_of x)) n y.entry.mixes y.spare_takes) (sym (ap (λ (m : NormalState). length m.tracks) stops.leaves))
      (subst (λ (r : Roomy NormalTake). HasTakes (asked (setup_of x)) (length x.tracks) r y.spare_takes) (sym no_takes)
      (subst (HasTakes (asked (setup_of x)) (length x.tracks) x.entry.mixes) (sym (ap (λ (m : NormalState). m.spare_takes) stops.leaves)) going.takes_room)))

  pub stopped : IsInOrder links y
  stopped = order_stopped x y stops links t going turns_left takes_left
