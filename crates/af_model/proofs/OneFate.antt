-- Each frame that was released is mixed once, discarded once, or still queued.
use Rattle.std.proofs.Common.{◌≡◌, ℕ, zero, suc, ◌+◌, ◌-◌, ◌<◌, ◌≤◌, Some, List, [], ◌∷◌, ◌++◌, take, drop, slice_get, refl, sym, ap, ◌∙◌, subst, arith, append_assoc, append-nil, lt_of_not-le}
use Rattle.af_model.proofs.Common.{ClientEvent, HandEvent, ServerEvent}
use Rattle.std.proofs.lemmas.Option.{none-some, same_Some}
use Rattle.af_model.proofs.Basics.{client_taken}
use mathlib.Core.Logic.{dite}
use native.Mathlib.Decide.{dec_le}
use Rattle.af_base.specs.declared.event.ServerEvent.TheVariants as server
use Rattle.af_base.specs.declared.event.HandEvent.TheVariants as hand
use Rattle.af_model.specs.declared.shape.Shape.{Shape}
use Rattle.af_model.specs.declared.point.TrackPoint.{TrackPoint}
use Rattle.af_model.specs.Point.{start, ServerMay, after_server, after_hand}
use Rattle.af_model.specs.History.{Moment, by_client, by_server, by_hand, after, IsLegal, with_taken, taken_of, HasHistory, point}
use Rattle.af_model.specs.Fates.{InTurn}
use Rattle.af_model.specs.Spans.{Span, covered_by, spans_of, fates_of, Follow, HasOneFate, mixed_by, queued, frames_by}
use Rattle.af_model.proofs.Fates.{in_turn, drop_low}

-- the frames that a span mixes: those released at its positions, if its fate is to be mixed
abbrev pub mixed_in : List ℕ → ℕ → Span → List ℕ
mixed_in released base s = frames_by s.fate (take (s.to - s.from) (drop (s.from - base) released))

follow_join : (from mid to : ℕ) (xs ys : List Span) → Follow from xs mid → Follow mid ys to → Follow from (xs ++ ys) to
follow_join from mid to [] ys f g = subst (λ (z : ℕ). Follow z ys to) (sym f) g
follow_join from mid to (x ∷ xs) ys f g = (f.0, f.1, follow_join x.to mid to xs ys f.2 g)

pub hand_consumed : (p : TrackPoint) (e : HandEvent) → (after_hand p e).consumed ≡ p.consumed
hand_consumed p (hand.SetFlags bits) = refl
hand_consumed p (hand.Met count) = refl

covers : (shape : Shape) (p : TrackPoint) (others : ℕ) (e : ServerEvent) → ServerMay p others e → InTurn shape p → Follow p.consumed (covered_by p e) (after_server p e).consumed
covers shape p others (server.Drop to) may turn = (refl, drop_low shape p turn, refl)
covers shape p others (server.Take count) may turn = (refl, omega arith, refl)
covers shape p others _ may turn = refl

pub spans_follow : (shape : Shape) (order : List Moment) → IsLegal (start shape) order → Follow shape.base (spans_of shape order) (after (start shape) order).consumed
spans_follow shape [] h = refl
spans_follow shape (by_client e ∷ order) h = subst (λ (z : ℕ). Follow shape.base (spans_of shape order) z) (sym (client_taken (after (start shape) order) e)) (spans_follow shape order h.1)
spans_follow shape (by_server e ∷ order) h =
    follow_join shape.base _ _ (spans_of shape order) _ (spans_follow shape order h.1) (covers shape (after (start shape) order) _ e h.0 (in_turn shape order h.1))
spans_follow shape (by_hand e ∷ order) h = subst (λ (z : ℕ). Follow shape.base (spans_of shape order) z) (sym (hand_consumed (after (start shape) order) e)) (spans_follow shape order h.1)

-- spans that follow one another lie past where they begin
past : (from to : ℕ) (spans : List Span) → Follow from spans to → (place : ℕ) (s : Span) → slice_get spans place ≡ Some s → from ≤ s.from
past from to [] f place s is = absurd (none-some s is)
past from to (x ∷ spans) f zero s is = let e : x.from ≡ s.from = ap (λ (z : Span). z.from) (same_Some x s is) in let a = f.0 in omega arith
past from to (x ∷ spans) f (suc place) s is = let r : x.to ≤ s.from = past x.to to spans f.2 place s is in let a = f.0 in let b = f.1 in omega arith

one_place : (from to : ℕ) (spans : List Span) → Follow from spans to → (position : ℕ) → from ≤ position → position < to → HasOneFate spans position
one_place from to [] f position low high = absurd (let e : from ≡ to = f in omega arith)
one_place from to (x ∷ spans) f position low high =
    dite (dec_le x.to position)
    (λ (past_it : x.to ≤ position). later past_it (one_place x.to to spans f.2 position past_it high))
    (λ not. let inside : position < x.to = lt_of_not-le not in record {
      place = 0;
      span = x;
      is_there = refl;
      lies = ((let a = f.0 in omega arith), inside);
      only = first inside;
    })
  where
    first : position < x.to → (other : ℕ) (s : Span) → slice_get (x ∷ spans) other ≡ Some s → ((s.from ≤ position) × (position < s.to)) → other ≡ 0
    first inside zero s is lies = refl
    first inside (suc other) s is lies = absurd (let r : x.to ≤ s.from = past x.to to spans f.2 other s is in let a = lies.0 in omega arith)

    later : x.to ≤ position → HasOneFate spans position → HasOneFate (x ∷ spans) position
    later past_it r =
        record {
          place = suc r.place;
          span = r.span;
          is_there = r.is_there;
          lies = r.lies;
          only = others;
        }
      where
        others : (other : ℕ) (s : Span) → slice_get (x ∷ spans) other ≡ Some s → ((s.from ≤ position) × (position < s.to)) → other ≡ suc r.place
        others zero s is lies = absurd (let e : x.to ≡ s.to = ap (λ (z : Span). z.to) (same_Some x s is) in let a = lies.1 in omega arith)
        others (suc other) s is lies = ap suc (r.only other s is lies)

mixed_by-append : (released : List ℕ) (base : ℕ) (xs ys : List Span) → mixed_by released base (xs ++ ys) ≡ mixed_by released base xs ++ mixed_by released base ys
mixed_by-append released base [] ys = refl
mixed_by-append released base (x ∷ xs) ys =
    ap (λ (l : List ℕ). mixed_in released base x ++ l) (mixed_by-append released base xs ys) ∙ sym (append_assoc (mixed_in released base x) (mixed_by released base xs) (mixed_by released base ys))

mixes : (released : List ℕ) (base : ℕ) (p : TrackPoint) (taken : List ℕ) (e : ServerEvent) → with_taken released base p taken e ≡ taken ++ mixed_by released base (covered_by p e)
mixes released base p taken (server.SawGain word) = sym (append-nil taken)
mixes released base p taken (server.SawFlush flush) = sym (append-nil taken)
mixes released base p taken (server.SawRear rear) = sym (append-nil taken)
mixes released base p taken (server.SawFront front) = sym (append-nil taken)
mixes released base p taken (server.Drop to) = sym (append-nil taken)
mixes released base p taken (server.Take count) =
    let same : count ≡ p.consumed + count - p.consumed = omega arith in
    ap (λ (n : ℕ). taken ++ take n (drop (p.consumed - base) released)) same ∙ ap (λ (l : List ℕ). taken ++ l) (sym (append-nil (take (p.consumed + count - p.consumed) (drop (p.consumed - base) released))))
mixes released base p taken (server.Tally missing) = sym (append-nil taken)
mixes released base p taken (server.SetFlags bits) = sym (append-nil taken)
mixes released base p taken (server.SetStatus word) = sym (append-nil taken)
mixes released base p taken (server.Learn count) = sym (append-nil taken)

taken_of-spans : (released : List ℕ) (shape : Shape) (order : List Moment) → taken_of released shape order ≡ mixed_by released shape.base (spans_of shape order)
taken_of-spans released shape [] = refl
taken_of-spans released shape (by_client e ∷ order) = taken_of-spans released shape order
taken_of-spans released shape (by_server e ∷ order) =
    let p = after (start shape) order in
    mixes released shape.base p (taken_of released shape order) e
    ∙ ap (λ (l : List ℕ). l ++ mixed_by released shape.base (covered_by p e)) (taken_of-spans released shape order)
    ∙ sym (mixed_by-append released shape.base (spans_of shape order) (covered_by p e))
taken_of-spans released shape (by_hand e ∷ order) = taken_of-spans released shape order

module _ {shape : Shape} {ce : List ClientEvent} {cf : List ℕ} {se : List ServerEvent} {sf : List ℕ} {he : List HandEvent} (h : HasHistory shape ce cf se sf he) where
  -- takes, drops and what waits follow one another from the base on up to what was released
  pub fates_follow : Follow shape.base (fates_of h) (point h).released
  fates_follow =
      let turn : InTurn shape (point h) = in_turn shape h.order h.legal in
      follow_join shape.base (point h).consumed (point h).released (spans_of shape h.order) ((record { fate = queued; from = (point h).consumed; to = (point h).released }) ∷ []) (spans_follow shape h.order h.legal)
      (refl, turn.within, refl)

  -- each frame that was released has one fate
  pub one_fate : (position : ℕ) → shape.base ≤ position → position < (point h).released → HasOneFate (fates_of h) position
  one_fate position low high = one_place shape.base (point h).released (fates_of h) fates_follow position low high

  -- the frames that the server took are those at the positions of its takes
  pub taken-mixed : sf ≡ mixed_by cf shape.base (spans_of shape h.order)
  taken-mixed = sym h.taken_is ∙ taken_of-spans cf shape h.order
