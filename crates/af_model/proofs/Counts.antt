-- What the client's list alone tells of the point.
use Rattle.std.proofs.Common.{◌≡◌, ℕ, ◌+◌, true, true≢false, List, [], ◌∷◌, ◌++◌, refl, sym, ap, ◌∙◌, arith}
use Rattle.af_model.proofs.Common.{ClientEvent, both_true}
use Rattle.af_base.specs.declared.event.ClientEvent.TheVariants as client
use Rattle.af_model.proofs.Basics.{both_first, hand_flush, no_flush}
use Rattle.af_model.specs.declared.shape.Shape.{Shape}
use Rattle.af_model.specs.declared.point.TrackPoint.{TrackPoint}
use Rattle.af_model.specs.Point.{start, after_client}
use Rattle.af_model.specs.History.{Moment, by_client, by_server, by_hand, client_of, after, is_no_poke, is_lawful, flush_in, flushes_of}
use Rattle.af_model.proofs.Logic.{both_right}

-- what was lawful with an event more was lawful before
pub lawful_before : (es : List ClientEvent) (e : ClientEvent) → is_lawful (es ++ e ∷ []) ≡ true → is_lawful es ≡ true
lawful_before [] e h = refl
lawful_before (x ∷ es) e h = both_true (is_no_poke x) (is_lawful es) (both_first (is_no_poke x) _ h) (lawful_before es e (both_right (is_no_poke x) _ h))

pub poke_is_not : (es : List ClientEvent) (word value : ℕ) → is_lawful (es ++ client.Poke word value ∷ []) ≡ true → ⊥
poke_is_not [] word value h = true≢false (sym h)
poke_is_not (x ∷ es) word value h = poke_is_not es word value (both_right (is_no_poke x) _ h)

flushes-snoc : (es : List ClientEvent) (e : ClientEvent) → flushes_of (es ++ e ∷ []) ≡ flushes_of es + flush_in e
flushes-snoc [] e = omega arith
flushes-snoc (x ∷ es) e = let r = flushes-snoc es e in omega arith

flushes_client : (p : TrackPoint) (e : ClientEvent) → (after_client p e).flushes ≡ p.flushes + flush_in e
flushes_client p client.Flush = refl
flushes_client p _ = omega arith

-- the flush count is the number of the client's flushes
pub flushes_are : (shape : Shape) (order : List Moment) → (after (start shape) order).flushes ≡ flushes_of (client_of order)
flushes_are shape [] = refl
flushes_are shape (by_client e ∷ order) = flushes_client (after (start shape) order) e ∙ ap (λ n. n + flush_in e) (flushes_are shape order) ∙ sym (flushes-snoc (client_of order) e)
flushes_are shape (by_server e ∷ order) = no_flush (after (start shape) order) e ∙ flushes_are shape order
flushes_are shape (by_hand e ∷ order) = hand_flush (after (start shape) order) e ∙ flushes_are shape order

-- a list stays lawful with an event that is no poke
pub lawful_more : (es : List ClientEvent) (e : ClientEvent) → is_no_poke e ≡ true → is_lawful es ≡ true → is_lawful (es ++ e ∷ []) ≡ true
lawful_more [] e tame h = both_true (is_no_poke e) true tame refl
lawful_more (x ∷ es) e tame h = both_true (is_no_poke x) _ (both_first (is_no_poke x) _ h) (lawful_more es e tame (both_right (is_no_poke x) _ h))
