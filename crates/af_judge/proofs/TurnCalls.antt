-- Calls that are made one after the other, and the turn that they are.
use Rattle.std.proofs.Common.{◌≡◌, inl, inr, ℕ, zero, suc, ◌-◌, ◌<◌, ◌≤◌, Bool, true, false, MatchBool, fold, List, [], ◌∷◌, ◌++◌, length, take, get_or, None, refl, sym, subst, arith}
use Rattle.af_judge.proofs.Common.{AreCalls, ClientCall, LegalClientTurn, Track, after_call, fold-append, halted_none, most_calls, or_right, wanted_of}
use Rattle.af_judge.specs.Tracks.{AreMade, Ends, IsCallOf}

-- one call more is made
pub made_more : (t : Track) (calls : List ClientCall) (answer : ClientCall) → AreMade t calls → IsCallOf (fold after_call t calls) answer → AreMade t (calls ++ answer ∷ [])
made_more t [] answer made is = (is, tt)
made_more t (c ∷ calls) answer made is = (made.0, made_more (after_call t c) calls answer made.1 is)

-- the track after it
pub fold_more : (t : Track) (calls : List ClientCall) (answer : ClientCall) → fold after_call t (calls ++ answer ∷ []) ≡ after_call (fold after_call t calls) answer
fold_more t calls answer = fold-append after_call t calls (answer ∷ [])

-- each of them is made where it stands
pub made_at : (t : Track) (calls : List ClientCall) (at : ℕ) (answer d : ClientCall) → at < length calls → answer ≡ get_or calls at d → AreMade t calls → IsCallOf (fold after_call t (take at calls)) answer
made_at t [] at answer d inside is made = absurd (let x : ⊥ = omega (arith, inside) in x)
made_at t (c ∷ calls) zero answer d inside is made = subst (IsCallOf t) (sym is) made.0
made_at t (c ∷ calls) (suc at) answer d inside is made = made_at (after_call t c) calls at answer d (omega (arith, inside)) is made.1

to_calls : (left : ℕ) (t : Track) (calls : List ClientCall) → AreMade t calls → length calls ≤ left → Ends (left - length calls) (fold after_call t calls) → AreCalls left t calls
to_calls left t [] made few ends = elim ends [ inl e ↦ inl (let x : left ≡ 0 = omega (arith, e) in x) | inr none ↦ inr none ]
to_calls left t (c ∷ calls) made few ends = (
  omega (arith, few),
  made.0.wanted,
  made.0.is,
  made.0.made,
  to_calls (left - 1) (after_call t c) calls made.1 (omega (arith, few)) (elim ends [ inl e ↦ inl (omega (arith, e)) | inr none ↦ inr none ]),
)

-- what calls are that make up a turn
pub record MakeTurn (left : ℕ) (t : Track) (calls : List ClientCall) : Type 0 where
  pub made : AreMade t calls
  pub few : length calls ≤ left
  pub ends : Ends (left - length calls) (fold after_call t calls)

from_calls : (left : ℕ) (t : Track) (calls : List ClientCall) → AreCalls left t calls → MakeTurn left t calls
from_calls left t [] h = record { made = tt; few = omega arith; ends = elim h [ inl e ↦ inl (let x : left - 0 ≡ 0 = omega (arith, e) in x) | inr none ↦ inr none ] }
from_calls left t (c ∷ calls) h =
    let r = from_calls (left - 1) (after_call t c) calls h.4 in
    record {
      made = (record { wanted = h.1; is = h.2; made = h.3 }, r.made);
      few = (let a = h.0 in let b = r.few in omega (arith, a, b));
      ends = (elim r.ends [ inl e ↦ inl (let a = h.0 in omega (arith, e, a)) | inr none ↦ inr none ]);
    }

ended-none : (t : Track) → t.client.ended ≡ true → wanted_of t ≡ None
ended-none t h = halted_none t.client (or_right t.client.waiting t.client.ended h)

none-made : (t : Track) (calls : List ClientCall) → wanted_of t ≡ None → AreMade t calls → calls ≡ []
none-made t [] none h = refl
none-made t (c ∷ calls) none h = absurd (let e = none in let f = h.0.is in let x : ⊥ = cc in x)

to-by : (b : Bool) (t : Track) (calls : List ClientCall) → (b ≡ true → wanted_of t ≡ None) → MakeTurn most_calls t calls → MatchBool b (calls ≡ []) (AreCalls most_calls t calls)
to-by true t calls none h = none-made t calls (none refl) h.made
to-by false t calls none h = to_calls most_calls t calls h.made h.few h.ends

from-none : (t : Track) (calls : List ClientCall) → wanted_of t ≡ None → calls ≡ [] → MakeTurn most_calls t calls
from-none t calls none e = subst (MakeTurn most_calls t) (sym e) (record { made = tt; few = omega arith; ends = inr none })

from-by : (b : Bool) (t : Track) (calls : List ClientCall) → (b ≡ true → wanted_of t ≡ None) → MatchBool b (calls ≡ []) (AreCalls most_calls t calls) → MakeTurn most_calls t calls
from-by true t calls none h = from-none t calls (none refl) h
from-by false t calls none h = from_calls most_calls t calls h

-- a turn is calls that are made, and end where they may
pub turn_of : (t : Track) (calls : List ClientCall) → MakeTurn most_calls t calls → LegalClientTurn t calls
turn_of t calls h = to-by t.client.ended t calls (ended-none t) h

pub turn_makes : (t : Track) (calls : List ClientCall) → LegalClientTurn t calls → MakeTurn most_calls t calls
turn_makes t calls h = from-by t.client.ended t calls (ended-none t) h
