-- The calls of a turn, one after the other.
use Rattle.std.proofs.Common.{◌≡◌, ◌⊎◌, inl, inr, ℕ, ◌-◌, ◌≤◌, ◌||◌, Bool, true, false, MatchBool, fold, List, [], ◌∷◌, ◌++◌, length, Option, Some, None, refl, ap, sym, ◌∙◌, subst, arith}
use Rattle.af_party.proofs.Common.{AreCalls, Client, ClientCall, IsMade, IsWanted, LegalClientTurn, Track, Want, after_answer, after_call, answer-some, answered, asked_by, at_next_turn, begins, begun, commands_sent, end_begun, halted_none, most_calls, next_want, rest_of, side_of, wanted_of, with_call}
use Rattle.af_base.proofs.Basics.{or_right}
use Rattle.af_base.specs.declared.event.ClientCall.TheVariants as call
use Rattle.af_runs.specs.declared.want.Want.TheVariants as want
use Rattle.af_party.specs.Asking.{flushed_by, written_by}
use Rattle.af_party.specs.Turning.{WantsNext}
use Rattle.af_party.proofs.MadeCalls.{few_written}
use Rattle.af_party.proofs.WorkLeft.{flush_of}

-- these calls lead from a track to another
abbrev pub AreMade : Track → List ClientCall → Track → Type 0
AreMade t [] u = u ≡ t
AreMade t (answer ∷ calls) u = (wanted : Want) × (wanted_of t ≡ Some wanted) × IsMade t wanted answer × AreMade (after_call t answer) calls u

-- with one call more, the calls lead from the track to the track after the call
pub made_more : (t u v : Track) (calls : List ClientCall) (wanted : Want) (answer : ClientCall) → AreMade t calls u → wanted_of u ≡ Some wanted → IsMade u wanted answer → v ≡ after_call u answer
    → AreMade t (calls ++ answer ∷ []) v
made_more t u v [] wanted answer made is does goes =
    let P : Track → Type 0 = λ x. (w : Want) × (wanted_of x ≡ Some w) × IsMade x w answer × (v ≡ after_call x answer) in
    subst P made (wanted, is, does, goes)
made_more t u v (c ∷ calls) wanted answer made is does goes = (made.0, made.1, made.2, made_more (after_call t c) u v calls wanted answer made.3 is does goes)

-- calls that lead from a track to another, taken one after the other, turn the first into the other
pub made_fold : (t u : Track) (calls : List ClientCall) → AreMade t calls u → u ≡ fold after_call t calls
made_fold t u [] made = made
made_fold t u (c ∷ calls) made = made_fold (after_call t c) u calls made.3

-- the calls of a turn that ends if nothing is wanted, or if no call is left
pub made_calls : (left : ℕ) (t u : Track) (calls : List ClientCall) → AreMade t calls u → length calls ≤ left → (left ≡ length calls) ⊎ (wanted_of u ≡ None) → AreCalls left t calls
made_calls left t u [] made few ends = elim ends [ inl e ↦ inl e | inr none ↦ inr (ap wanted_of (sym made) ∙ none) ]
made_calls left t u (c ∷ calls) made few ends = (
  omega (arith, few),
  made.0,
  made.1,
  made.2,
  made_calls (left - 1) (after_call t c) u calls made.3 (omega (arith, few)) (elim ends [ inl e ↦ inl (omega (arith, e)) | inr none ↦ inr none ]),
)

-- ## A client that has ended

none-made : (t : Track) (calls : List ClientCall) → wanted_of t ≡ None → AreCalls most_calls t calls → calls ≡ []
none-made t [] none h = refl
none-made t (c ∷ calls) none h = absurd (let e = none in let f = h.2 in let x : ⊥ = cc in x)

legal-by : (b : Bool) (t : Track) (calls : List ClientCall) → AreCalls most_calls t calls → (b ≡ true → calls ≡ []) → MatchBool b (calls ≡ []) (AreCalls most_calls t calls)
legal-by true t calls made none = none refl
legal-by false t calls made none = made

-- the turn is legal
pub legal_turn : (t : Track) (calls : List ClientCall) → AreCalls most_calls t calls → LegalClientTurn t calls
legal_turn t calls made = legal-by t.client.ended t calls made (λ h. none-made t calls (halted_none t.client (or_right t.client.waiting t.client.ended h)) made)

-- ## The end of a turn

-- the next want of a client, as the program finds it
pub wants_next : (o : Option Want) (c d : Client) → o ≡ next_want d → d ≡ begun c → (c.waiting || c.ended) ≡ false → WantsNext c o d
wants_next None c d is begins goes = (ap next_want (sym begins) ∙ sym is, ap (at_next_turn false) begins ∙ end_begun c goes)
wants_next (Some w) c d is begins goes = (ap next_want (sym begins) ∙ sym is, begins)

-- ## A call, as the program notes it

-- u is the track of the sides after the call, with any client, and c the client that the program notes
pub call_noted : (t u : Track) (answer : ClientCall) (wanted : Want) (sent : ℕ) (c : Client) → wanted_of t ≡ Some wanted → u ≡ with_call t answer → sent ≡ commands_sent u
    → c ≡ after_answer sent wanted (rest_of (begun t.client).due) (begun t.client) answer → (record u { client = c }) ≡ after_call t answer
call_noted t u answer wanted sent c is sides count noted =
    let noted' : c ≡ answered t answer =
    noted ∙ ap (λ (n : ℕ). after_answer n wanted (rest_of (begun t.client).due) (begun t.client) answer) (count ∙ ap commands_sent sides) ∙ sym (answer-some t answer wanted is) in
    λ i. record (sides i) { client = noted' i }

-- ## What a call writes and flushes

-- a wanted call writes and flushes no more than was asked for
flush-wanted : (t : Track) (w : Want) (n : ℕ) → IsWanted t w (call.Flush n) → 1 ≤ flush_of w
flush-wanted t want.Flush n h = omega arith
flush-wanted t want.Rest n h = absurd h
flush-wanted t _ n h = absurd (let e : ⊥ = cc in e)

pub few_flushed : (t : Track) (w : Want) (a : ClientCall) → IsWanted t w a → flushed_by a ≤ flush_of w
few_flushed t w (call.Flush n) h = flush-wanted t w n h
few_flushed t w _ h = omega arith

pub few_put : (t : Track) (w : Want) (a : ClientCall) → IsMade t w a → written_by a ≤ asked_by w
few_put t w a h = few_written (side_of t a) (asked_by w) a h.1
