-- A whole turn, from its steps.
use Rattle.std.proofs.Common.{◌≡◌, ◌⊎◌, inl, inr, ℕ, ◌+◌, ◌-◌, ◌==◌, ◌<◌, ◌≤◌, Bool, true, false, List, fold, length, take, drop, None, ap, sym, ◌∙◌, subst, arith, length-take, eq-eqb}
use Rattle.af_party.proofs.Common.{ClientCall, Frame, LegalClientTurn, Op, Roomy, Track, after_call, after_calls, at_next_turn, client_of, most_calls, ne_eqb, wanted_of}
use Rattle.af_party.specs.Parties.{PartyState, track_of}
use Rattle.af_party.specs.Turning.{Calls, IsTurned, Rests}
use Rattle.af_party.proofs.Legal.{AreMade, legal_turn, made_calls, made_fold, made_more}
use Rattle.af_party.proofs.StepMade.{track_client}

-- the frames of a write
pub frames_next : (file : List Frame) (first count n : ℕ) → first ≡ n → take (first + count - first) (drop first file) ≡ take count (drop n file)
frames_next file first count n is =
    let long : first + count - first ≡ count = omega arith in
    ap (λ (m : ℕ). take m (drop first file)) long ∙ ap (λ (m : ℕ). take count (drop m file)) is

pub few_frames : (file : List Frame) (first count x : ℕ) → x ≤ length (take (first + count - first) (drop first file)) → x ≤ count
few_frames file first count x few = omega (arith, few, length-take (first + count - first) (drop first file))

-- the calls of a turn with one call more lead to the party after it
pub step_more : (ops : List Op) (file : List Frame) (p q r : PartyState) → AreMade (track_of ops file p) q.calls.items (track_of ops file q) → Calls ops file q r
    → AreMade (track_of ops file p) r.calls.items (track_of ops file r)
step_more ops file p q r made step =
    let P : List ClientCall → Type 0 = λ xs. AreMade (track_of ops file p) xs (track_of ops file r) in
    subst P (sym (ap (λ (x : Roomy ClientCall). x.items) step.calls)) (made_more (track_of ops file p) (track_of ops file q) (track_of ops file r) q.calls.items step.wanted step.answer made step.is step.made step.track)

-- the track after a turn that was cut, or not
after_is : (t u : Track) (calls : List ClientCall) (cut : Bool) → u ≡ fold after_call t calls → (length calls == most_calls) ≡ cut → (record u { client = at_next_turn cut u.client }) ≡ after_calls t calls
after_is t u calls cut made is = λ i. record (made i) { client = at_next_turn (sym is i) (made i).client }

-- a turn that ended with these calls
turned : (ops : List Op) (file : List Frame) (cut : Bool) (p q r : PartyState) → AreMade (track_of ops file p) q.calls.items (track_of ops file q) → length q.calls.items ≤ 64
    → (64 ≡ length q.calls.items) ⊎ (wanted_of (track_of ops file q) ≡ None) → (length q.calls.items == most_calls) ≡ cut → r ≡ (record q { client = r.client })
    → client_of ops r.client ≡ at_next_turn cut (client_of ops q.client) → IsTurned ops file p r
turned ops file cut p q r made few ends is same left =
    let t : Track = track_of ops file p in
    let u : Track = track_of ops file q in
    let calls : List ClientCall = q.calls.items in
    let items : r.calls.items ≡ calls = ap (λ (x : PartyState). x.calls.items) same in
    record {
      legal = subst (LegalClientTurn t) (sym items) (legal_turn t calls (made_calls 64 t u calls made few ends));
      track = track_client ops file q r (at_next_turn cut (client_of ops q.client)) same left ∙ after_is t u calls cut (made_fold t u calls made) is ∙ ap (after_calls t) (sym items);
    }

-- a turn that was not cut
pub turn_rests : (ops : List Op) (file : List Frame) (p q r : PartyState) → AreMade (track_of ops file p) q.calls.items (track_of ops file q) → length q.calls.items < 64 → Rests ops file q r → IsTurned ops file p r
turn_rests ops file p q r made few rests =
    turned ops file false p q r made (omega arith) (inr rests.none) (ne_eqb (length q.calls.items) 64 (λ e. omega (arith, e))) rests.same (ap (λ (t : Track). t.client) rests.track)

-- a turn that was cut
pub turn_cut : (ops : List Op) (file : List Frame) (p q r : PartyState) → AreMade (track_of ops file p) q.calls.items (track_of ops file q) → length q.calls.items ≡ 64 → r ≡ (record q { client = r.client })
    → client_of ops r.client ≡ at_next_turn true (client_of ops q.client) → IsTurned ops file p r
turn_cut ops file p q r made all same left = turned ops file true p q r made (omega arith) (inl (sym all)) (eq-eqb (length q.calls.items) 64 all) same left
