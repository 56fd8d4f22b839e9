-- The turn of the normal mixer in a session, and of the fast mixer.
use Rattle.std.proofs.Common.{◌≡◌, ℕ, Bool, List, [], true, false, refl, sym, subst}
use Rattle.af_session.proofs.Common.{Given, IsFastTurn, NormalState, Outside, RoundNoted, SessionState, TurnMade, Turns, answer_of, fast_round, normal_round, still_round, turn_of}
use Rattle.std.specs.Bool.{MatchBool}
use Rattle.af_normal.specs.LegalTurned.{IsLegal}
use Rattle.af_script.specs.declared.op.TurnSpec.TheVariants as spec

-- the first case of a choice holds if its condition is true
of_true : (P Q : Type 0) (b : Bool) → b ≡ true → P → MatchBool b P Q
of_true P Q b is p = subst (λ (x : Bool). MatchBool x P Q) (sym is) p

-- the second case of a choice holds if its condition is false
of_false : (P Q : Type 0) (b : Bool) → b ≡ false → Q → MatchBool b P Q
of_false P Q b is q = subst (λ (x : Bool). MatchBool x P Q) (sym is) q

-- the normal mixer has not ended, and its turn makes a round
pub goes_on : (g : Given) (s : SessionState) (m : NormalState) → s.normal.ended ≡ false → (o : Outside) → IsLegal o s.normal m → TurnMade (answer_of (turn_of m.entry)) s.normal m → (r : RoundNoted) × Turns g spec.Normal s r [] (record s { normal = m })
goes_on g s m going o legal made = (normal_round s (turn_of m.entry), (refl, of_false _ _ s.normal.ended going (turn_of m.entry, refl, record { outside = o; legal = legal; told = refl; made = made; leaves = refl })))

-- the normal mixer has ended, and nothing happens in its round
pub stays_ended : (g : Given) (s : SessionState) → s.normal.ended ≡ true → (r : RoundNoted) × Turns g spec.Normal s r [] s
stays_ended g s ended = (still_round s, (refl, of_true _ _ s.normal.ended ended (refl, refl)))

-- the fast mixer has ended, and nothing happens in its round
pub stays_exited : (g : Given) (count : ℕ) (s : SessionState) → s.fast.exited ≡ true → (r : RoundNoted) × Turns g (spec.Fast count) s r [] s
stays_exited g count s ended = (still_round s, of_true _ _ s.fast.exited ended (refl, refl, refl))

-- the fast mixer has not ended, and its cycles make a round
pub goes_through : (g : Given) (count : ℕ) (s t : SessionState) (bytes : List ℕ) → s.fast.exited ≡ false → IsFastTurn count s bytes t → (r : RoundNoted) × Turns g (spec.Fast count) s r bytes t
goes_through g count s t bytes going turn = (fast_round s t, of_false _ _ s.fast.exited going (refl, turn))
