-- What each call of a client keeps, all calls of a legal turn keep.
use Rattle.std.proofs.Common.{◌≡◌, ℕ, ◌-◌, Bool, true, false, MatchBool, List, [], ◌∷◌, fold, sym, subst, Some}
use Rattle.af_enough_law.proofs.Common.{AreCalls, ClientCall, IsMade, LegalClientTurn, Track, Want, after_call, most_calls, wanted_of}

module _ (P : Track → Type 0) (each : (t : Track) (w : Want) (answer : ClientCall) → P t → wanted_of t ≡ Some w → IsMade t w answer → P (after_call t answer)) where
  pub calls_keep : (left : ℕ) (t : Track) (calls : List ClientCall) → AreCalls left t calls → P t → P (fold after_call t calls)
  calls_keep left t [] made h = h
  calls_keep left t (answer ∷ calls) made h = calls_keep (left - 1) (after_call t answer) calls made.4 (each t made.1 answer h made.2 made.3)

  -- a client that has ended makes no call
  pub turn_keeps : (t : Track) (calls : List ClientCall) → LegalClientTurn t calls → P t → P (fold after_call t calls)
  turn_keeps t calls legal h = by t.client.ended legal
    where
      by : (ended : Bool) → MatchBool ended (calls ≡ []) (AreCalls most_calls t calls) → P (fold after_call t calls)
      by true none = subst (λ (cs : List ClientCall). P (fold after_call t cs)) (sym none) h
      by false made = calls_keep most_calls t calls made h
