-- What a look shows is something, and if it shows frames at least one.
use Rattle.std.proofs.Common.{◌≡◌, ℕ, Bool, true, false, min, not, ◌==◌, nat_lt, if◌then◌else◌, Option, Some, None, MatchOption, ◌++◌, sym, subst}
use Rattle.af_server.proofs.Common.{IsSeen, Seen, ahead, dropped_by, is_noticed, look_at, look_events, shown_by}
use Rattle.af_base.specs.declared.seen.Seen.TheVariants as seen
use Rattle.af_server.specs.declared.look.Look.{Look}
use Rattle.af_server.specs.Looks.{Looks, WithinAsk}
use Rattle.af_server.specs.Order.{ServerState}

-- what a look shows by its three tests
abbrev by_tests : (noticed outside same : Bool) (dropped front rear count : ℕ) → Seen
by_tests noticed outside same dropped front rear count =
    if noticed then seen.Flushed dropped else if outside then seen.Shut front rear else if same then seen.Empty else seen.Frames count

some_by_tests : (asked : ℕ) (noticed outside same : Bool) (dropped front rear count : ℕ) → WithinAsk asked (by_tests noticed outside same dropped front rear count)
    → IsSeen (by_tests noticed outside same dropped front rear count)
some_by_tests asked true outside same dropped front rear count within = tt
some_by_tests asked false true same dropped front rear count within = tt
some_by_tests asked false false true dropped front rear count within = tt
some_by_tests asked false false false dropped front rear count within = within.0

module _ (asked : ℕ) (s u : ServerState) (look : Look) (within : WithinAsk asked look.seen) where
  -- what the look says if no words had shut the server
  abbrev Opens : Type 0
  Opens = (front : ℕ) × (let shows = look_at s.pass.part.shape s.flush asked look.flush look.rear front in
      (look.seen ≡ shows) × (u.shown ≡ shown_by shows) × (u.pass.part.events ≡ s.pass.part.events ++ look_events shows look.flush look.rear front))

  -- and if these words had shut it
  abbrev Stays : ℕ × ℕ → Type 0
  Stays words = (look.seen ≡ seen.Shut words.0 words.1) × (look.flush ≡ s.flush) × (look.rear ≡ words.1) × (u ≡ (record s { shown = None }))

  by_words : (o : Option (ℕ × ℕ)) → MatchOption o Opens Stays → IsSeen look.seen
  by_words None opens = let k = s.pass.part.shape in
      subst IsSeen (sym opens.1.0) (some_by_tests asked
      (is_noticed k (not (look.flush == s.flush)) look.rear opens.0) (nat_lt k.frames (ahead opens.0 look.rear)) (look.rear == opens.0)
      (dropped_by k.wrap look.flush look.rear opens.0) opens.0 look.rear (min asked (ahead opens.0 look.rear))
      (subst (WithinAsk asked) opens.1.0 within))
  by_words (Some words) stays = subst IsSeen (sym stays.0) tt

  pub shows_some : Looks s asked look u → IsSeen look.seen
  shows_some looks = by_words s.shut looks
