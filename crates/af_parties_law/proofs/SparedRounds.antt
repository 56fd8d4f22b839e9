-- Each round of a render spares the tracks whose clients have not poked.
use Rattle.std.proofs.Common.{◌≡◌, ◌≢◌, ℕ, ◌+◌, ◌<◌, ◌≤◌, ◌&&◌, Bool, true, false, MatchBool, List, [], ◌∷◌, ◌++◌, length, map, slice_get, slice_set, get_or, Some, None, refl, sym, ap, subst, ◌∙◌, ⊎_elim, arith}
use Rattle.af_parties_law.proofs.Common.{ClientCall, Given, IsFastTurn, IsRound, NormalTurned, PartyState, RoundNoted, ServerState, SessionState, Turn, TurnSpec, after_calls, both_first, both_right, both_true, calls_more, calls_over, cases_eq, empty_at, fast_round, file_at, flat_map, get_or-set_other, get_or-set_same, get_set_other, get_set_same, has_no_poke, length-replicate, list_all, list_all-append, map-append, no_call, no_calls, none_corrupt, normal_round, ops_at, same_Some, slice_get-get_or, slice_get_cases, slice_get_within, slice_index_or, still_round, track_of, turn_in, turns_more}
use Rattle.af_script.specs.declared.op.TurnSpec.TheVariants as spec
use Rattle.af_parties_law.specs.Hostile.{is_spared_in_turn}
use Rattle.af_parties_law.proofs.Meeting.{Follows, command_open, follows_close, follows_fast, follows_then, open_after, stream_open}
use Rattle.af_parties_law.proofs.OpenCalls.{AreOpen, AreTame, IsTame, open_turn, tame_turn}
use Rattle.af_parties_law.proofs.SparedTurns.{turn_spares}

-- ## While the run goes on

-- all calls of a client in some rounds
abbrev pub all_calls : List RoundNoted → ℕ → List ClientCall
all_calls rounds i = calls_over (map (λ (r : RoundNoted). r.calls) rounds) i

-- all turns of the normal mixer in some rounds
abbrev pub all_turns : List RoundNoted → List Turn
all_turns rounds = flat_map turn_in (map (λ (r : RoundNoted). r.turn) rounds)

-- In these rounds each track was spared whose client poked nothing, and the lists of such a client hold no poke
pub record SparesSoFar (rounds : List RoundNoted) (s : SessionState) : Type 0 where
  pub tame : (i : ℕ) (p : PartyState) → slice_get s.clients i ≡ Some p → has_no_poke (all_calls rounds i) ≡ true → IsTame p
  pub spared : (i : ℕ) → i < length s.clients → has_no_poke (all_calls rounds i) ≡ true → (none_corrupt (all_calls rounds i) ≡ true) × (list_all (is_spared_in_turn i) (all_turns rounds) ≡ true)

-- the calls of a client in a round
abbrev pub calls_in_round : RoundNoted → ℕ → List ClientCall
calls_in_round r i = slice_index_or r.calls i []

-- ## Rounds

-- what a round does for the clients without pokes: their lists stay without pokes, and their tracks are spared
pub record RoundSpares (r : RoundNoted) (s t : SessionState) : Type 0 where
  pub tame : (i : ℕ) (q : PartyState) → slice_get t.clients i ≡ Some q → (p : PartyState) × (slice_get s.clients i ≡ Some p) × (has_no_poke (calls_in_round r i) ≡ true → IsTame p → IsTame q)
  pub spared : (i : ℕ) (p q : PartyState) → slice_get s.clients i ≡ Some p → slice_get t.clients i ≡ Some q → IsTame p → IsTame q → (none_corrupt (calls_in_round r i) ≡ true) × (list_all (is_spared_in_turn i) (turn_in r.turn) ≡ true)

module _ (rounds : List RoundNoted) (r : RoundNoted) where
  more_calls : (i : ℕ) → all_calls (rounds ++ r ∷ []) i ≡ all_calls rounds i ++ calls_in_round r i
  more_calls i = ap (λ (xs : List (List (List ClientCall))). calls_over xs i) (map-append (λ (x : RoundNoted). x.calls) rounds (r ∷ [])) ∙ calls_more (map (λ (x : RoundNoted). x.calls) rounds) r.calls i

  more_turns : all_turns (rounds ++ r ∷ []) ≡ all_turns rounds ++ turn_in r.turn
  more_turns = ap (λ rounds. flat_map turn_in rounds) (map-append (λ (x : RoundNoted). x.turn) rounds (r ∷ [])) ∙ turns_more (map (λ (x : RoundNoted). x.turn) rounds) r.turn

  apart : (i : ℕ) → has_no_poke (all_calls (rounds ++ r ∷ []) i) ≡ true → (has_no_poke (all_calls rounds i) && has_no_poke (calls_in_round r i)) ≡ true
  apart i calm = sym (list_all-append _ (all_calls rounds i) (calls_in_round r i)) ∙ sym (ap has_no_poke (more_calls i)) ∙ calm

  calm_before : (i : ℕ) → has_no_poke (all_calls (rounds ++ r ∷ []) i) ≡ true → has_no_poke (all_calls rounds i) ≡ true
  calm_before i calm = both_first (has_no_poke (all_calls rounds i)) (has_no_poke (calls_in_round r i)) (apart i calm)

  calm_here : (i : ℕ) → has_no_poke (all_calls (rounds ++ r ∷ []) i) ≡ true → has_no_poke (calls_in_round r i) ≡ true
  calm_here i calm = both_right (has_no_poke (all_calls rounds i)) (has_no_poke (calls_in_round r i)) (apart i calm)

  module _ (s t : SessionState) (before : SparesSoFar rounds s) (round : RoundSpares r s t) where
    still_tame : (i : ℕ) (q : PartyState) → slice_get t.clients i ≡ Some q → has_no_poke (all_calls (rounds ++ r ∷ []) i) ≡ true → IsTame q
    still_tame i q is calm = let was = round.tame i q is in was.2 (calm_here i calm) (before.tame i was.0 was.1 (calm_before i calm))

    still_spared : (i : ℕ) (q : PartyState) → slice_get t.clients i ≡ Some q → has_no_poke (all_calls (rounds ++ r ∷ []) i) ≡ true
        → (none_corrupt (all_calls (rounds ++ r ∷ []) i) ≡ true) × (list_all (is_spared_in_turn i) (all_turns (rounds ++ r ∷ [])) ≡ true)
    still_spared i q is calm =
        let was = round.tame i q is in
        let old = before.spared i (slice_get_within s.clients i was.0 was.1) (calm_before i calm) in
        let new = round.spared i was.0 q was.1 is (before.tame i was.0 was.1 (calm_before i calm)) (still_tame i q is calm) in (
          ap none_corrupt (more_calls i) ∙ list_all-append _ (all_calls rounds i) (calls_in_round r i) ∙ both_true (none_corrupt (all_calls rounds i)) _ old.0 new.0,
          ap (list_all (is_spared_in_turn i)) more_turns ∙ list_all-append (is_spared_in_turn i) (all_turns rounds) (turn_in r.turn) ∙ both_true (list_all (is_spared_in_turn i) (all_turns rounds)) _ old.1 new.1,
        )

    -- the tracks are spared so far after one round more
    pub spares_more : SparesSoFar (rounds ++ r ∷ []) t
    spares_more = record {
      tame = still_tame;
      spared = (λ i lt calm. ⊎_elim
          (λ (here : (q : PartyState) × (i < length t.clients) × (slice_get t.clients i ≡ Some q) × (slice_index_or t.clients i q ≡ q)). still_spared i here.0 here.2 calm)
          (λ (none : (length t.clients ≤ i) × (slice_get t.clients i ≡ None)). absurd (omega (arith, lt, none.0)))
          (slice_get_cases t.clients i).1);
    }

-- ## A round in which no client made a call and the normal mixer no turn

quiet_calls : (s : SessionState) (i : ℕ) → slice_index_or (no_calls s) i [] ≡ []
quiet_calls s i = empty_at (length s.clients) i

quiet_round : (s t : SessionState) (cycles : ℕ) → Follows s t → RoundSpares (record (still_round s) { cycles = cycles }) s t
quiet_round s t cycles follows = record {
  tame = (λ i q is. let was = follows i q is in (was.0, was.1, λ calm. was.2));
  spared = (λ i p q was is old new. (ap none_corrupt (quiet_calls s i), refl));
}

-- ## A whole round

module _ (g : Given) (s t : SessionState) (bytes : List ℕ) where
  client_spares : (j : ℕ) (r : RoundNoted) (round : IsRound g (spec.Client j) s r bytes t) → RoundSpares r s t
  client_spares j r round =
      let turned : SessionState = round.turned in
      let calls : List ClientCall = round.turns.1 in
      let r_is = round.turns.2 in
      let one = round.turns.3 in
      let lt : j < length s.clients = slice_get_within s.clients j one.before one.was in
      let clients : turned.clients ≡ slice_set s.clients j one.after = ap (λ (x : SessionState). x.clients) one.leaves in
      let at_j : slice_get turned.clients j ≡ Some one.after = ap (λ (cs : List PartyState). slice_get cs j) clients ∙ get_set_same s.clients j one.after lt in
      let close = follows_close round.together.links turned round.met t round.meets round.ends round.together.met in
      let here : calls_in_round r j ≡ calls = ap (λ (x : RoundNoted). calls_in_round x j) r_is ∙ get_or-set_same (no_calls s) j calls [] (omega (arith, lt, length-replicate (length s.clients) no_call)) in
      let elsewhere : (i : ℕ) → i ≢ j → calls_in_round r i ≡ [] = (λ i ne. ap (λ (x : RoundNoted). calls_in_round x i) r_is ∙ get_or-set_other (no_calls s) j i calls [] ne ∙ quiet_calls s i) in
      let ops = ops_at g j in
      let file = file_at g j in
      let tame_now : has_no_poke calls ≡ true → IsTame one.before → IsTame one.after = (λ calm tame.
      let all : AreTame (after_calls (track_of ops file one.before) calls) = tame_turn (track_of ops file one.before) calls calm tame in
      let same : AreTame (track_of ops file one.after) = subst AreTame (sym one.turned) all in (same.0, same.1)) in
      record {
        tame = (λ i q is. let was = close i q is in ⊎_elim
            (λ (e : i ≡ j).
            let same : was.0 ≡ one.after = same_Some was.0 one.after (sym was.1 ∙ ap (slice_get turned.clients) e ∙ at_j) in
            (one.before, ap (slice_get s.clients) e ∙ one.was, λ calm tame. was.2 (subst IsTame (sym same) (tame_now (ap has_no_poke (sym (ap (calls_in_round r) e ∙ here)) ∙ calm) tame))))
            (λ (ne : i ≢ j). (was.0, sym (get_set_other s.clients j i one.after ne) ∙ ap (λ (cs : List PartyState). slice_get cs i) (sym clients) ∙ was.1, λ calm tame. was.2 tame))
            (cases_eq i j));
        spared = (λ i p q was is old new. (
          ⊎_elim
              (λ (e : i ≡ j).
              let fine = open_after round.together.links turned round.met t round.meets round.ends round.together.met i q is new one.after (ap (slice_get turned.clients) e ∙ at_j) in
              let all = open_turn (track_of ops file one.before) calls one.legal (subst AreOpen one.turned fine) in
              ap none_corrupt (ap (calls_in_round r) e ∙ here) ∙ all)
              (λ (ne : i ≢ j). ap none_corrupt (elsewhere i ne))
              (cases_eq i j),
          ap (λ (x : RoundNoted). list_all (is_spared_in_turn i) (turn_in x.turn)) r_is,
        ));
      }

  normal_spares : (r : RoundNoted) (round : IsRound g spec.Normal s r bytes t) → RoundSpares r s t
  normal_spares r round = by_ended s.normal.ended round.turns.1
    where
      turned : SessionState
      turned = round.turned

      close : Follows turned t
      close = follows_close round.together.links turned round.met t round.meets round.ends round.together.met

      by_ended : (b : Bool) → MatchBool b ((r ≡ still_round s) × (turned ≡ s)) ((e : Turn) × (r ≡ normal_round s e) × NormalTurned s turned e) → RoundSpares r s t
      by_ended true none = subst (λ (x : RoundNoted). RoundSpares x s t) (sym none.0) (quiet_round s t 0 (subst (λ (x : SessionState). Follows x t) none.1 close))
      by_ended false (e, r_is, one) =
          let clients : turned.clients ≡ s.clients = ap (λ (x : SessionState). x.clients) one.leaves in
          subst (λ (x : RoundNoted). RoundSpares x s t) (sym r_is) (record {
            tame = (λ i q is. let was = close i q is in (was.0, ap (λ (cs : List PartyState). slice_get cs i) (sym clients) ∙ was.1, λ calm tame. was.2 tame));
            spared = (λ i p q was is old new. (
              ap none_corrupt (quiet_calls s i),
              (let here : slice_get turned.clients i ≡ Some p = ap (λ (cs : List PartyState). slice_get cs i) clients ∙ was in
                  let lt : i < length s.normal.tracks = omega (arith, slice_get_within s.clients i p was, round.together.before.count) in
                  let command = command_open round.together.links turned round.met t round.meets round.ends round.together.met i q is p here old in
                  let stream = stream_open round.together.links turned round.met t round.meets round.ends round.together.met i q is p here old in
                  let inside : i < length s.normal.commands = omega (arith, lt, round.together.before.normal.tied.sizes.commands_are) in
                  let first : ServerState = get_or s.normal.commands i command.0 in
                  let spares = turn_spares round.together.links s.normal turned.normal round.together.before.normal one.outside one.legal i lt first command.0 (slice_get-get_or s.normal.commands i command.0 inside) command.1 command.2 stream in
                  both_true (is_spared_in_turn i e) true (ap (is_spared_in_turn i) one.told ∙ spares) refl),
            ));
          })

  fast_spares : (count : ℕ) (r : RoundNoted) (round : IsRound g (spec.Fast count) s r bytes t) → RoundSpares r s t
  fast_spares count r round = by_exit s.fast.exited round.turns
    where
      turned : SessionState
      turned = round.turned

      close : Follows turned t
      close = follows_close round.together.links turned round.met t round.meets round.ends round.together.met

      by_exit : (b : Bool) → MatchBool b ((r ≡ still_round s) × (bytes ≡ []) × (turned ≡ s)) ((r ≡ fast_round s turned) × IsFastTurn count s bytes turned) → RoundSpares r s t
      by_exit true none = subst (λ (x : RoundNoted). RoundSpares x s t) (sym none.0) (quiet_round s t 0 (subst (λ (x : SessionState). Follows x t) none.2 close))
      by_exit false (r_is, turn) = subst (λ (x : RoundNoted). RoundSpares x s t) (sym r_is) (quiet_round s t (fast_round s turned).cycles (follows_then s turned t (follows_fast count s bytes turned turn) close))

  round_spares : (turn : TurnSpec) (r : RoundNoted) → IsRound g turn s r bytes t → RoundSpares r s t
  round_spares (spec.Client j) r round = client_spares j r round
  round_spares spec.Normal r round = normal_spares r round
  round_spares (spec.Fast count) r round = fast_spares count r round

  -- one round more spares the tracks
  pub spares_round : (turn : TurnSpec) (r : RoundNoted) (rounds : List RoundNoted) → IsRound g turn s r bytes t → SparesSoFar rounds s → SparesSoFar (rounds ++ r ∷ []) t
  spares_round turn r rounds round so_far = spares_more rounds r s t so_far (round_spares turn r round)
