-- How what a run shows follows a round of all parties.
use Rattle.std.proofs.Common.{◌≡◌, ◌≢◌, ℕ, zero, suc, ◌+◌, ◌<◌, ◌≤◌, Bool, true, false, if◌then◌else◌, List, [], ◌∷◌, ◌++◌, length, length-set, map, option_map, get_or, slice_set, Option, Some, None, refl, sym, ap, subst, ◌∙◌, ⊎_elim, arith}
use Rattle.af_side_by_side.proofs.Common.{AllCalls, ClientCall, CycleEntry, Follows, FollowsRound, Frame, IsTally, MixerState, PartyState, RoundNoted, SessionState, Shown, Tallied, Turn, all_noted, calls, calls_more, calls_of, calls_over, get_or-set_other, get_or-set_same, get_or_from_slice_get, range_with_len, shown_at, shown_round, shows, shows_tracks, slice_get-get_or, slice_get-map, slice_index_or, states, turn_of, turns, turns_more, turns_still, with_all_calls, with_calls, with_turn, with_turn_if}
use Rattle.std.proofs.lemmas.Bool.{cases_eq}
use Rattle.std.proofs.lemmas.List.FromFn.{fill_by_all, get_or-map-range_with_len, length-map-range_with_len}
use Rattle.af_base.specs.declared.state.FastState.{FastState}

-- the calls of the first i clients were noted, and nothing else
record NotedTo (made : List (List ClientCall)) (i : ℕ) (run run' : Shown) : Type 0 where
  same : run' ≡ record run { calls = run'.calls }
  long : length run'.calls ≡ length run.calls
  done : (k : ℕ) → k < i → k < length run.calls → calls_of run' k ≡ calls_of run k ++ slice_index_or made k []
  rest : (k : ℕ) → i ≤ k → calls_of run' k ≡ calls_of run k

-- the calls of one client more are noted
noted_next : (made : List (List ClientCall)) (i : ℕ) (run run' : Shown) → NotedTo made i run run' → NotedTo made (suc i) run (with_calls run' i (slice_index_or made i []))
noted_next made i run run' n =
    let next : List ClientCall = calls_of run' i ++ slice_index_or made i [] in
    record {
      same = ap (λ (x : Shown). record x { calls = slice_set run'.calls i next }) n.same;
      long = length-set run'.calls i next ∙ n.long;
      done = (λ k lt within. ⊎_elim
          (λ (e : k ≡ i). subst (λ (j : ℕ). slice_index_or (slice_set run'.calls i next) j [] ≡ calls_of run j ++ slice_index_or made j []) (sym e)
          (get_or-set_same run'.calls i next [] (omega (arith, e, within, n.long)) ∙ ap (λ (xs : List ClientCall). xs ++ slice_index_or made i []) (n.rest i (omega arith))))
          (λ (ne : k ≢ i). get_or-set_other run'.calls i k next [] ne ∙ n.done k (omega (arith, lt, ne)) within)
          (cases_eq k i));
      rest = (λ k le. get_or-set_other run'.calls i k next [] (λ e. omega (arith, e, le)) ∙ n.rest k (omega arith));
    }

-- the calls of the first i clients are noted in a run that goes on by them
noted_to : (made : List (List ClientCall)) (i : ℕ) (run : Shown) → NotedTo made i run (with_all_calls made i run)
noted_to made zero run = record { same = refl; long = refl; done = (λ k lt within. absurd (omega (arith, lt))); rest = (λ k le. refl) }
noted_to made (suc i) run = noted_next made i run (with_all_calls made i run) (noted_to made i run)

module _ (states : List FastState) (len tracks : ℕ) (calls : AllCalls) (turns : List (Option Turn)) (frames : List Frame) (entries : List CycleEntry) (made : List (List ClientCall)) where
  abbrev before : Shown
  before = shows states len tracks calls turns frames entries

  abbrev after : Shown
  after = with_all_calls made tracks before

  -- the calls of all clients after a round are those of the rounds before and this one
  calls_after : after.calls ≡ map (calls_over (calls ++ made ∷ [])) (range_with_len 0 tracks)
  unfolding shows
  calls_after =
      let n = noted_to made tracks before in
      let long : length before.calls ≡ tracks = length-map-range_with_len (calls_over calls) 0 tracks in
      fill_by_all (calls_over (calls ++ made ∷ [])) after.calls tracks [] (n.long ∙ long) (λ k below.
      n.done k below (omega (arith, below, long))
      ∙ ap (λ (xs : List ClientCall). xs ++ slice_index_or made k []) (get_or-map-range_with_len (calls_over calls) 0 tracks k k [] below (omega arith))
      ∙ sym (calls_more calls made k))

  -- a run with one round more shows its calls, and its turn if the normal mixer made one
  shows_all : (had_ended : Bool) (turn : Turn) → shows states len tracks (calls ++ made ∷ []) (turns ++ (if had_ended then None else Some turn) ∷ []) frames entries ≡ with_turn_if had_ended turn after
  unfolding shows
  shows_all true turn =
      let x : Shown = before in
      sym ((noted_to made tracks before).same ∙ (λ i. record x { calls = calls_after i; turns = sym (turns_still turns) i }))
  shows_all false turn =
      let x : Shown = before in
      sym (ap (λ (y : Shown). with_turn y turn) (noted_to made tracks before).same ∙ (λ i. record x { calls = calls_after i; turns = sym (turns_more turns (Some turn)) i }))

-- a tally that notes the calls and the turn of a round of all follows the round
pub follows_all : (s t : SessionState) (turn : Turn) (a b c : Tallied) → length s.clients ≡ length t.clients → turn ≡ turn_of t.normal.entry → length a.tracks ≡ length t.clients → Follows s.fast t.fast a b
    → ((run : Shown) → IsTally run b → IsTally (with_turn_if s.normal.ended turn (with_all_calls (map (λ (p : PartyState). p.calls.items) t.clients) (length t.clients) run)) c)
    → FollowsRound (all_noted s t) s.fast t.fast a c
follows_all s t turn a b c long is tracks_are follows noted = λ first tracks rounds tally.
    let r : RoundNoted = all_noted s t in
    let m : MixerState = t.fast in
    let made : List (List ClientCall) = map (λ (p : PartyState). p.calls.items) t.clients in
    let old = shows_tracks (states first tracks rounds s.fast) s.fast.frames tracks (calls first tracks rounds s.fast) (turns first tracks rounds s.fast) s.fast.log.frames s.fast.log.entries in
    let all : tracks ≡ length t.clients = omega (arith, tally.count, old, tracks_are) in
    let x = noted (shown_at first tracks rounds m) (follows first tracks rounds tally) in
    let y : IsTally (with_turn_if s.normal.ended turn (with_all_calls made tracks (shown_at first tracks rounds m))) c =
    subst (λ (n : ℕ). IsTally (with_turn_if s.normal.ended turn (with_all_calls made n (shown_at first tracks rounds m))) c) (sym all) x in
    let z = subst (λ (run : Shown). IsTally run c)
    (sym (shows_all (states first tracks rounds m) m.frames tracks (calls first tracks rounds m) (turns first tracks rounds m) m.log.frames m.log.entries made s.normal.ended turn)) y in
    subst (λ (run : Shown). IsTally run c) (sym (shown_round first tracks rounds m r))
    (subst (λ (e : Turn). IsTally (shows (states first tracks rounds m) m.frames tracks (calls first tracks rounds m ++ made ∷ []) (turns first tracks rounds m ++ (if s.normal.ended then None else Some e) ∷ []) m.log.frames m.log.entries) c) is z)

-- ## The calls of one client more

-- the calls that stand at a client's place are those that it made
pub calls_at : (clients : List PartyState) (i : ℕ) (p : PartyState) → i < length clients → p ≡ get_or clients i p → slice_index_or (map (λ (q : PartyState). q.calls.items) clients) i [] ≡ p.calls.items
calls_at clients i p lt is =
    let f : PartyState → List ClientCall = λ (q : PartyState). q.calls.items in
    get_or_from_slice_get (map f clients) i (f p) [] (slice_get-map f clients i ∙ ap (option_map f) (slice_get-get_or clients i p lt ∙ ap Some (sym is)))

-- going on with one client more adds that client's calls
pub calls_next : (clients : List PartyState) (i : ℕ) (run : Shown) (calls : List ClientCall) → slice_index_or (map (λ (q : PartyState). q.calls.items) clients) i [] ≡ calls
    → with_all_calls (map (λ (q : PartyState). q.calls.items) clients) (i + 1) run ≡ with_calls (with_all_calls (map (λ (q : PartyState). q.calls.items) clients) i run) i calls
calls_next clients i run calls is =
    let made : List (List ClientCall) = map (λ (q : PartyState). q.calls.items) clients in
    let next : i + 1 ≡ suc i = omega arith in
    ap (λ (n : ℕ). with_all_calls made n run) next ∙ ap (with_calls (with_all_calls made i run) i) is
