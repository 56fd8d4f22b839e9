-- What the list of a track's server shows by the end of a round, if its entries follow without the turn.
use Rattle.std.proofs.Common.{◌≡◌, inl, ℕ, suc, ◌+◌, ◌<◌, ◌≤◌, if◌then◌else◌, Bool, true, false, List, [], ◌∷◌, ◌++◌, length, drop, Some, refl, sym, ap, ◌∙◌, subst, append-nil, arith}
use Rattle.af_audit.proofs.Common.{CarriesApart, EntrySeen, FastState, LegalEntries, Marks, Outside, RoundSeen, Run, SameSlots, ServerEvent, Session, Setup, TrackTold, Turn, TurnFound, after_edits, at_last, before_turn, beyond_is, carries, cycle_frames, each_at, early_count, early_of, fold-append, hand_does, hand_events_of, is_early, is_pushed, late_of, learnt, listed, no_track, outside_of, prefix_len, server_list, setup_of, slot_of, slots, state_at, stream_list, take-append-drop, told_at, tracks_at, turned_track, with_calls, with_cycles, with_poll, with_turn}
use Rattle.af_audit.proofs.Growing.{run_told, grows_turned}
use Rattle.af_audit.proofs.TrackStands.{hand-server, server-server}
use Rattle.af_audit.proofs.Late.{Behind, behind_told}
use Rattle.af_audit.proofs.LateRuns.{FirstLate, behind_cycles}
use Rattle.af_audit.proofs.Measure.{Measure, of_run}

-- the run with all entries of a round, but without its turn
abbrev pub untold : Session → Run → RoundSeen → Run
untold s run round = with_cycles s round.entries (with_calls round run)

pub untold_is : (s : Session) (run : Run) (round : RoundSeen) → untold s run round ≡ with_cycles s (late_of run round) (before_turn s run round)
untold_is s run round = ap (λ (es : List EntrySeen). with_cycles s es (with_calls round run)) (sym (take-append-drop (early_count run round) round.entries))
    ∙ fold-append _ (with_calls round run) (early_of run round) (late_of run round)

pub first_late : (run : Run) (es : List EntrySeen) → FirstLate (length run.states) (drop (prefix_len (is_early run) es) es)
first_late run [] = tt
first_late run (e ∷ es) = by (is_early run e) refl (first_late run es)
  where
    by : (b : Bool) → is_early run e ≡ b → FirstLate (length run.states) (drop (prefix_len (is_early run) es) es) → FirstLate (length run.states) (drop (if b then 1 + prefix_len (is_early run) es else 0) (e ∷ es))
    by true is rest = subst (λ (n : ℕ). FirstLate (length run.states) (drop n (e ∷ es))) (let q : suc (prefix_len (is_early run) es) ≡ 1 + prefix_len (is_early run) es = omega arith in q) rest
    by false is rest = beyond_is e.entry.state (length run.states) is

module _ (measure : Measure) where
  -- ## From before a turn to after it

  module _ (s : Session) (marks : Marks) (a : Run) (f : TurnFound) (e : Turn) (n : ℕ) where
    abbrev c : Setup
    c = setup_of s

    abbrev o : Outside
    o = outside_of c f e

    abbrev b : Run
    b = with_turn s f e a

    abbrev y : FastState
    y = (after_edits c (learnt o) e a.normal).draft

    turned_states : is_pushed e.push ≡ true → b.states ≡ a.states ++ y ∷ []
    unfolding with_turn
    turned_states is = ap (λ (p : Bool). a.states ++ (if p then y ∷ [] else [])) is

    turned_none : is_pushed e.push ≡ false → b.states ≡ a.states
    unfolding with_turn
    turned_none is = ap (λ (p : Bool). a.states ++ (if p then y ∷ [] else [])) is ∙ append-nil a.states

    -- a track whose server does nothing in the turn
    same_listed : n < length a.tracks → stream_list c o e (tracks_at c (learnt o) a.normal e n) n ≡ [] → listed (told_at a n).stream ≡ listed (told_at b n).stream
    unfolding with_turn
    same_listed low none =
        let t : TrackTold = told_at a n in
        let es : List ServerEvent = stream_list c o e (tracks_at c (learnt o) a.normal e n) n in
        let at : told_at b n ≡ turned_track c o a.normal e n t = each_at (turned_track c o a.normal e) 0 a.tracks n n no_track low (omega arith) in
        sym (ap (λ (u : TrackTold). listed u.stream) at
        ∙ ap (λ (l : List ServerEvent). record { shape = t.stream.shape; events = l }) (server-server (hand_does (hand_events_of e n) t.stream).told es ∙ ap (λ (l : List ServerEvent). l ++ es) (hand-server t.stream.told (hand_events_of e n)) ∙ ap (λ (l : List ServerEvent). server_list t.stream ++ l) none ∙ append-nil (server_list t.stream)))

    -- the entries after the turn are of the state that it pushed, and a slot that the draft carries before it and that state too is the same in both
    module _ (low : n < length a.tracks) (quiet : stream_list c o e (tracks_at c (learnt o) a.normal e n) n ≡ []) (stays : SameSlots (after_edits (setup_of s) (learnt (outside_of (setup_of s) f e)) e a.normal).draft a.normal.draft)
        (apart : (k : ℕ) → CarriesApart (state_at (cycle_frames s) b.states k)) where
      poll_states : (k : ℕ) → (with_poll s k b).states ≡ b.states
      unfolding with_poll
      poll_states k = refl

      one_more : (es : List EntrySeen) (first : EntrySeen) → length a.states < first.entry.state → LegalEntries s marks b (first ∷ es) → is_pushed e.push ≡ true → of_run measure (with_cycles s (first ∷ es) a) n ≤ of_run measure (with_cycles s (first ∷ es) b) n
      one_more es first far legal pushed =
          let x : FastState = a.normal.draft in
          let states = turned_states pushed in
          let newest : state_at (cycle_frames s) b.states (length a.states + 1) ≡ y = ap (λ (xs : List FastState). state_at (cycle_frames s) xs (length a.states + 1)) states ∙ at_last (cycle_frames s) a.states y (length a.states + 1) (omega arith) in
          let same : (j : ℕ) → j < slots → carries x j ≡ true → carries y j ≡ true → slot_of y j ≡ slot_of x j = (λ j lt one two. stays j lt two one) in
          let lonely : CarriesApart y = subst CarriesApart newest (apart (length a.states + 1)) in
          let start : Behind measure s n x y same lonely a b = record {
            there = low;
            also = (let m = (grows_turned s (λ e. f) (Some e) a).many in omega (arith, m, low));
            behind = inl (same_listed low quiet);
          } in
          behind_told measure s n x y same lonely (with_cycles s (first ∷ es) a) (with_cycles s (first ∷ es) b) (behind_cycles measure s marks n a.states x y same lonely (first ∷ es) a b refl states refl far legal start)

      pub all_late : (es : List EntrySeen) → FirstLate (length a.states) es → LegalEntries s marks b es → of_run measure (with_cycles s es a) n ≤ of_run measure (with_cycles s es b) n
      all_late [] far legal = run_told measure a b (grows_turned s (λ e. f) (Some e) a) n
      all_late (first ∷ es) far legal = by_push (is_pushed e.push) refl
        where
          by_push : (p : Bool) → is_pushed e.push ≡ p → of_run measure (with_cycles s (first ∷ es) a) n ≤ of_run measure (with_cycles s (first ∷ es) b) n
          by_push true is = one_more es first far legal is
          by_push false is = (let low_state = legal.0.cycle.pushed in let many = ap (λ (xs : List FastState). length xs) (poll_states first.entry.state ∙ turned_none is) in
              absurd (omega (arith, low_state, many, far)))
