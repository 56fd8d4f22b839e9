-- What holds of a track through legal rounds, by their steps.
use Rattle.std.proofs.Common.{◌≡◌, inl, inr, ℕ, ◌<◌, ◌&&◌, Bool, true, false, is_some, List, ◌∷◌, ◌++◌, length, All, Option, Some, None, refl, sym, ap, ◌∙◌, subst}
use Rattle.af_journal_laws.proofs.Common.{All-head, All-tail, EntrySeen, IsRound, IsSpared, IsSparedIn, IsTurn, LegalEntries, LegalRound, LegalRounds, LegalTurnBy, Marks, MatchBool, MatchOption, RoundSeen, Run, Session, TracksRise, Turn, [], after_round, after_turn, all_played, before_turn, both_true, calls_in, cycles_beside, early_of, fast_ended, fills, found_in, is_poke_on, is_spared_by, is_spared_by_all, is_spared_by_turn, late_of, legal_parts, list_any, met_after, neither, no, recorded, recorded_by, recorded_by_all, recorded_by_turn, recorded_in, run_from, setup_of, track_count, turned, with_calls, with_cycle, with_cycles, with_poll}
use Rattle.af_journal_laws.proofs.Steps.{Goes, goes_as, goes_both, goes_called, goes_ended, goes_loaded, goes_met, goes_mixed, goes_polled, goes_same, goes_then, goes_turned}

-- ## What a legal round has

-- the takes of its turn rise
pub turn_rises : (tracks : ℕ) (round : RoundSeen) (e : Turn) → IsRound tracks round → round.turn ≡ Some e → TracksRise 0 e.mixes
turn_rises tracks round e form is = by_form (subst (λ (o : Option Turn). MatchOption o (Unit {0}) (IsTurn tracks)) is form.turn)
  where
    by_form : IsTurn tracks e → TracksRise 0 e.mixes
    by_form (inl ended) = subst (λ (t : Turn). TracksRise 0 t.mixes) (sym ended) tt
    by_form (inr open_turn) = open_turn.rise

-- a turn that a mixer made is legal, if the mixer may make one
pub turn_legal : (ended : Bool) (May : Turn → Type 0) (o : Option Turn) (e : Turn) → MatchBool ended (o ≡ None) (MatchOption o ⊥ May) → o ≡ Some e → May e
turn_legal true May o e none is = no (sym (ap is_some none) ∙ ap is_some is)
turn_legal false May o e turn is = subst (λ (o : Option Turn). MatchOption o ⊥ May) is turn

-- ## Entries

module _ (commands : Bool) (s : Session) (marks : Marks) (n : ℕ) where
  pub goes_entries : (es : List EntrySeen) (run : Run) → n < length run.tracks → LegalEntries s marks run es → Goes commands s n run (with_cycles s es run) (recorded_by_all s run es n) (commands ≡ false → is_spared_by_all s run es n ≡ true)
  goes_entries [] run low legal = goes_as commands s n run run [] [] (Unit {0}) _ refl (λ u on. refl) (goes_same commands s n run run low refl)
  goes_entries (e ∷ es) run low legal =
      let polled = with_poll s e.entry.state run in
      let after = with_cycle s run e in
      let one = goes_polled commands s n e.entry.state run low in
      let two = goes_mixed commands s n marks polled e one.there legal.0 in
      let rest = goes_entries es after two.there legal.1 in
      let here = recorded_by s polled e n in
      let later = recorded_by_all s after es n in
      goes_as commands s n run (with_cycles s es after) (([] ++ here) ++ later) (here ++ later) _ _ refl
      (λ all on. both_true (is_spared_by s polled e n) (is_spared_by_all s after es n) (all.0.1 on) (all.1 on))
      (goes_both commands s n run after (with_cycles s es after) ([] ++ here) later _ _ (goes_both commands s n run polled after [] here _ _ one two) rest)

-- ## A round

module _ (commands cut : Bool) (s : Session) (marks : Marks) (run : Run) (round : RoundSeen) (tracks n : ℕ) (form : IsRound tracks round) (legal : LegalRound cut s marks run round) where
  -- the turn finds the normal mixer and the blocks as the entries before it left them
  turned_so : (o : Option Turn) → round.turn ≡ o → n < length (before_turn s run round).tracks → Goes commands s n (before_turn s run round) (turned s (found_in s run round) o (before_turn s run round)) (recorded_by_turn o n) (is_spared_by_turn commands o n ≡ true)
  unfolding with_calls
  turned_so None is low = goes_as commands s n _ _ [] [] (Unit {0}) _ refl (λ u. refl) (goes_same commands s n (before_turn s run round) (before_turn s run round) low refl)
  turned_so (Some e) is low =
      let beside = cycles_beside s (early_of run round) (with_calls round run) in
      goes_turned commands s n marks (found_in s run round e) e run.normal (before_turn s run round) low refl (sym (beside.commands n)) beside.normal (turn_rises tracks round e form is)
      (turn_legal run.normal.ended (λ e. LegalTurnBy (setup_of s) marks (found_in s run round e) run.normal e) round.turn e legal.turns.normal is)

  pub goes_round : n < track_count s → n < length run.tracks → list_any (is_poke_on commands) (calls_in round n) ≡ false → Goes commands s n run (after_round s run round) (recorded_in s run round n) (IsSparedIn commands s run round n)
  goes_round track low calm =
      let start = with_calls round run in
      let before = before_turn s run round in
      let after = after_turn s run round in
      let late = with_cycles s (late_of run round) after in
      let played_all = all_played s run round in
      let last = met_after s run round in
      let entries = legal_parts (fast_ended run) (cut && fills s run round) s marks run round legal.turns.fast in
      let early_words = recorded_by_all s start (early_of run round) n in
      let turn_words = recorded_by_turn round.turn n in
      let late_words = recorded_by_all s after (late_of run round) n in
      let a = goes_called commands s n round run low calm (legal.turns.clients n track) in
      let b = goes_entries commands s marks n (early_of run round) start a.there entries.0 in
      let c = turned_so round.turn refl b.there in
      let d = goes_entries commands s marks n (late_of run round) after c.there entries.1 in
      let e = goes_loaded commands s n round.turn late d.there in
      let f = goes_met commands s n played_all e.there in
      let g = goes_ended commands s n last f.there in
      let to_before = goes_both commands s n run start before [] early_words _ _ a b in
      let to_after = goes_both commands s n run before after early_words turn_words _ _ to_before c in
      let to_late = goes_both commands s n run after late (early_words ++ turn_words) late_words _ _ to_after d in
      let to_played = goes_then commands s n run late played_all (recorded_in s run round n) _ to_late e in
      let to_met = goes_then commands s n run played_all last (recorded_in s run round n) _ to_played f in
      goes_as commands s n run (after_round s run round) (recorded_in s run round n) (recorded_in s run round n) _ _ refl (λ all. record { calls = all.0.0.0; early = all.0.0.1; turn = all.0.1; late = all.1 })
      (goes_then commands s n run last (after_round s run round) (recorded_in s run round n) _ to_met g)

-- ## All rounds

pub goes_rounds : (commands cut : Bool) (s : Session) (marks : Marks) (tracks n : ℕ) (rounds : List RoundSeen) (run : Run) → n < track_count s → n < length run.tracks → All (IsRound tracks) rounds → LegalRounds cut s marks run rounds
    → list_any (λ round. list_any (is_poke_on commands) (calls_in round n)) rounds ≡ false → Goes commands s n run (run_from s run rounds) (recorded s run rounds n) (IsSpared commands s run rounds n)
goes_rounds commands cut s marks tracks n [] run track low forms legal calm = goes_same commands s n run run low refl
goes_rounds commands cut s marks tracks n (round ∷ rounds) run track low forms legal calm =
    let two = neither (list_any (is_poke_on commands) (calls_in round n)) (list_any (λ round. list_any (is_poke_on commands) (calls_in round n)) rounds) calm in
    let next = after_round s run round in
    let one = goes_round commands cut s marks run round tracks n (All-head (IsRound tracks) round rounds forms) legal.0 track low two.0 in
    goes_both commands s n run next (run_from s next rounds) (recorded_in s run round n) (recorded s next rounds n) _ _ one
    (goes_rounds commands cut s marks tracks n rounds next track one.there (All-tail (IsRound tracks) round rounds forms) legal.1 two.1)
