-- Each legal round spares a block whose proxies aren't shut after it.
use Rattle.std.proofs.Common.{◌≡◌, ℕ, ◌<◌, Bool, true, false, if◌then◌else◌, List, [], ◌∷◌, length, All, Option, Some, None, refl, sym, ◌∙◌, subst, arith}
use Rattle.af_audit.proofs.Common.{All-head, All-tail, EntrySeen, FastState, IsRound, LegalClientTurn, LegalEntries, LegalEntry, LegalRound, LegalRounds, LegalTurnBy, Marks, NormalKept, RoundSeen, Run, Session, TrackTold, TracksRise, Turn, TurnFound, after_round, after_turn, all_played, before_turn, both_true, calls_in, cycle_beside, cycles_beside, each_at, each_long, each_track, early_of, ends, found_in, is_poke_on, late_of, list_any, loaded, met, met_after, met_at, met_many, mixed_track, neither, no_track, outside_of, run_from, setup_of, sides_of, state_for, takes_part, told_at, told_each, track_count, turned, turned_track, with_calls, with_cycle, with_cycles, with_ends, with_load, with_mix, with_poll, with_turn}
use Rattle.af_audit.specs.Spared.{IsSpared, IsSparedIn, is_spared_by, is_spared_by_all, is_spared_by_turn, is_spared_in_turn, none_corrupt_on}
use Rattle.af_audit.proofs.CallsFollow.{calls_long, told_called}
use Rattle.af_audit.proofs.RunStands.{entry_looks, fast_parts, rises}
use Rattle.af_audit.proofs.MixerTurns.{before_normal, turn_legal}
use Rattle.af_audit.proofs.TrackUnshut.{IsTrim, IsUnshut, trim_called, trim_ended, trim_met, trim_mixed, trim_turned, unshut_called, unshut_ended, unshut_met, unshut_mixed, unshut_turned}

-- From one run to another the track is kept trim; and if the proxies of its block aren't shut in the second, they aren't in the first, and the block is spared
pub record Spares (commands : Bool) (n : ℕ) (a b : Run) (Spared : Type 0) : Type 0 where
  pub there : n < length b.tracks
  pub trim : IsTrim commands (told_at a n) → IsTrim commands (told_at b n)
  pub unshut : IsTrim commands (told_at a n) → IsUnshut commands (told_at b n) → IsUnshut commands (told_at a n) × Spared

module _ (commands : Bool) where
  -- one step after another
  spares_both : (n : ℕ) (a b c : Run) (S R : Type 0) → Spares commands n a b S → Spares commands n b c R → Spares commands n a c (S × R)
  spares_both n a b c S R f g = record {
    there = g.there;
    trim = λ h. g.trim (f.trim h);
    unshut = λ h fine. (let two = g.unshut (f.trim h) fine in let one = f.unshut h two.0 in (one.0, (one.1, two.1)));
  }

  -- if what is spared means something else, that is spared too
  spares_as : (n : ℕ) (a b : Run) (S R : Type 0) → (S → R) → Spares commands n a b S → Spares commands n a b R
  spares_as n a b S R f h = record { there = h.there; trim = h.trim; unshut = λ t fine. (let one = h.unshut t fine in (one.0, f one.1)) }

  -- a step that leaves the track as it was spares its block
  spares_same : (n : ℕ) (a b : Run) → n < length b.tracks → told_at b n ≡ told_at a n → Spares commands n a b (Unit {0})
  spares_same n a b low same = record { there = low; trim = subst (IsTrim commands) (sym same); unshut = λ t fine. (subst (IsUnshut commands) same fine, tt) }

  -- a step that changes the track to another one spares its block, if the change does
  spares_by : (n : ℕ) (a b : Run) (t : TrackTold) (S : Type 0) → n < length b.tracks → told_at b n ≡ t → (IsTrim commands (told_at a n) → IsTrim commands t)
      → (IsTrim commands (told_at a n) → IsUnshut commands t → IsUnshut commands (told_at a n) × S) → Spares commands n a b S
  spares_by n a b t S low is trim unshut = record { there = low; trim = λ h. subst (IsTrim commands) (sym is) (trim h); unshut = λ h fine. unshut h (subst (IsUnshut commands) is fine) }

-- ## The steps of a round

module _ (commands : Bool) (s : Session) (marks : Marks) (n : ℕ) where
  spares_calls : (round : RoundSeen) (run : Run) → n < length run.tracks → (commands ≡ true → list_any (is_poke_on true) (calls_in round n) ≡ false) → LegalClientTurn (sides_of (told_at run n)) (calls_in round n)
      → Spares commands n run (with_calls round run) (none_corrupt_on commands (calls_in round n) ≡ true)
  spares_calls round run low calm legal = spares_by commands n run (with_calls round run) _ _ (let m = calls_long round run in omega (arith, m, low)) (told_called round run n low)
      (trim_called commands (calls_in round n) (told_at run n) calm) (λ h fine. unshut_called commands (calls_in round n) (told_at run n) legal fine)

  spares_cycle : (run : Run) (e : EntrySeen) → n < length run.tracks → LegalEntry s marks (with_poll s e.entry.state run) e → Spares commands n run (with_cycle s run e) (commands ≡ false → is_spared_by s (with_poll s e.entry.state run) e n ≡ true)
  unfolding with_mix with_poll
  spares_cycle run e low legal =
      let r : Run = with_poll s e.entry.state run in
      let x : FastState = state_for s r e.entry.state in
      spares_by commands n run (with_cycle s run e) (mixed_track s x e n (told_at r n)) (commands ≡ false → is_spared_by s r e n ≡ true) (let b = cycle_beside s run e in let m = b.many in omega (arith, m, low)) (told_each (mixed_track s x e) r n low)
      (trim_mixed commands s x e n (told_at r n)) (λ h fine. unshut_mixed commands s x e n (told_at r n) (entry_looks s marks r e legal n) fine)

  spares_cycles : (es : List EntrySeen) (run : Run) → n < length run.tracks → LegalEntries s marks run es → Spares commands n run (with_cycles s es run) (commands ≡ false → is_spared_by_all s run es n ≡ true)
  spares_cycles [] run low legal = spares_as commands n run run (Unit {0}) _ (λ u on. refl) (spares_same commands n run run low refl)
  spares_cycles (e ∷ es) run low legal =
      let one = spares_cycle run e low legal.0 in
      spares_as commands n run (with_cycles s es (with_cycle s run e)) _ _ (λ both on. both_true (is_spared_by s (with_poll s e.entry.state run) e n) (is_spared_by_all s (with_cycle s run e) es n) (both.0 on) (both.1 on))
      (spares_both commands n run (with_cycle s run e) (with_cycles s es (with_cycle s run e)) _ _ one (spares_cycles es (with_cycle s run e) one.there legal.1))

  spares_turn : (f : TurnFound) (e : Turn) (m : NormalKept) (run : Run) → n < length run.tracks → f.streams n ≡ (told_at run n).stream → f.commands n ≡ (told_at run n).commands → run.normal ≡ m → TracksRise 0 e.mixes
      → LegalTurnBy (setup_of s) marks f m e → Spares commands n run (with_turn s f e run) (is_spared_in_turn commands e n ≡ true)
  unfolding with_turn
  spares_turn f e m run low streams sent same rise legal =
      let c = setup_of s in
      let t : TrackTold = told_at run n in
      let before : TrackTold = record t { stream = f.streams n; commands = f.commands n } in
      let is : before ≡ t = λ i. record t { stream = streams i; commands = sent i } in
      let told : told_at (with_turn s f e run) n ≡ turned_track c (outside_of c f e) m e n before =
      each_at (turned_track c (outside_of c f e) run.normal e) 0 run.tracks n n no_track low (omega arith)
      ∙ (λ i. turned_track c (outside_of c f e) (same i) e n (sym is i)) in
      spares_by commands n run (with_turn s f e run) _ _ (let m = each_long (turned_track c (outside_of c f e) run.normal e) 0 run.tracks in omega (arith, m, low)) told
      (λ h. trim_turned c f m e legal.outside n legal.found rise legal.legal t commands (subst (IsTrim commands) (sym is) h))
      (λ h fine. (let one = unshut_turned c f m e legal.outside n legal.found rise legal.legal t commands (subst (IsTrim commands) (sym is) h) fine in (subst (IsUnshut commands) is one.0, one.1)))

  spares_loaded : (o : Option Turn) (run : Run) → n < length run.tracks → Spares commands n run (loaded o run) (Unit {0})
  unfolding with_load
  spares_loaded None run low = spares_same commands n run run low refl
  spares_loaded (Some e) run low = spares_same commands n run (with_load e run) low refl

  spares_met : (run : Run) → n < length run.tracks → Spares commands n run (met s run) (Unit {0})
  spares_met run low = spares_by commands n run (met s run) _ _ (let m = met_many s run in omega (arith, m, low)) (met_at s run n low)
      (trim_met commands (takes_part s run n) run.handed (told_at run n)) (λ h fine. (unshut_met commands (takes_part s run n) run.handed (told_at run n) fine, tt))

  spares_ends : (run : Run) → n < length run.tracks → Spares commands n run (with_ends run) (Unit {0})
  unfolding with_ends
  spares_ends run low = by_end run.normal.ended
    where
      by_end : (b : Bool) → Spares commands n run (if b then each_track (λ track t. record t { client = ends t.client }) run else run) (Unit {0})
      by_end true = spares_by commands n run (each_track (λ track t. record t { client = ends t.client }) run) _ _ (let m = each_long (λ track t. record t { client = ends t.client }) 0 run.tracks in omega (arith, m, low))
          (told_each (λ track t. record t { client = ends t.client }) run n low) (trim_ended commands (told_at run n)) (λ h fine. (unshut_ended commands (told_at run n) fine, tt))
      by_end false = spares_same commands n run run low refl

-- ## A round

module _ (commands cut : Bool) (s : Session) (marks : Marks) (run : Run) (round : RoundSeen) (tracks n : ℕ) (form : IsRound tracks round) (legal : LegalRound cut s marks run round) where
  -- the turn finds the blocks as the entries before it left them
  spares_turned : (o : Option Turn) → round.turn ≡ o → n < length (before_turn s run round).tracks → Spares commands n (before_turn s run round) (turned s (found_in s run round) o (before_turn s run round)) (is_spared_by_turn commands o n ≡ true)
  spares_turned None is low = spares_as commands n _ _ (Unit {0}) _ (λ u. refl) (spares_same commands n (before_turn s run round) (before_turn s run round) low refl)
  spares_turned (Some e) is low = spares_turn commands s marks n (found_in s run round e) e run.normal (before_turn s run round) low refl
      (let b = cycles_beside s (early_of run round) (with_calls round run) in sym (b.commands n))
      (before_normal s run round) (rises cut s marks run round tracks n form legal e is) (turn_legal cut s marks run round legal e is)

  pub spares_round : n < track_count s → n < length run.tracks → (commands ≡ true → list_any (is_poke_on true) (calls_in round n) ≡ false) → Spares commands n run (after_round s run round) (IsSparedIn commands s run round n)
  spares_round track low calm =
      let start = with_calls round run in
      let before = before_turn s run round in
      let after = after_turn s run round in
      let late = with_cycles s (late_of run round) after in
      let played_all = all_played s run round in
      let entries = fast_parts cut s marks run round tracks n form legal in
      let a = spares_calls commands s marks n round run low calm (legal.turns.clients n track) in
      let b = spares_cycles commands s marks n (early_of run round) start a.there entries.0 in
      let c = spares_turned round.turn refl b.there in
      let d = spares_cycles commands s marks n (late_of run round) after c.there entries.1 in
      let e = spares_loaded commands s marks n round.turn late d.there in
      let f = spares_met commands s marks n played_all e.there in
      let g = spares_ends commands s marks n (met_after s run round) f.there in
      spares_as commands n run (after_round s run round) _ _ (λ all. record { calls = all.0; early = all.1.0; turn = all.1.1.0; late = all.1.1.1.0 })
      (spares_both commands n run start (after_round s run round) _ _ a
      (spares_both commands n start before (after_round s run round) _ _ b
      (spares_both commands n before after (after_round s run round) _ _ c
      (spares_both commands n after late (after_round s run round) _ _ d
      (spares_both commands n late played_all (after_round s run round) _ _ e
      (spares_both commands n played_all (met_after s run round) (after_round s run round) _ _ f g))))))

-- ## All rounds

pub spares_rounds : (commands cut : Bool) (s : Session) (marks : Marks) (tracks n : ℕ) (rounds : List RoundSeen) (run : Run) → n < track_count s → n < length run.tracks → All (IsRound tracks) rounds → LegalRounds cut s marks run rounds
    → (commands ≡ true → list_any (λ round. list_any (is_poke_on true) (calls_in round n)) rounds ≡ false) → Spares commands n run (run_from s run rounds) (IsSpared commands s run rounds n)
spares_rounds commands cut s marks tracks n [] run track low forms legal calm = spares_same commands n run run low refl
spares_rounds commands cut s marks tracks n (round ∷ rounds) run track low forms legal calm =
    let two = λ (on : commands ≡ true). neither (list_any (is_poke_on true) (calls_in round n)) (list_any (λ round. list_any (is_poke_on true) (calls_in round n)) rounds) (calm on) in
    let one = spares_round commands cut s marks run round tracks n (All-head (IsRound tracks) round rounds forms) legal.0 track low (λ on. (two on).0) in
    spares_both commands n run (after_round s run round) (run_from s (after_round s run round) rounds) _ _ one
    (spares_rounds commands cut s marks tracks n rounds (after_round s run round) track one.there (All-tail (IsRound tracks) round rounds forms) legal.1 (λ on. (two on).1))
