-- In a run of all parties the journal records each push once, in order.
use Rattle.std.proofs.Common.{◌≡◌, ℕ, zero, suc, ◌+◌, Bool, true, false, if◌then◌else◌, List, [], ◌∷◌, ◌++◌, length, length-append, drop, take, Some, None, refl, sym, ap, subst, ◌∙◌, append_assoc, append-nil, arith}
use Rattle.af_parties_law.proofs.Common.{Busy, Clean, EndsState, EntrySeen, FastState, Frame, Given, IsRoundOfAll, JournalData, LegalPush, LegalTurn, MatchBool, NormalKept, NormalPlayed, NormalState, Outside, Push, Pushed, RoundNoted, RoundSeen, ScriptData, SessionState, Setup, Turn, TurnPlayed, after_edits, after_push, after_takes, ends_keep, flat_map, flat_map-cons, kept_of, learnt, map-range_with_len_more, all_push, pushed_states, rounds_seen, setup_of, turn_after, turn_noted, turn_of}
use Rattle.af_playing.specs.PlayedRuns.{HandsBackRun, IsRunOfAll}
use Rattle.af_parties_law.specs.Spelled.{PushesStandOnce, first_numbers, number_pushed, pushed_by, pushes_told}
use Rattle.af_playing.proofs.ExitSeen.{Knowing, round_knows}
use Rattle.af_playing.proofs.PushedRuns.{PushedRuns}
use Rattle.af_playing.proofs.RunOfAll.{knowing_first}

-- ## A turn

one_more : (n : ℕ) → first_numbers n ++ (n + 1) ∷ [] ≡ first_numbers (n + 1)
one_more n = sym (map-range_with_len_more (λ (k : ℕ). k + 1) 0 n n (omega arith))

-- if the first numbers were recorded of a mixer that has pushed so many states, they are so with its next push
by_push : (told : List ℕ) (m : NormalKept) (push : Push) → LegalPush m push → told ≡ first_numbers m.pushed → told ++ number_pushed push ≡ first_numbers (after_push push m).pushed
by_push told m (Pushed number) legal is = ap (λ (n : ℕ). told ++ n ∷ []) legal.1 ∙ ap (λ (l : List ℕ). l ++ (m.pushed + 1) ∷ []) is ∙ one_more m.pushed
by_push told m Clean legal is = append-nil told ∙ is
by_push told m (Busy seen expected) legal is = append-nil told ∙ is

module _ (told : List ℕ) (c : Setup) (o : Outside) (m : NormalKept) (e : Turn) (legal : LegalTurn c o m e) (is : told ≡ first_numbers m.pushed) where
  turn_tells : told ++ number_pushed e.push ≡ first_numbers (turn_after c (learnt o) m e).pushed
  unfolding turn_after
  turn_tells = by_end e.ended refl
    where
      by_end : (b : Bool) → e.ended ≡ b → told ++ number_pushed e.push ≡ first_numbers (if b then record m { ended = true } else after_takes c e.mixes (after_push e.push (after_edits c (learnt o) e m))).pushed
      by_end true ends = ap (λ (x : Turn). told ++ number_pushed x.push) (legal.still ends) ∙ append-nil told ∙ is
      by_end false goes = by_push told (after_edits c (learnt o) e m) e.push (legal.goes_on goes).push (is ∙ ap first_numbers (sym (all_push c (learnt o) m e).pushed))

normal_tells : (told : List ℕ) (m m' : NormalState) → NormalPlayed m m' → told ≡ first_numbers (kept_of m).pushed → told ++ pushed_by (turn_noted m m') ≡ first_numbers (kept_of m').pushed
normal_tells told m m' played is = by_end m.ended played
  where
    by_end : (b : Bool) → MatchBool b (m' ≡ m) (TurnPlayed m m') → told ++ pushed_by (if b then None else Some (turn_of m'.entry)) ≡ first_numbers (kept_of m').pushed
    by_end true still = append-nil told ∙ is ∙ ap (λ (y : NormalState). first_numbers (kept_of y).pushed) (sym still)
    by_end false (o, legal, made) = turn_tells told (setup_of m) o (kept_of m) (turn_of m'.entry) legal.legal is ∙ ap (λ (k : NormalKept). first_numbers k.pushed) (sym legal.leaves)

-- ## A run

round_tells : (g : Given) (s : SessionState) (r : RoundNoted) (bytes : List ℕ) (t : SessionState) → IsRoundOfAll g s r bytes t → (told : List ℕ) → told ≡ first_numbers (kept_of s.normal).pushed → told ++ pushed_by r.turn ≡ first_numbers (kept_of t.normal).pushed
round_tells g s r bytes t round told is =
    let same : t.normal ≡ round.met.normal = ap (λ (x : SessionState). x.normal) round.ends ∙ (ends_keep round.met).normal in
    ap (λ (y : RoundNoted). told ++ pushed_by y.turn) round.told
    ∙ normal_tells told s.normal round.turned.normal round.plays.normal is
    ∙ ap (λ (m : NormalState). first_numbers m.mutator.past.number) (sym round.meets.ends.normal)
    ∙ ap (λ (m : NormalState). first_numbers m.mutator.past.number) (sym same)

abbrev pushes_over : List RoundNoted → List ℕ
pushes_over rounds = flat_map (λ (r : RoundNoted). pushed_by r.turn) rounds

run_tells : (g : Given) (s : SessionState) (rounds : List RoundNoted) (bytes : List ℕ) (t : SessionState) → IsRunOfAll g s rounds bytes t → (told : List ℕ) → told ≡ first_numbers (kept_of s.normal).pushed → told ++ pushes_over rounds ≡ first_numbers (kept_of t.normal).pushed
run_tells g s [] bytes t run told is = append-nil told ∙ is ∙ ap (λ (x : SessionState). first_numbers (kept_of x.normal).pushed) (sym run.1)
run_tells g s (r ∷ rs) bytes t run told is =
    ap (λ (l : List ℕ). told ++ l) (flat_map-cons (λ (y : RoundNoted). pushed_by y.turn) r rs)
    ∙ sym (append_assoc told (pushed_by r.turn) (pushes_over rs))
    ∙ run_tells g run.2 rs run.1 t run.6 (told ++ pushed_by r.turn) (round_tells g s r run.0 run.2 run.5 told is)

run_knows : (g : Given) (s : SessionState) (rounds : List RoundNoted) (bytes : List ℕ) (t : SessionState) → IsRunOfAll g s rounds bytes t → Knowing s → Knowing t
run_knows g s [] bytes t run knows = subst Knowing (sym run.1) knows
run_knows g s (r ∷ rs) bytes t run knows = run_knows g run.2 rs run.1 t run.6 (round_knows g s run.2 r run.0 knows run.5)

-- ## The journal

pushes_dealt : (entries : List EntrySeen) (rounds : List RoundNoted) → flat_map (λ (r : RoundSeen). pushed_by r.turn) (rounds_seen entries rounds) ≡ pushes_over rounds
pushes_dealt entries [] = refl
pushes_dealt entries (r ∷ rs) =
    flat_map-cons (λ (y : RoundSeen). pushed_by y.turn) (record { calls = r.calls; turn = r.turn; entries = take r.cycles entries }) (rounds_seen (drop r.cycles entries) rs)
    ∙ ap (λ (l : List ℕ). pushed_by r.turn ++ l) (pushes_dealt (drop r.cycles entries) rs)
    ∙ sym (flat_map-cons (λ (y : RoundNoted). pushed_by y.turn) r rs)

-- as many states stand in the list as were pushed
states_counted : (count : ℕ) (last : FastState) (states : List FastState) → PushedRuns count last states → count ≡ length states
states_counted zero last states runs = sym (ap length (runs.none refl))
states_counted (suc count) last states runs = let end = runs.some (omega arith) in end.counted ∙ sym (ap length end.whole ∙ length-append end.earlier (last ∷ []))

pub pushes_stand_once : (ended : Bool) (script : ScriptData) (files : List (List Frame)) (j : JournalData) (e : EndsState) → HandsBackRun ended script files j e → PushesStandOnce j e
pushes_stand_once ended script files j e h =
    let played = h.played in
    let g : Given = record { tracks = script.tracks; files = files } in
    let none : [] ≡ first_numbers (kept_of played.start.normal).pushed = ap first_numbers (sym played.new.ends.mutator.silent.0) in
    let told = run_tells g played.start h.rounds played.bytes h.parties played.run [] none in
    let knows = run_knows g played.start h.rounds played.bytes h.parties played.run (knowing_first script played.shared played.start played.new) in
    let m : NormalState = h.parties.normal in
    ap pushes_told h.journal_is
    ∙ pushes_dealt _ h.rounds
    ∙ told
    ∙ ap first_numbers (states_counted m.mutator.past.number m.mutator.past.last (pushed_states m.mutator.past.events) knows.normal.runs)
    ∙ ap (λ (x : EndsState). first_numbers (length (pushed_states x.normal.mutator.past.events))) (sym h.ends_are)
