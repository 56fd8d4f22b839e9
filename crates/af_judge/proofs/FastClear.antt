-- The fast mixer's turn is legal exactly if the judge finds that its entries may come and that each is right.
use Rattle.std.proofs.Common.{◌≡◌, ◌↔◌, ℕ, suc, ◌+◌, ◌<◌, ◌≤◌, ◌==◌, ◌&&◌, Bool, true, false, if◌then◌else◌, refl, sym, ap, ◌∙◌, subst, map, List, [], ◌∷◌, ◌++◌, append_assoc, append-nil, length, take, length-append, Option, Some, None, arith}
use Rattle.af_judge.proofs.Common.{CycleEntry, EntrySeen, FastState, Frame, IsFastTurn, LegalEntries, LegalFastTurn, Marks, MatchBool, Report, RoundSeen, Run, Session, Turn, TurnFound, UseUpTo, UseUpTo-more, UseUpTo-push, after_round, after_turn, all_played, before_turn, calls-entries, early_count, early_of, ends, entry_at, fast_ended, fills, found_in, frames_before, is_early, late_of, length-drop, length-take, loaded-entries, map-append, met, met-entries, nat_le, nat_tests, outside_of, prefix_len, pushed_by, setup_of, slice_get, sum_by, sum_by-append, take-append-drop, taken_by, turned, turned-entries, with_calls, with_cycle, with_cycles, with_ends, with_poll, with_turn}
use Rattle.af_judge.proofs.Basics.{calls_states, ends_states, loaded_states, met_states}
use Rattle.af_judge.specs.Entries.{FastOf}
use Rattle.af_judge.specs.EntriesTold.{AreEntriesRight, MayEnter, Playing}
use Rattle.af_judge.proofs.Words.{AreFormed}
use Rattle.af_judge.specs.FastKept.{EndsAsTurn, FastKept}
use Rattle.af_judge.proofs.EntriesFollow.{KeepsPlaying, cycles_beside, cycles_entries, entries_in, entries_right}
use Rattle.af_judge.proofs.EntryTold.{cycle_beside}
use Rattle.af_judge.proofs.FastBeside.{ends_same}
use Rattle.af_judge.proofs.FastTurns.{turn_exact}
use Rattle.af_judge.proofs.JournalEntries.{formed_front, formed_rest}

-- ## What a round leaves of the log and of the states

-- a turn pushes a state or doesn't
turned-states : (s : Session) (found : Turn → TurnFound) (o : Option Turn) (run : Run) → length run.states ≤ length (turned s found o run).states
unfolding with_turn
turned-states s found None run = omega arith
turned-states s found (Some e) run =
    let c = setup_of s in
    let l = length-append run.states (pushed_by c (outside_of c (found e) e) run.normal e) in
    omega (arith, l)

ends-entries : (run : Run) → (with_ends run).entries ≡ run.entries
ends-entries run = let e = ends_same run in e.entries

module _ (s : Session) (run : Run) (round : RoundSeen) where
  -- before the late entries the log has those of the rounds before and the early ones
  pub turn_entries : (after_turn s run round).entries ≡ run.entries ++ entries_in (early_of run round)
  turn_entries =
      turned-entries s (found_in s run round) round.turn (before_turn s run round)
      ∙ (cycles_entries s (early_of run round) (with_calls round run) ∙ ap (λ (es : List CycleEntry). es ++ entries_in (early_of run round)) (calls-entries round run))

  played-entries : (all_played s run round).entries ≡ run.entries ++ entries_in round.entries
  played-entries =
      loaded-entries round.turn (with_cycles s (late_of run round) (after_turn s run round))
      ∙ (cycles_entries s (late_of run round) (after_turn s run round)
      ∙ (ap (λ (es : List CycleEntry). es ++ entries_in (late_of run round)) turn_entries
      ∙ (append_assoc run.entries (entries_in (early_of run round)) (entries_in (late_of run round))
      ∙ ap (λ (es : List CycleEntry). run.entries ++ es)
      (sym (map-append (λ (e : EntrySeen). e.entry) (early_of run round) (late_of run round)) ∙ ap entries_in (take-append-drop (early_count run round) round.entries)))))

  -- a round adds its entries to the log
  pub round_entries : (after_round s run round).entries ≡ run.entries ++ entries_in round.entries
  round_entries = ends-entries (met s (all_played s run round)) ∙ (met-entries s (all_played s run round) ∙ played-entries)

  pub round_states : (after_round s run round).states ≡ (with_cycles s (late_of run round) (after_turn s run round)).states
  round_states = ends_states (met s (all_played s run round)) ∙ (met_states s (all_played s run round) ∙ loaded_states round.turn (with_cycles s (late_of run round) (after_turn s run round)))

-- ## No entry names a state that isn't pushed yet

-- each of these entries names one up to a number
abbrev pub NameUpTo : ℕ → List EntrySeen → Type 0
NameUpTo n [] = Unit {0}
NameUpTo n (e ∷ es) = (e.entry.state ≤ n) × NameUpTo n es

used-more : (n : ℕ) (entries : List CycleEntry) (es : List EntrySeen) → UseUpTo n entries → NameUpTo n es → UseUpTo n (entries ++ entries_in es)
used-more n entries [] used names = subst (UseUpTo n) (sym (append-nil entries)) used
used-more n entries (e ∷ es) used names = subst (UseUpTo n) (append_assoc entries (e.entry ∷ []) (entries_in es)) (used-more n (entries ++ e.entry ∷ []) es (UseUpTo-push n entries e.entry used names.0) names.1)

early-names : (run : Run) (es : List EntrySeen) → NameUpTo (length run.states) (take (prefix_len (is_early run) es) es)
early-names run [] = tt
early-names run (e ∷ es) = by_early (nat_le e.entry.state (length run.states)) refl (early-names run es)
  where
    by_early : (b : Bool) → nat_le e.entry.state (length run.states) ≡ b → NameUpTo (length run.states) (take (prefix_len (is_early run) es) es) → NameUpTo (length run.states) (take (if b then 1 + prefix_len (is_early run) es else 0) (e ∷ es))
    by_early true is rest =
        let low : e.entry.state ≤ length run.states = grind (arith, nat_tests, is) in
        let next : suc (prefix_len (is_early run) es) ≡ 1 + prefix_len (is_early run) es = omega arith in
        subst (λ (n : ℕ). NameUpTo (length run.states) (take n (e ∷ es))) next (low, rest)
    by_early false is rest = tt

-- before the turn the entries use states that were pushed, as the early entries name states that were pushed before
pub early_used : (s : Session) (run : Run) (round : RoundSeen) → UseUpTo (length run.states) run.entries → UseUpTo (length (before_turn s run round).states) (before_turn s run round).entries
early_used s run round used =
    let b = cycles_beside s (early_of run round) (with_calls round run) in
    let states : (before_turn s run round).states ≡ run.states = b.states ∙ calls_states round run in
    let entries : (before_turn s run round).entries ≡ run.entries ++ entries_in (early_of run round) =
    cycles_entries s (early_of run round) (with_calls round run) ∙ ap (λ (es : List CycleEntry). es ++ entries_in (early_of run round)) (calls-entries round run) in
    subst (λ (x : List FastState × List CycleEntry). UseUpTo (length x.0) x.1) (λ i. (sym states i, sym entries i)) (used-more (length run.states) run.entries (early_of run round) used (early-names run round.entries))

legal-names : (s : Session) (marks : Marks) (es : List EntrySeen) (run : Run) → LegalEntries s marks run es → NameUpTo (length run.states) es
unfolding with_poll
legal-names s marks [] run legal = tt
legal-names s marks (e ∷ es) run legal =
    let b = cycle_beside s run e in
    (legal.0.cycle.pushed, subst (λ (xs : List FastState). NameUpTo (length xs) es) b.states (legal-names s marks es (with_cycle s run e) legal.1))

-- after the round the entries use states that were pushed, if its late entries are legal
pub round_used : (s : Session) (marks : Marks) (run : Run) (round : RoundSeen) → UseUpTo (length run.states) run.entries → LegalEntries s marks (after_turn s run round) (late_of run round) → UseUpTo (length (after_round s run round).states) (after_round s run round).entries
round_used s marks run round used legal =
    let turned-run = after_turn s run round in
    let b = cycles_beside s (late_of run round) turned-run in
    let states : (after_round s run round).states ≡ turned-run.states = round_states s run round ∙ b.states in
    let same : turned-run.entries ≡ (before_turn s run round).entries = turned-entries s (found_in s run round) round.turn (before_turn s run round) in
    let more = turned-states s (found_in s run round) round.turn (before_turn s run round) in
    let here : UseUpTo (length turned-run.states) turned-run.entries = subst (UseUpTo (length turned-run.states)) (sym same) (UseUpTo-more (length (before_turn s run round).states) (length turned-run.states) (before_turn s run round).entries more (early_used s run round used)) in
    let all = used-more (length turned-run.states) turned-run.entries (late_of run round) here (legal-names s marks (late_of run round) turned-run legal) in
    let entries : turned-run.entries ++ entries_in (late_of run round) ≡ (after_round s run round).entries =
    ap (λ (es : List CycleEntry). es ++ entries_in (late_of run round)) (turn_entries s run round)
    ∙ (append_assoc run.entries (entries_in (early_of run round)) (entries_in (late_of run round))
    ∙ (ap (λ (es : List CycleEntry). run.entries ++ es)
    (sym (map-append (λ (e : EntrySeen). e.entry) (early_of run round) (late_of run round)) ∙ ap entries_in (take-append-drop (early_count run round) round.entries))
    ∙ sym (round_entries s run round))) in
    subst (λ (x : List FastState × List CycleEntry). UseUpTo (length x.0) x.1) (λ i. (sym states i, entries i)) all

-- ## The turn

none-by : (es : List EntrySeen) → length es ≡ 0 → es ≡ []
none-by [] e = refl
none-by (x ∷ es) e = absurd (let z : ⊥ = omega (arith, e) in z)

none-legal : (s : Session) (marks : Marks) (run : Run) (es : List EntrySeen) → length es ≡ 0 → LegalEntries s marks run es
none-legal s marks run [] e = tt
none-legal s marks run (x ∷ es) e = absurd (let z : ⊥ = omega (arith, e) in z)

-- the fast mixer's turn is legal, within the cycles that the script allows, and there was room
pub record IsFastLegal (cut : Bool) (s : Session) (marks : Marks) (run : Run) (round : RoundSeen) : Type 0 where
  pub turn : LegalFastTurn cut s marks run round
  pub within : length run.entries + length round.entries ≤ s.script.cycles
  pub room : length run.entries < s.script.cycles

module _ (cut : Bool) (s : Session) (marks : Marks) (earlier : List Report) (run : Run) (round : RoundSeen) (f : FastKept) (cycles : ℕ) (log : List CycleEntry) (first : ℕ) (allowed : cycles ≡ s.script.cycles) (fast : FastOf s earlier run f)
    (are : (i : ℕ) (e : EntrySeen) → slice_get round.entries i ≡ Some e → entry_at log (first + i) ≡ e.entry) where
  abbrev count : ℕ
  count = length round.entries

  -- the entries before the turn, and after it
  abbrev Early : Type 0
  Early = LegalEntries s marks (with_calls round run) (early_of run round)

  abbrev Late : Type 0
  Late = LegalEntries s marks (after_turn s run round) (late_of run round)

  -- no entries of one that has ended, and else a legal turn
  abbrev Turned : Bool → Type 0
  Turned b = MatchBool b (round.entries ≡ []) (IsFastTurn 16 (cut && fills s run round) round.entries × Early × Late)

  told-so : f.told.report.cycle ≡ length run.entries
  told-so = ap (λ (r : Report). r.cycle) fast.report ∙ fast.numbered.cycle

  -- the entries end as a turn, if no mixer has ended
  abbrev Ends : Bool → Bool → Type 0
  Ends full b = MatchBool b (count ≡ 0) (EndsAsTurn log first count 16 full)

  -- the log is full in the run as it is told
  full-so : (cut && f.told.report.cycle + count == cycles) ≡ (cut && fills s run round)
  full-so = λ i. cut && told-so i + count == allowed i

  turn-to : (b : Bool) → Ends (cut && fills s run round) b → Early → Late → Turned b
  turn-to true none early late = none-by round.entries none
  turn-to false ends early late = ((turn_exact log first 16 (cut && fills s run round) round.entries are).0 ends, early, late)

  turn-from : (b : Bool) → Turned b → Ends (cut && fills s run round) b
  turn-from true none = ap (λ (es : List EntrySeen). length es) none
  turn-from false turn = (turn_exact log first 16 (cut && fills s run round) round.entries are).1 turn.0

  both-from : (b : Bool) → Turned b → Early × Late
  both-from true none =
      let long : length round.entries ≡ 0 = ap (λ (es : List EntrySeen). length es) none in
      let front = length-take (early_count run round) round.entries in
      let rest = length-drop (early_count run round) round.entries in
      (none-legal s marks (with_calls round run) (early_of run round) (omega (arith, front, long)), none-legal s marks (after_turn s run round) (late_of run round) (omega (arith, rest, long)))
  both-from false turn = (turn.1, turn.2)

  -- the entries may come and are legal
  pub fast_exact : (MayEnter cut f cycles log first count × Early × Late) ↔ IsFastLegal cut s marks run round
  fast_exact =
      let told = told-so in (
        (λ h. record {
          turn = subst Turned fast.ended (turn-to f.ended (subst (λ (full : Bool). Ends full f.ended) full-so h.0.turn) h.1 h.2);
          within = (let w = h.0.within in omega (arith, w, told, allowed));
          room = (let r = h.0.room in omega (arith, r, told, allowed));
        }),
        (λ h. (
          record {
            room = (let r = h.room in omega (arith, r, told, allowed));
            within = (let w = h.within in omega (arith, w, told, allowed));
            turn = subst (λ (full : Bool). Ends full f.ended) (sym full-so) (turn-from f.ended (subst Turned (sym fast.ended) h.turn));
          },
          (both-from (fast_ended run) h.turn).0,
          (both-from (fast_ended run) h.turn).1,
        )),
      )

-- ## What the judge finds

-- the entries of a round may come and are right exactly if the fast mixer's turn is legal, by what is kept before the round and after its calls, and after the normal mixer's turn
pub fast_judged : (cut : Bool) (s : Session) (marks : Marks) (W V : ℕ → Type 0) (earlier : List Report) (frames : List Frame) (run : Run) (round : RoundSeen) (f : FastKept) (p q : Playing) (cycles : ℕ) (log : List CycleEntry) (first : ℕ) → cycles ≡ s.script.cycles
    → FastOf s earlier run f → KeepsPlaying s marks W earlier p (with_calls round run) → KeepsPlaying s marks V earlier q (after_turn s run round) → AreFormed frames (frames_before run) round.entries
    → ((i : ℕ) (e : EntrySeen) → slice_get round.entries i ≡ Some e → entry_at log (first + i) ≡ e.entry)
    → (MayEnter cut f cycles log first (length round.entries) × AreEntriesRight run.states frames (entries_in (early_of run round)) p × AreEntriesRight (after_turn s run round).states frames (entries_in (late_of run round)) q) ↔ IsFastLegal cut s marks run round
fast_judged cut s marks W V earlier frames run round f p q cycles log first allowed fast before after formed are =
    let start = with_calls round run in
    let early-place : frames_before run ≡ frames_before start = ap (sum_by taken_by) (sym (calls-entries round run)) in
    let late-place : frames_before run + sum_by taken_by (map (λ e. e.entry) (early_of run round)) ≡ frames_before (after_turn s run round) =
    sym (sum_by-append taken_by run.entries (entries_in (early_of run round))) ∙ ap (sum_by taken_by) (sym (turn_entries s run round)) in
    let early = entries_right s marks W earlier frames (early_of run round) p start (subst (λ (n : ℕ). AreFormed frames n (early_of run round)) early-place (formed_front frames (frames_before run) (early_count run round) round.entries formed)) before in
    let late = entries_right s marks V earlier frames (late_of run round) q (after_turn s run round) (subst (λ (n : ℕ). AreFormed frames n (late_of run round)) late-place (formed_rest frames (frames_before run) (early_count run round) round.entries formed)) after in
    let exact = fast_exact cut s marks earlier run round f cycles log first allowed fast are in
    let Early : List FastState → Type 0 = λ xs. AreEntriesRight xs frames (entries_in (early_of run round)) p in
    let states : start.states ≡ run.states = calls_states round run in (
      (λ h. exact.0 (h.0, early.0 (subst Early (sym states) h.1), late.0 h.2)),
      (λ h. let back = exact.1 h in (back.0, subst Early states (early.1 back.1), late.1 back.2)),
    )
