-- No cycle of a run uses a state older than that of a cycle before it.
use Rattle.std.proofs.Common.{◌≡◌, ℕ, zero, suc, ◌+◌, ◌≤◌, ◌==◌, ◌||◌, Bool, true, false, fold, List, [], ◌∷◌, ◌++◌, length, map, refl, sym, ap, subst, ◌∙◌, eqb-true}
use Rattle.af_parties_law.proofs.Common.{Cycle, CycleEntry, CyclesOn, CyclesOnce, EndsState, EntrySeen, FastTurned, Frame, Given, IsRoundOfAll, JournalData, Links, Logged, MatchBool, MixerState, MixesOnce, RoundNoted, RoundsNoted, ScriptData, SessionState, dealt, is_mixed, is_over, most_cycles, polled_keeps, same_entries}
use Rattle.af_playing.specs.PlayedRuns.{HandsBackRun, IsRunOfAll}
use Rattle.af_parties_law.specs.Spelled.{NoneOlder, StepsUp}
use Rattle.af_playing.proofs.RoundsOfAll.{log_of_turns}
use Rattle.af_playing.proofs.RoundsSoFar.{count}

-- entries step up with one entry more, which uses the last state or the next one
steps_more : (n : ℕ) (es : List CycleEntry) (e : CycleEntry) → StepsUp n es → fold (λ (number : ℕ) (x : CycleEntry). x.state) n es ≤ e.state → e.state ≤ fold (λ (number : ℕ) (x : CycleEntry). x.state) n es + 1 → StepsUp n (es ++ e ∷ [])
steps_more n [] e steps low high = (low, high, tt)
steps_more n (x ∷ es) e steps low high = (steps.0, steps.1, steps_more x.state es e steps.2 low high)

abbrev Steps : Logged → Type 0
Steps log = StepsUp 0 log.entries

-- a call that mixes keeps that the entries step up
mix_steps : (m m' : MixerState) (out out' : List Frame) (answer : Cycle) → MixesOnce m out answer m' out' → Steps m.log → Steps m'.log
mix_steps m m' out out' answer x steps = by_exit m.exited refl
  where
    stays : m'.log ≡ m.log → Steps m'.log
    stays same = subst Steps (sym same) steps

    by_length : (full : Bool) → m.exited ≡ false → (length m.log.entries == m.cycles) ≡ full → Steps m'.log
    by_length true runs is = stays (ap (λ (y : MixerState). y.log) (x.spent runs (eqb-true (length m.log.entries) m.cycles is)).1)
    by_length false runs is =
        let goes : is_over m ≡ false = ap (λ (b : Bool). b || (length m.log.entries == m.cycles)) runs ∙ is in
        let done = x.adds goes in
        subst (StepsUp 0) (sym done.2.entries) (steps_more 0 m.log.entries done.0 steps done.2.legal.follows.0 done.2.legal.follows.1)

    by_exit : (exited : Bool) → m.exited ≡ exited → Steps m'.log
    by_exit true is = stays (ap (λ (y : MixerState). y.log) (x.exited is).1)
    by_exit false is = by_length (length m.log.entries == m.cycles) is refl

-- one cycle keeps that the entries step up
once_steps : (links : Links) (m m' : MixerState) (answer : Cycle) (bytes : List ℕ) → CyclesOnce links m answer bytes m' → Steps m.log → Steps m'.log
once_steps links m m' answer bytes w steps = mix_steps w.polled m' w.before w.after answer w.mixes (subst Steps (sym (polled_keeps m w.polled w.adopts).0) steps)

steps_by : (next m' : MixerState) (back : List ℕ) (mixed : Bool) → Steps next.log → (mixed ≡ true → Steps m'.log) → (mixed ≡ false → (back ≡ []) × (m' ≡ next)) → Steps m'.log
steps_by next m' back true first goes stops = goes refl
steps_by next m' back false first goes stops = subst (λ (x : MixerState). Steps x.log) (sym (stops refl).1) first

-- some cycles keep that the entries step up
cycles_step : (links : Links) (left : ℕ) (m m' : MixerState) (bytes : List ℕ) → CyclesOn links left m bytes m' → Steps m.log → Steps m'.log
cycles_step links zero m m' bytes turn steps = subst (λ (x : MixerState). Steps x.log) (sym turn.1) steps
cycles_step links (suc left) m m' bytes (answer, next, front, back, cycle, bytes_are, more, over) steps =
    let first : Steps next.log = once_steps links m next answer front cycle steps in
    steps_by next m' back (is_mixed answer) first (λ yes. cycles_step links left next m' back (more yes) first) over

-- a turn keeps that the entries step up
turn_steps : (links : Links) (m m' : MixerState) (bytes : List ℕ) → FastTurned links m bytes m' → Steps m.log → Steps m'.log
turn_steps links m m' bytes turned steps = by_exit m.exited turned
  where
    by_exit : (exited : Bool) → MatchBool exited ((bytes ≡ []) × (m' ≡ m)) (CyclesOn links most_cycles m bytes m') → Steps m'.log
    by_exit true done = subst (λ (x : MixerState). Steps x.log) (sym done.1) steps
    by_exit false done = cycles_step links most_cycles m m' bytes done steps

-- a run keeps that the entries step up
run_steps : (g : Given) (s : SessionState) (rounds : List RoundNoted) (bytes : List ℕ) (t : SessionState) → IsRunOfAll g s rounds bytes t → Steps s.fast.log → Steps t.fast.log
run_steps g s [] bytes t run steps = subst (λ (x : SessionState). Steps x.fast.log) (sym run.1) steps
run_steps g s (r ∷ rs) bytes t run steps =
    let round : IsRoundOfAll g s r run.0 run.2 = run.5 in
    run_steps g run.2 rs run.1 t run.6 (subst Steps (sym (log_of_turns g s r run.0 run.2 round)) (turn_steps round.links s.fast round.turned.fast run.0 round.plays.fast steps))

-- in a journal that is handed back no cycle uses an older state
pub none_older : (ended : Bool) (script : ScriptData) (files : List (List Frame)) (j : JournalData) (e : EndsState) → HandsBackRun ended script files j e → NoneOlder j
none_older ended script files j e h =
    let played = h.played in
    let log : Logged = h.parties.fast.log in
    let noted : RoundsNoted = record { tracks = length script.tracks; rounds = h.rounds } in
    let first : Steps played.start.fast.log = subst (λ (m : MixerState). Steps m.log) (sym played.new.fast) tt in
    let all : Steps log = run_steps (record { tracks = script.tracks; files = files }) played.start h.rounds played.bytes h.parties played.run first in
    let entries = dealt noted log (count script files h.rounds h.parties played) in
    subst NoneOlder (sym h.journal_is) (subst (StepsUp 0) (sym (ap (map (λ (x : EntrySeen). x.entry)) entries ∙ same_entries log.frames log.entries)) all)
