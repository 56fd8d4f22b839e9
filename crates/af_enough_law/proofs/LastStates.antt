-- The state pushed last, and that the fast mixer goes on until an Exit is pushed.
use Rattle.std.proofs.Common.{◌≡◌, ◌⊎◌, inl, inr, ℕ, ◌<◌, ◌≤◌, ◌==◌, ◌||◌, unwrap_or, Bool, true, false, true≢false, Option, Some, None, List, [], ◌∷◌, ◌++◌, length, refl, sym, ap, ◌∙◌, subst, arith, append-nil, if◌then◌else◌}
use Rattle.af_enough_law.proofs.Common.{Busy, Clean, ColdIdle, Command, EntrySeen, Exit, FastState, HotIdle, Initial, Learnt, LegalEntries, LegalEntry, LegalRound, LegalTurnBy, Marks, MatchBool, MatchOption, Mix, MixWrite, NormalKept, Push, Pushed, RoundSeen, Run, Session, Setup, Turn, Write, after_edits, after_push, after_round, after_takes, after_turn, all_played, before_turn, calls_states, code_of, cold_done, cycle_by, cycle_frames, cycle_of, early_of, fast_ended, found_in, has_exit, initial, is_pushed, late_of, learnt, met_after, new_run, outside_of, setup_of, state_at, state_more, state_of, turn_after, with_calls, with_cycle, with_cycles, with_poll, within_or_beyond}
use Rattle.af_base.specs.declared.log.Cycle.TheVariants as cycle
use Rattle.af_base.specs.declared.state.Command.TheVariants.{Idle}
use Rattle.af_enough_law.proofs.Basics.{before_normal}
use Rattle.af_life.specs.Edits as edits
use Rattle.af_model.specs.Cycles.{is_exit}
use Rattle.af_enough_law.proofs.EndWords.{NoExits}
use Rattle.af_enough_law.proofs.Drafts.{after_pushes}
use Rattle.af_enough_law.proofs.FastCurrent.{legal_parts, rest_current}
use Rattle.af_enough_law.proofs.FastFound.{cycle_current}
use Rattle.af_enough_law.proofs.FastPolls.{before_states, round_states, turn_more}
use Rattle.af_enough_law.proofs.FastReports.{calls_same, turned_same, loaded_same, met_same, ends_same}
use Rattle.af_enough_law.proofs.FastSteps.{cycle_states}
use Rattle.af_enough_law.proofs.NormalRounds.{after_normal, turn_made}
use Rattle.af_enough_law.proofs.QueueRounds.{current_of, states_turned, states_still}
use Rattle.af_model.proofs.UsedStates.{has_exit-push as added}

-- ## The last state

-- the last state of the run is the one that the mixer keeps as pushed last
abbrev pub LastIs : Session → Run → Type 0
LastIs s run = state_at (cycle_frames s) run.states (length run.states) ≡ run.normal.last

at_end : (xs : List FastState) (x : FastState) → state_of (xs ++ x ∷ []) (length (xs ++ x ∷ [])) ≡ Some x
at_end [] x = refl
at_end (y ∷ []) x = refl
at_end (y ∷ z ∷ xs) x = at_end (z ∷ xs) x

-- what a turn pushes is the last state then
last_turned : (c : Setup) (k : Learnt) (m : NormalKept) (e : Turn) (frames : ℕ) (states : List FastState) → (e.ended ≡ true → is_pushed e.push ≡ false) → state_at frames states (length states) ≡ m.last
    → (let later = states ++ (if is_pushed e.push then (after_edits c k e m).draft ∷ [] else []) in state_at frames later (length later) ≡ (turn_after c k m e).last)
unfolding turn_after
last_turned c k m e frames states none same = by_end e.ended none
  where
    x : NormalKept
    x = after_edits c k e m

    still : (b : Bool) → b ≡ false → (let later = states ++ (if b then x.draft ∷ [] else []) in state_at frames later (length later) ≡ m.last)
    still true is = absurd (true≢false is)
    still false is = ap (λ (l : List FastState). state_at frames l (length l)) (append-nil states) ∙ same

    by_push : (push : Push) → (let later = states ++ (if is_pushed push then x.draft ∷ [] else []) in state_at frames later (length later) ≡ (after_push push x).last)
    by_push (Pushed number) = ap (λ (o : Option FastState). unwrap_or o (initial frames)) (at_end states x.draft)
    by_push Clean = still false refl ∙ sym (after_pushes c k e m).1
    by_push (Busy seen expected) = still false refl ∙ sym (after_pushes c k e m).1

    by_end : (b : Bool) → (b ≡ true → is_pushed e.push ≡ false) → (let later = states ++ (if is_pushed e.push then x.draft ∷ [] else []) in state_at frames later (length later) ≡ (if b then record m { ended = true } else after_takes c e.mixes (after_push e.push x)).last)
    by_end true h = still (is_pushed e.push) (h refl)
    by_end false h = by_push e.push

-- the states from a number on, of which at most one was added to these
pub state_last : (xs : List FastState) (frames : ℕ) (last : FastState) → 1 ≤ length xs → state_at frames xs (length xs) ≡ last → state_of xs (length xs) ≡ Some last
state_last [] frames last some is = absurd (let z : ⊥ = omega (arith, some) in z)
state_last (y ∷ []) frames last some is = ap Some is
state_last (y ∷ z ∷ xs) frames last some is = state_last (z ∷ xs) frames last (omega arith) is

pub round_last : (s : Session) (marks : Marks) (run : Run) (round : RoundSeen) → LegalRound false s marks run round → LastIs s run → LastIs s (after_round s run round)
round_last s marks run round legal same = by run.normal.ended refl
  where
    before : Run
    before = before_turn s run round

    by : (b : Bool) → run.normal.ended ≡ b → LastIs s (after_round s run round)
    by true is =
        let none : round.turn ≡ None = subst (λ (b : Bool). MatchBool b (round.turn ≡ None) (MatchOption round.turn ⊥ (λ e. LegalTurnBy (setup_of s) marks (found_in s run round e) run.normal e))) is legal.turns.normal in
        let still = states_still s (found_in s run round) round.turn before none in
        ap (λ (l : List FastState). state_at (cycle_frames s) l (length l)) (round_states s run round ∙ ap (λ (r : Run). r.states) still ∙ before_states s run round) ∙ same
        ∙ ap (λ (m : NormalKept). m.last) (sym (after_normal s run round ∙ ap (λ (r : Run). r.normal) still ∙ before_normal s run round))
    by false is =
        let t = turn_made false s marks run round legal is in
        let c = setup_of s in
        let k = learnt t.by.outside in
        let o = outside_of c (found_in s run round t.turn) t.turn in
        let none : t.turn.ended ≡ true → is_pushed t.turn.push ≡ false = λ gone. ap (λ (x : Turn). is_pushed x.push) (t.by.legal.still gone) in
        let states : (after_round s run round).states ≡ run.states ++ (if is_pushed t.turn.push then (after_edits c k t.turn run.normal).draft ∷ [] else []) =
        round_states s run round ∙ states_turned s (found_in s run round) round.turn t.turn before t.is
        ∙ (λ j. before_states s run round j ++ (if is_pushed t.turn.push then (after_edits c (sym t.sees j) t.turn (before_normal s run round j)).draft ∷ [] else [])) in
        ap (λ (l : List FastState). state_at (cycle_frames s) l (length l)) states ∙ last_turned c k run.normal t.turn (cycle_frames s) run.states none same ∙ ap (λ (m : NormalKept). m.last) (sym t.after)

pub new_last : (s : Session) → LastIs s (new_run s)
new_last s = refl

exit_of : (x : Command) → (code_of x == code_of Exit) ≡ true → x ≡ Exit
exit_of Initial e = absurd (true≢false (sym e))
exit_of HotIdle e = absurd (true≢false (sym e))
exit_of ColdIdle e = absurd (true≢false (sym e))
exit_of Idle e = absurd (true≢false (sym e))
exit_of Exit e = refl
exit_of Mix e = absurd (true≢false (sym e))
exit_of Write e = absurd (true≢false (sym e))
exit_of MixWrite e = absurd (true≢false (sym e))

-- an Exit that was pushed last is there
pub record ExitThere (run : Run) : Type 0 where
  pub state : FastState
  pub is : state_of run.states (length run.states) ≡ Some state
  pub exits : state.command ≡ Exit

pub exit_there : (s : Session) (run : Run) → LastIs s run → edits.commands_exit run.normal.last ≡ true → ExitThere run
exit_there s run same exits = by (state_of run.states (length run.states)) refl
  where
    by : (o : Option FastState) → state_of run.states (length run.states) ≡ o → ExitThere run
    by (Some x) is = record { state = x; is = is; exits = exit_of x.command (ap (λ (o : Option FastState). edits.commands_exit (unwrap_or o (initial (cycle_frames s)))) (sym is) ∙ ap edits.commands_exit same ∙ exits) }
    by None is = let none : edits.commands_exit run.normal.last ≡ false = ap edits.commands_exit (sym same) ∙ ap (λ (o : Option FastState). edits.commands_exit (unwrap_or o (initial (cycle_frames s)))) is in absurd (true≢false (sym exits ∙ none))

-- ## The fast mixer goes on until an Exit is pushed

not_exit : (x : Command) (done cold : ℕ) → (code_of x == code_of Exit) ≡ false → is_exit (cycle_by done cold x) ≡ false
not_exit Initial done cold e = refl
not_exit HotIdle done cold e = refl
not_exit ColdIdle done cold e = by (cold == done)
  where
    by : (b : Bool) → is_exit (if b then cycle.Idle else cycle.Cold) ≡ false
    by true = refl
    by false = refl
not_exit Idle done cold e = refl
not_exit Exit done cold e = absurd (true≢false e)
not_exit Mix done cold e = refl
not_exit Write done cold e = refl
not_exit MixWrite done cold e = refl

cycle_goes : (o : Option FastState) (done : ℕ) → ((x : FastState) → o ≡ Some x → edits.commands_exit x ≡ false) → is_exit (cycle_of done o) ≡ false
cycle_goes None done h = refl
cycle_goes (Some x) done h = not_exit x.command done x.cold_gen (h x refl)

entry_goes : (s : Session) (marks : Marks) (run : Run) (e : EntrySeen) → LegalEntry s marks (with_poll s e.entry.state run) e → ((x : FastState) → state_of run.states e.entry.state ≡ Some x → edits.commands_exit x ≡ false) → is_exit e.entry.cycle ≡ false
unfolding with_poll
entry_goes s marks run e legal h = ap is_exit legal.cycle.what ∙ cycle_goes (state_of run.states e.entry.state) (cold_done run.states run.entries) h

entries_go : (s : Session) (marks : Marks) (es : List EntrySeen) (run : Run) → LegalEntries s marks run es → NoExits run.states → has_exit run.entries ≡ false → has_exit (with_cycles s es run).entries ≡ false
entries_go s marks [] run legal none going = going
entries_go s marks (e ∷ es) run legal none going =
    let next = with_cycle s run e in
    entries_go s marks es next legal.1 (subst NoExits (sym (cycle_states s run e)) none)
    (ap has_exit (cycle_current s run e).1 ∙ added run.entries e.entry ∙ (λ j. going j || entry_goes s marks run e legal.0 (none e.entry.state) j))

-- the entries of a round are those of its two parts
pub round_entries : (s : Session) (run : Run) (round : RoundSeen) → (after_round s run round).entries ≡ (with_cycles s (late_of run round) (after_turn s run round)).entries
round_entries s run round =
    let late : Run = with_cycles s (late_of run round) (after_turn s run round) in
    (ends_same (met_after s run round)).entries ∙ (met_same s (all_played s run round)).entries ∙ (loaded_same round.turn late).entries

-- the turn of a round finds the fast mixer going
turn_going : (s : Session) (marks : Marks) (run : Run) (round : RoundSeen) → LegalRound false s marks run round → NoExits run.states → fast_ended run ≡ false → has_exit (after_turn s run round).entries ≡ false
turn_going s marks run round legal none going =
    let called : Run = with_calls round run in
    let p = legal_parts (fast_ended run) s marks run round legal.turns.fast in
    ap has_exit (turned_same s (found_in s run round) round.turn (before_turn s run round)).entries
    ∙ entries_go s marks (early_of run round) called p.0 (subst NoExits (sym (calls_states round run)) none) (ap has_exit (calls_same round run).entries ∙ going)

-- if no state is an Exit, the fast mixer hasn't ended
pub round_going : (s : Session) (marks : Marks) (run : Run) (round : RoundSeen) → LegalRound false s marks run round → NoExits run.states → NoExits (after_round s run round).states → fast_ended run ≡ false → fast_ended (after_round s run round) ≡ false
round_going s marks run round legal none later going =
    let turn : Run = after_turn s run round in
    let p = legal_parts (fast_ended run) s marks run round legal.turns.fast in
    ap has_exit (round_entries s run round) ∙ entries_go s marks (late_of run round) turn p.1 (subst NoExits (round_states s run round) later) (turn_going s marks run round legal none going)

still_going : (s : Session) (marks : Marks) (run : Run) (e : EntrySeen) → LegalEntry s marks (with_poll s e.entry.state run) e → has_exit run.entries ≡ false
unfolding with_poll
still_going s marks run e legal = legal.cycle.runs

-- ## A fast mixer that ends has adopted a new state

exit_at : (a b : Bool) → a ≡ false → (a || b) ≡ true → b ≡ true
exit_at true b off h = absurd (true≢false off)
exit_at false b off h = h

abbrev NoneUpTo : ℕ → List FastState → Type 0
NoneUpTo n states = (k : ℕ) (x : FastState) → k ≤ n → state_of states k ≡ Some x → edits.commands_exit x ≡ false

entries_adopt : (s : Session) (marks : Marks) (n : ℕ) (es : List EntrySeen) (run : Run) → LegalEntries s marks run es → NoneUpTo n run.states → has_exit run.entries ≡ false → has_exit (with_cycles s es run).entries ≡ true → n < (with_cycles s es run).current
entries_adopt s marks n [] run legal none going ended = absurd (true≢false (sym ended ∙ going))
entries_adopt s marks n (e ∷ []) run legal none going ended =
    let exits : is_exit e.entry.cycle ≡ true = exit_at (has_exit run.entries) (is_exit e.entry.cycle) going (sym (ap has_exit (cycle_current s run e).1 ∙ added run.entries e.entry) ∙ ended) in
    by exits (within_or_beyond e.entry.state n)
  where
    by : is_exit e.entry.cycle ≡ true → (e.entry.state ≤ n) ⊎ (n < e.entry.state) → n < (with_cycle s run e).current
    by exits (inl low) = absurd (true≢false (sym exits ∙ entry_goes s marks run e legal.0 (λ x is. none e.entry.state x low is)))
    by exits (inr far) = let now = current_of s marks run e legal.0 in omega (arith, now, far)
entries_adopt s marks n (e ∷ f ∷ es) run legal none going ended =
    let next = with_cycle s run e in
    entries_adopt s marks n (f ∷ es) next legal.1 (subst (NoneUpTo n) (sym (cycle_states s run e)) none) (still_going s marks next f legal.1.0) ended

-- A round in which the fast mixer ends, and before which no Exit was pushed, adopts a state that was pushed in it
pub exit_adopted : (s : Session) (marks : Marks) (run : Run) (round : RoundSeen) → LegalRound false s marks run round → NoExits run.states → fast_ended run ≡ false → fast_ended (after_round s run round) ≡ true → length run.states < (after_round s run round).current
exit_adopted s marks run round legal none going ended =
    let turn : Run = after_turn s run round in
    let p = legal_parts (fast_ended run) s marks run round legal.turns.fast in
    let more = turn_more s run round in
    let up : NoneUpTo (length run.states) turn.states = λ k x low is. none k x (sym (ap (λ l. state_of l k) more.whole ∙ state_more run.states more.more k low) ∙ is) in
    let now = entries_adopt s marks (length run.states) (late_of run round) turn p.1 up (turn_going s marks run round legal none going) (ap has_exit (sym (round_entries s run round)) ∙ ended) in
    let rest = rest_current s run round in
    omega (arith, now, rest)
