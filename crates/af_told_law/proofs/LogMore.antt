-- A session's log only grows: by entries and frames behind those that it has, in a fast turn by as many entries as it has cycles at most.
use Rattle.std.proofs.Common.{◌≡◌, ℕ, zero, suc, ◌+◌, ◌≤◌, ◌==◌, ◌||◌, Bool, true, false, MatchBool, List, [], ◌∷◌, ◌++◌, length, refl, sym, ap, subst, ◌∙◌, append-nil, append_assoc, eqb-true, arith}
use Rattle.af_told_law.proofs.Common.{Cycle, CycleEntry, EntrySeen, Frame, Given, IsFastTurn, IsRound, IsTurnRun, Logged, MixerState, MixesOnce, NormalTurned, RoundNoted, SessionState, Turn, TurnSpec, Turns, WritesCycle, drop, entries_seen, fast_round, is_mixed, is_over, length-append, normal_round, slots, still_round, sum_by, sum_by-append, taken_before, taken_by}
use Rattle.af_script.specs.declared.op.TurnSpec.TheVariants as spec
use Rattle.af_session.proofs.FastAdds.{met_keeps, polled_keeps}
use Rattle.af_rendering.proofs.RoundTold.{log_turned}

-- the entries by which a log grew to another one, each with its frames
abbrev pub entries_grown : Logged → Logged → List EntrySeen
entries_grown a b = entries_seen (drop (length a.frames) b.frames) (drop (length a.entries) b.entries)

-- b is a with so many more entries at most, and with the frames that they took
pub record GrowsBy (few : ℕ) (a b : Logged) : Type 0 where
  pub more : List CycleEntry
  pub entries : b.entries ≡ a.entries ++ more
  pub count : length more ≤ few
  pub taken : List Frame
  pub frames : b.frames ≡ a.frames ++ taken
  pub sized : length taken ≡ sum_by taken_by more

pub grows_none : (few : ℕ) (a b : Logged) → b ≡ a → GrowsBy few a b
grows_none few a b same = subst (GrowsBy few a) (sym same) (record { more = []; entries = sym (append-nil a.entries); count = omega arith; taken = []; frames = sym (append-nil a.frames); sized = refl })

pub grows_then : (m n k : ℕ) (a b c : Logged) → m + n ≤ k → GrowsBy m a b → GrowsBy n b c → GrowsBy k a c
grows_then m n k a b c few x y = record {
  more = x.more ++ y.more;
  entries = y.entries ∙ ap (λ (l : List CycleEntry). l ++ y.more) x.entries ∙ append_assoc a.entries x.more y.more;
  count = (let first = x.count in let next = y.count in let all = length-append x.more y.more in omega arith);
  taken = x.taken ++ y.taken;
  frames = y.frames ∙ ap (λ (l : List Frame). l ++ y.taken) x.frames ∙ append_assoc a.frames x.taken y.taken;
  sized = (let first = x.sized in let next = y.sized in let all = length-append x.taken y.taken in let sums = sum_by-append taken_by x.more y.more in omega arith);
}

-- one entry takes the frames of its slots
one_taken : (entry : CycleEntry) → sum_by taken_by (entry ∷ []) ≡ taken_before entry slots
unfolding taken_by
one_taken entry = omega arith

-- a log grows by a call of mix
pub mix_grows : (m m' : MixerState) (out out' : List Frame) (answer : Cycle) → MixesOnce m out answer m' out' → GrowsBy 1 m.log m'.log
mix_grows m m' out out' answer x = by_exit m.exited refl
  where
    by_length : (full : Bool) → m.exited ≡ false → (length m.log.entries == m.cycles) ≡ full → GrowsBy 1 m.log m'.log
    by_length true runs is = grows_none 1 m.log m'.log (ap (λ (y : MixerState). y.log) (x.spent runs (eqb-true (length m.log.entries) m.cycles is)).1)
    by_length false runs is =
        let goes : is_over m ≡ false = ap (λ (b : Bool). b || (length m.log.entries == m.cycles)) runs ∙ is in
        let done = x.adds goes in
        let adds = done.2 in
        record {
          more = done.0 ∷ [];
          entries = adds.entries;
          count = omega arith;
          taken = adds.takes.grown.0;
          frames = adds.takes.grown.1;
          sized = let total = adds.takes.total in let all = ap length adds.takes.grown.1 ∙ length-append m.log.frames adds.takes.grown.0 in let one = one_taken done.0 in omega arith;
        }

    by_exit : (exited : Bool) → m.exited ≡ exited → GrowsBy 1 m.log m'.log
    by_exit true is = grows_none 1 m.log m'.log (ap (λ (y : MixerState). y.log) (x.exited is).1)
    by_exit false is = by_length (length m.log.entries == m.cycles) is refl

-- a log grows by a cycle
pub cycle_grows : (s t : SessionState) (answer : Cycle) (bytes : List ℕ) → WritesCycle s answer bytes t → GrowsBy 1 s.fast.log t.fast.log
cycle_grows s t answer bytes w =
    let met = met_keeps (record s { fast = w.cycle.polled }) w.cycle.met w.cycle.meets in
    let polled = polled_keeps s.fast w.cycle.polled w.cycle.adopts in
    subst (λ (l : Logged). GrowsBy 1 l t.fast.log) (met.0 ∙ polled.0) (mix_grows w.cycle.met.fast t.fast w.before w.after answer w.cycle.mixes)

grows_on : (left : ℕ) (s m t : SessionState) (back : List ℕ) (mixed : Bool) → GrowsBy 1 s.fast.log m.fast.log → (mixed ≡ true → GrowsBy left m.fast.log t.fast.log) → (mixed ≡ false → (back ≡ []) × (t ≡ m)) → GrowsBy (suc left) s.fast.log t.fast.log
grows_on left s m t back true first goes stops = grows_then 1 left (suc left) s.fast.log m.fast.log t.fast.log (omega arith) first (goes refl)
grows_on left s m t back false first goes stops = grows_then 1 0 (suc left) s.fast.log m.fast.log t.fast.log (omega arith) first (grows_none 0 m.fast.log t.fast.log (ap (λ (x : SessionState). x.fast.log) (stops refl).1))

-- a log grows by the cycles of a turn
pub fast_grows : (count : ℕ) (s t : SessionState) (bytes : List ℕ) → IsFastTurn count s bytes t → GrowsBy count s.fast.log t.fast.log
fast_grows zero s t bytes turn = grows_none 0 s.fast.log t.fast.log (ap (λ (x : SessionState). x.fast.log) turn.1)
fast_grows (suc left) s t bytes turn = grows_on left s turn.1 t turn.3 (is_mixed turn.0) (cycle_grows s turn.1 turn.0 turn.2 turn.4) (λ yes. fast_grows left turn.1 t turn.3 (turn.6 yes)) turn.7

-- ## Rounds

-- the cycles that a turn of the script asks for
abbrev pub asked_by : TurnSpec → ℕ
asked_by (spec.Fast count) = count
asked_by _ = 0

turn_grows : (g : Given) (turn : TurnSpec) (s : SessionState) (r : RoundNoted) (bytes : List ℕ) (t : SessionState) → Turns g turn s r bytes t → GrowsBy (asked_by turn) s.fast.log t.fast.log
turn_grows g (spec.Client i) s r bytes t turns = grows_none 0 s.fast.log t.fast.log (ap (λ (x : SessionState). x.fast.log) turns.3.leaves)
turn_grows g spec.Normal s r bytes t turns = by_ended s.normal.ended turns.1
  where
    by_ended : (ended : Bool) → MatchBool ended ((r ≡ still_round s) × (t ≡ s)) ((e : Turn) × (r ≡ normal_round s e) × NormalTurned s t e) → GrowsBy 0 s.fast.log t.fast.log
    by_ended true h = grows_none 0 s.fast.log t.fast.log (ap (λ (x : SessionState). x.fast.log) h.1)
    by_ended false h = grows_none 0 s.fast.log t.fast.log (ap (λ (x : SessionState). x.fast.log) h.2.leaves)
turn_grows g (spec.Fast count) s r bytes t turns = by_exit s.fast.exited turns
  where
    by_exit : (exited : Bool) → MatchBool exited ((r ≡ still_round s) × (bytes ≡ []) × (t ≡ s)) ((r ≡ fast_round s t) × IsFastTurn count s bytes t) → GrowsBy count s.fast.log t.fast.log
    by_exit true h = grows_none count s.fast.log t.fast.log (ap (λ (x : SessionState). x.fast.log) h.2)
    by_exit false h = fast_grows count s t bytes h.1

pub round_grows : (g : Given) (turn : TurnSpec) (s : SessionState) (r : RoundNoted) (bytes : List ℕ) (t : SessionState) → IsRound g turn s r bytes t → GrowsBy (asked_by turn) s.fast.log t.fast.log
round_grows g turn s r bytes t w = subst (GrowsBy (asked_by turn) s.fast.log) (sym (log_turned g turn s r bytes t w)) (turn_grows g turn s r bytes w.turned w.turns)

-- the cycles that some turns ask for
abbrev pub all_asked : List TurnSpec → ℕ
all_asked [] = 0
all_asked (turn ∷ turns) = asked_by turn + all_asked turns

pub run_grows : (g : Given) (turns : List TurnSpec) (s : SessionState) (rounds : List RoundNoted) (bytes : List ℕ) (t : SessionState) → IsTurnRun g turns s rounds bytes t → GrowsBy (all_asked turns) s.fast.log t.fast.log
run_grows g [] s rounds bytes t run = grows_none 0 s.fast.log t.fast.log (ap (λ (x : SessionState). x.fast.log) run.2)
run_grows g (turn ∷ turns) s rounds bytes t (r, rs, front, back, m, rounds_are, bytes_are, round, rest) =
    grows_then (asked_by turn) (all_asked turns) (asked_by turn + all_asked turns) s.fast.log m.fast.log t.fast.log (omega arith) (round_grows g turn s r front m round) (run_grows g turns m rs back t rest)
