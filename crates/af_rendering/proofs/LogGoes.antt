-- The log of a session keeps the form of a journal's entries from round to round.
use Rattle.std.proofs.Common.{◌≡◌, ℕ, zero, suc, ◌≤◌, ◌==◌, ◌||◌, Bool, true, false, All, List, [], ◌∷◌, ◌++◌, length, refl, sym, ap, subst, ◌∙◌, append-nil, append_assoc, eqb-true, arith}
use Rattle.af_rendering.proofs.Common.{All-cons, All-head, All-nil, All-tail, AreWhole, Cycle, Frame, IsFastTurn, IsFrame, Logged, MixerState, MixesOnce, SessionState, WritesCycle, is_mixed, is_over, length-append, met_keeps, polled_keeps}
use Rattle.af_fast.proofs.LogForms.{log_form}

-- the log b is the log a with more entries and frames, each entry of its form
pub record Goes (a b : Logged) : Type 0 where
  pub frames : (more : List Frame) × (b.frames ≡ a.frames ++ more)
  pub longer : length a.entries ≤ length b.entries
  pub form : All IsFrame b.frames → AreWhole 0 a.frames a.entries → AreWhole 0 b.frames b.entries

-- what holds of all items of a list holds of the first ones
pub all_front : {X : Type 0} (P : X → Type 0) (xs ys : List X) → All P (xs ++ ys) → All P xs
all_front P [] ys all = All-nil P
all_front P (x ∷ xs) ys all = All-cons P x xs (All-head P x (xs ++ ys) all) (all_front P xs ys (All-tail P x (xs ++ ys) all))

pub goes_not : (a b : Logged) → b ≡ a → Goes a b
goes_not a b same = subst (Goes a) (sym same) (record { frames = ([], sym (append-nil a.frames)); longer = omega arith; form = (λ samples whole. whole) })

pub goes_then : (a b c : Logged) → Goes a b → Goes b c → Goes a c
goes_then a b c x y = record {
  frames = (x.frames.0 ++ y.frames.0, y.frames.1 ∙ ap (λ (l : List Frame). l ++ y.frames.0) x.frames.1 ∙ append_assoc a.frames x.frames.0 y.frames.0);
  longer = (let first = x.longer in let next = y.longer in omega arith);
  form = (λ samples whole. y.form samples (x.form (all_front IsFrame b.frames y.frames.0 (subst (All IsFrame) y.frames.1 samples)) whole));
}

-- the log goes on in a call of mix
pub mix_goes : (m m' : MixerState) (out out' : List Frame) (answer : Cycle) → MixesOnce m out answer m' out' → Goes m.log m'.log
mix_goes m m' out out' answer x = by_exit m.exited refl
  where
    by_length : (full : Bool) → m.exited ≡ false → (length m.log.entries == m.cycles) ≡ full → Goes m.log m'.log
    by_length true runs is = goes_not m.log m'.log (ap (λ (y : MixerState). y.log) (x.spent runs (eqb-true (length m.log.entries) m.cycles is)).1)
    by_length false runs is =
        let goes : is_over m ≡ false = ap (λ (b : Bool). b || (length m.log.entries == m.cycles)) runs ∙ is in
        let done = x.adds goes in
        let adds = done.2 in
        record {
          frames = adds.takes.grown;
          longer = omega (arith, ap length adds.entries ∙ length-append m.log.entries (done.0 ∷ []));
          form = (λ samples whole. log_form m m' done.0 adds samples whole);
        }

    by_exit : (exited : Bool) → m.exited ≡ exited → Goes m.log m'.log
    by_exit true is = goes_not m.log m'.log (ap (λ (y : MixerState). y.log) (x.exited is).1)
    by_exit false is = by_length (length m.log.entries == m.cycles) is refl

-- the log goes on in a cycle
cycle_goes : (s t : SessionState) (answer : Cycle) (bytes : List ℕ) → WritesCycle s answer bytes t → Goes s.fast.log t.fast.log
cycle_goes s t answer bytes w =
    let met = met_keeps (record s { fast = w.cycle.polled }) w.cycle.met w.cycle.meets in
    let polled = polled_keeps s.fast w.cycle.polled w.cycle.adopts in
    subst (λ (l : Logged). Goes l t.fast.log) (met.0 ∙ polled.0) (mix_goes w.cycle.met.fast t.fast w.before w.after answer w.cycle.mixes)

goes_by : (s m t : SessionState) (back : List ℕ) (mixed : Bool) → Goes s.fast.log m.fast.log → (mixed ≡ true → Goes m.fast.log t.fast.log) → (mixed ≡ false → (back ≡ []) × (t ≡ m)) → Goes s.fast.log t.fast.log
goes_by s m t back true first goes stops = goes_then s.fast.log m.fast.log t.fast.log first (goes refl)
goes_by s m t back false first goes stops = subst (λ (x : SessionState). Goes s.fast.log x.fast.log) (sym (stops refl).1) first

-- the log goes on in the cycles of a turn
pub fast_goes : (count : ℕ) (s t : SessionState) (bytes : List ℕ) → IsFastTurn count s bytes t → Goes s.fast.log t.fast.log
fast_goes zero s t bytes turn = goes_not s.fast.log t.fast.log (ap (λ (x : SessionState). x.fast.log) turn.1)
fast_goes (suc left) s t bytes turn =
    goes_by s turn.1 t turn.3 (is_mixed turn.0) (cycle_goes s turn.1 turn.0 turn.2 turn.4) (λ yes. fast_goes left turn.1 t turn.3 (turn.6 yes)) turn.7
