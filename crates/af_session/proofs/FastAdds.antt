-- What the cycles of a fast turn add to the log and to the sound.
use Rattle.std.proofs.Common.{◌≡◌, ℕ, zero, suc, ◌+◌, ◌≤◌, ◌==◌, ◌||◌, if◌then◌else◌, ne_eqb, Bool, true, false, true≢false, All, List, [], ◌∷◌, ◌++◌, length, refl, sym, ap, subst, ◌∙◌, append-nil, append_assoc, eqb-true, arith}
use Rattle.af_session.proofs.Common.{AddsCycle, Adopts, All-append, All-cons, All-nil, Cycle, CycleEntry, FastState, Frame, Grows, IsCycle, IsFastTurn, IsMixed, IsWhole, LieWithin, Logged, Met, MixerState, MixesOnce, Roomy, SessionState, StepsOn, TurnAdds, Turned, Writes, WritesCycle, adopted_states, cold_done, count_seen, entries_pcm, entry_pcm, entry_slot, flat_map-cons, grows_not, grows_on, is_mixed, length-append, log_grows, mix, pcm_bytes, same_if, slots, state_of, taken_before, taken_up, takes_of, written}
use Rattle.af_model.proofs.Basics.{mixes_state}

-- ## Where the frames of a new entry stand

-- a slot names the place of its frames, or 0 if it took none: it ends no later than its frames do
ends_within : (place count first high : ℕ) → first ≡ (if count == 0 then 0 else place) → place + count ≤ high → first + count ≤ high
ends_within place zero first high is le = omega (arith, is)
ends_within place (suc n) first high is le =
    let some : (suc n == 0) ≡ false = ne_eqb (suc n) 0 (λ e. omega (arith, e)) in
    let there : first ≡ place = is ∙ ap (λ (b : Bool). if b then 0 else place) some in
    omega (arith, there)

-- the frames of an entry that a cycle adds lie in the log
added_within : (m m' : MixerState) (entry : CycleEntry) → AddsCycle m m' entry → LieWithin m'.log.frames entry
added_within m m' entry a mixed i lt =
    let xs : List FastState = adopted_states m in
    let x = mixes_state (cold_done xs m.log.entries) (state_of xs entry.state) (sym (ap is_mixed a.legal.what) ∙ mixed) in
    let placed = (a.legal.mixes x.0 x.1 mixed).placed i lt in
    let below = taken_up entry i slots lt in
    ends_within (length m.log.frames + taken_before entry i) (count_seen (entry_slot entry i).seen) (entry_slot entry i).first (length m'.log.frames) placed (omega (arith, below, a.takes.total))

-- ## One cycle

-- what one cycle adds to the log: at most one entry, which is that of a mix if the cycle mixed
pub record AddsOne (len : ℕ) (answer : Cycle) (log log' : Logged) (bytes : List ℕ) : Type 0 where
  pub entries : List CycleEntry
  pub one : length entries ≤ 1
  pub mixed : is_mixed answer ≡ true → All IsMixed entries
  pub grows : Grows len log log' entries bytes

-- a cycle that adds no entry, and doesn't mix, adds no bytes
adds_none : (len : ℕ) (answer : Cycle) (log log' : Logged) (out : List Frame) → IsWhole log → is_mixed answer ≡ false → log' ≡ log → AddsOne len answer log log' (written answer out)
adds_none len answer log log' out whole dry same =
    let none : written answer out ≡ [] = ap (λ (b : Bool). if b then pcm_bytes out else []) dry in
    record {
      entries = [];
      one = omega arith;
      mixed = (λ mixed. absurd (true≢false (sym mixed ∙ dry)));
      grows = subst (Grows len log log' []) (sym none) (grows_not len log log' whole same);
    }

-- a cycle that adds an entry adds the bytes of its mix
adds_entry : (m m' : MixerState) (out out' : List Frame) (answer : Cycle) (entry : CycleEntry) → length out ≡ m.frames → IsWhole m.log → answer ≡ entry.cycle → AddsCycle m m' entry → Writes m' entry out out'
    → AddsOne m.frames answer m.log m'.log (written answer out')
adds_entry m m' out out' answer entry long whole is a w =
    let len : ℕ = m.frames in
    let frames : List Frame = m'.log.frames in
    let within : All (LieWithin frames) (entry ∷ []) = All-cons (LieWithin frames) entry [] (added_within m m' entry a) (All-nil (LieWithin frames)) in
    let alone : entries_pcm len frames (entry ∷ []) ≡ entry_pcm len frames entry = flat_map-cons (entry_pcm len frames) entry [] ∙ append-nil (entry_pcm len frames entry) in
    let mixed : entry_pcm len frames entry ≡ written entry.cycle out' = same_if (is_mixed entry.cycle) (pcm_bytes (mix (takes_of frames entry) len)) (pcm_bytes out')
    (λ yes. sym (ap pcm_bytes (w.0 yes ∙ ap (mix (takes_of frames entry)) long))) in
    let bytes : entries_pcm len frames (entry ∷ []) ≡ written answer out' = alone ∙ mixed ∙ ap (λ (c : Cycle). written c out') (sym is) in
    record {
      entries = entry ∷ [];
      one = omega arith;
      mixed = (λ yes. All-cons IsMixed entry [] (sym (ap is_mixed is) ∙ yes) (All-nil IsMixed));
      grows = subst (Grows len m.log m'.log (entry ∷ [])) bytes (log_grows len m.log m'.log (entry ∷ []) a.takes.grown.0 whole a.entries a.takes.grown.1 within);
    }

-- what a call of mix does: it leaves all but a mark as it was, and mixes nothing, or adds an entry
pub data MixDoes (m m' : MixerState) (out out' : List Frame) (answer : Cycle) : Type 0 where
  mix_idles : m' ≡ record m { adopted = false } → is_mixed answer ≡ false → MixDoes m m' out out' answer
  mix_enters : (entry : CycleEntry) → answer ≡ entry.cycle → AddsCycle m m' entry → Writes m' entry out out' → MixDoes m m' out out' answer

pub mix_does : (m m' : MixerState) (out out' : List Frame) (answer : Cycle) → MixesOnce m out answer m' out' → MixDoes m m' out out' answer
mix_does m m' out out' answer x = by_exit m.exited refl
  where
    by_length : (full : Bool) → m.exited ≡ false → (length m.log.entries == m.cycles) ≡ full → MixDoes m m' out out' answer
    by_length true runs is = let done = x.spent runs (eqb-true (length m.log.entries) m.cycles is) in mix_idles done.1 (ap is_mixed done.0)
    by_length false runs is = let done = x.adds (ap (λ (b : Bool). b || (length m.log.entries == m.cycles)) runs ∙ is) in mix_enters done.0 done.1 done.2 done.3

    by_exit : (exited : Bool) → m.exited ≡ exited → MixDoes m m' out out' answer
    by_exit true is = let done = x.exited is in mix_idles done.1 (ap is_mixed done.0)
    by_exit false is = by_length (length m.log.entries == m.cycles) is refl

-- a call of mix adds at most one entry
pub mix_adds : (m m' : MixerState) (out out' : List Frame) (answer : Cycle) → length out ≡ m.frames → IsWhole m.log → MixDoes m m' out out' answer
    → AddsOne m.frames answer m.log m'.log (written answer out')
mix_adds m m' out out' answer long whole (mix_idles same dry) = adds_none m.frames answer m.log m'.log out' whole dry (ap (λ (y : MixerState). y.log) same)
mix_adds m m' out out' answer long whole (mix_enters entry is a w) = adds_entry m m' out out' answer entry long whole is a w

-- the meetings leave the log, the sizes and the mark of the fast mixer as they are
pub met_keeps : (a b : SessionState) → Met a b → (b.fast.log ≡ a.fast.log) × (b.fast.frames ≡ a.fast.frames) × (b.fast.cycles ≡ a.fast.cycles) × (b.fast.adopted ≡ a.fast.adopted)
met_keeps a b met = (
  ap (λ (m : MixerState). m.log) met.ends.fast,
  ap (λ (m : MixerState). m.frames) met.ends.fast,
  ap (λ (m : MixerState). m.cycles) met.ends.fast,
  ap (λ (m : MixerState). m.adopted) met.ends.fast,
)

-- a poll leaves the log and the sizes of the fast mixer as they are, and sets its mark
pub polled_keeps : (m p : MixerState) → Adopts m p → (p.log ≡ m.log) × (p.frames ≡ m.frames) × (p.cycles ≡ m.cycles) × (p.adopted ≡ true)
polled_keeps m p adopts = (
  ap (λ (y : MixerState). y.log) adopts.same,
  ap (λ (y : MixerState). y.frames) adopts.same,
  ap (λ (y : MixerState). y.cycles) adopts.same,
  ap (λ (y : MixerState). y.adopted) adopts.same,
)

-- a cycle keeps the sizes of the fast mixer
pub cycle_sizes : (s s' : SessionState) (out out' : List Frame) (answer : Cycle) → IsCycle s out answer s' out' → (s'.fast.frames ≡ s.fast.frames) × (s'.fast.cycles ≡ s.fast.cycles)
cycle_sizes s s' out out' answer c =
    let met = met_keeps (record s { fast = c.polled }) c.met c.meets in
    let polled = polled_keeps s.fast c.polled c.adopts in
    (c.sizes.0 ∙ met.1 ∙ polled.1, c.sizes.1 ∙ met.2 ∙ polled.2)

-- a cycle among the parties adds at most one entry, with the bytes that it wrote
cycle_adds : (s s' : SessionState) (answer : Cycle) (bytes : List ℕ) → IsWhole s.fast.log → WritesCycle s answer bytes s' → AddsOne s.fast.frames answer s.fast.log s'.fast.log bytes
cycle_adds s s' answer bytes whole w =
    let met = met_keeps (record s { fast = w.cycle.polled }) w.cycle.met w.cycle.meets in
    let polled = polled_keeps s.fast w.cycle.polled w.cycle.adopts in
    let log : w.cycle.met.fast.log ≡ s.fast.log = met.0 ∙ polled.0 in
    let frames : w.cycle.met.fast.frames ≡ s.fast.frames = met.1 ∙ polled.1 in
    let adds = mix_adds w.cycle.met.fast s'.fast w.before w.after answer (w.long ∙ sym frames) (subst IsWhole (sym log) whole)
    (mix_does w.cycle.met.fast s'.fast w.before w.after answer w.cycle.mixes) in
    let of_log = subst (λ (l : Logged). AddsOne w.cycle.met.fast.frames answer l s'.fast.log (written answer w.after)) log adds in
    let of_frames = subst (λ (n : ℕ). AddsOne n answer s.fast.log s'.fast.log (written answer w.after)) frames of_log in
    subst (AddsOne s.fast.frames answer s.fast.log s'.fast.log) (sym w.bytes_are) of_frames

-- after a cycle the frames that the entries of the log name lie in the log
pub cycle_whole : (s s' : SessionState) (answer : Cycle) (bytes : List ℕ) → IsWhole s.fast.log → WritesCycle s answer bytes s' → IsWhole s'.fast.log
cycle_whole s s' answer bytes whole w = (cycle_adds s s' answer bytes whole w).grows.whole

-- ## A turn

-- a cycle that mixes nothing is the last of its turn: the turn adds what the cycle does
adds_last : (len left : ℕ) (answer : Cycle) (log log' : Logged) (bytes : List ℕ) → AddsOne len answer log log' bytes → TurnAdds len (suc left) log log' bytes
adds_last len left answer log log' bytes a =
    record { mixes = []; last = a.entries; all_mixed = All-nil IsMixed; one = a.one; few = (let one = a.one in omega arith); grows = a.grows }

-- after a mix the turn goes on: it adds what the mix and the other cycles do
adds_more : (len left : ℕ) (answer : Cycle) (a b c : Logged) (front back : List ℕ) → is_mixed answer ≡ true → AddsOne len answer a b front
    → TurnAdds len left b c back → TurnAdds len (suc left) a c (front ++ back)
adds_more len left answer a b c front back mixed p q = record {
  mixes = p.entries ++ q.mixes;
  last = q.last;
  all_mixed = All-append IsMixed p.entries q.mixes (p.mixed mixed) q.all_mixed;
  one = q.one;
  few = (let one = p.one in let few = q.few in let long = length-append p.entries q.mixes in omega arith);
  grows = subst (λ (l : List CycleEntry). Grows len a c l (front ++ back)) (sym (append_assoc p.entries q.mixes q.last)) (grows_on len a b c p.entries (q.mixes ++ q.last) front back p.grows q.grows);
}

-- a turn that leaves the log as it is adds nothing
pub none_added : (len count : ℕ) (log log' : Logged) (bytes : List ℕ) → IsWhole log → log' ≡ log → bytes ≡ [] → TurnAdds len count log log' bytes
none_added len count log log' bytes whole same none = record {
  mixes = [];
  last = [];
  all_mixed = All-nil IsMixed;
  one = omega arith;
  few = omega arith;
  grows = subst (Grows len log log' []) (sym none) (grows_not len log log' whole same);
}

-- steps of a fast mixer, each of which adds at most one entry and keeps the sizes, add what a turn may add
module _ {S : Type 0} (Once : S → Cycle → List ℕ → S → Type 0) (fast : S → MixerState)
    (adds_once : (s t : S) (answer : Cycle) (bytes : List ℕ) → IsWhole (fast s).log → Once s answer bytes t → AddsOne (fast s).frames answer (fast s).log
    (fast t).log bytes × ((fast t).frames ≡ (fast s).frames)) where
  step_adds : (left : ℕ) (s next s' : S) (answer : Cycle) (front back : List ℕ) (mixed : Bool) → is_mixed answer ≡ mixed
      → AddsOne (fast s).frames answer (fast s).log (fast next).log front
      → (is_mixed answer ≡ true → TurnAdds (fast s).frames left (fast next).log (fast s').log back) → (is_mixed answer ≡ false → (back ≡ []) × (s' ≡ next))
      → TurnAdds (fast s).frames (suc left) (fast s).log (fast s').log (front ++ back)
  step_adds left s next s' answer front back true is first more over = adds_more (fast s).frames left answer (fast s).log (fast next).log
      (fast s').log front back is first (more is)
  step_adds left s next s' answer front back false is first more over =
      let bytes_are : front ≡ front ++ back = sym (ap (λ (l : List ℕ). front ++ l) (over is).0 ∙ append-nil front) in
      subst (λ (y : S × List ℕ). TurnAdds (fast s).frames (suc left) (fast s).log (fast y.0).log y.1) (λ i. (sym (over is).1 i, bytes_are i))
      (adds_last (fast s).frames left answer (fast s).log (fast next).log front first)

  pub steps_add : (left : ℕ) (s s' : S) (bytes : List ℕ) → IsWhole (fast s).log → StepsOn Once left s bytes s'
      → TurnAdds (fast s).frames left (fast s).log (fast s').log bytes
  steps_add zero s s' bytes whole turn = none_added (fast s).frames zero (fast s).log (fast s').log bytes whole (ap (λ (y : S). (fast y).log) turn.1) turn.0
  steps_add (suc left) s s' bytes whole (answer, next, front, back, once, bytes_are, more, over) =
      let first = adds_once s next answer front whole once in
      subst (TurnAdds (fast s).frames (suc left) (fast s).log (fast s').log) (sym bytes_are)
      (step_adds left s next s' answer front back (is_mixed answer) refl first.0
      (λ mixed. subst (λ (n : ℕ). TurnAdds n left (fast next).log (fast s').log back) first.1
      (steps_add left next s' back first.0.grows.whole (more mixed))) over)

-- a turn adds what its cycles do
pub turn_adds : (left : ℕ) (s s' : SessionState) (bytes : List ℕ) → IsWhole s.fast.log → IsFastTurn left s bytes s' → TurnAdds s.fast.frames left s.fast.log s'.fast.log bytes
turn_adds = steps_add WritesCycle (λ (s : SessionState). s.fast)
    (λ s t answer bytes whole w. (cycle_adds s t answer bytes whole w, (cycle_sizes s t w.before w.after answer w.cycle).0))

-- a turn that put its bytes behind others adds what its cycles do
pub turned_by : (count : ℕ) (s s' : SessionState) (bytes bytes' : Roomy ℕ) (added : List ℕ) → IsWhole s.fast.log → bytes' ≡ record bytes { items = bytes.items ++ added } → IsFastTurn count s added s' → Turned count s s' bytes bytes'
turned_by count s s' bytes bytes' added whole grown turn = record { added = added; written_is = grown; turn = turn; adds = turn_adds count s s' added whole turn }

-- after the meetings the frames that the log's mixes name still lie in the log
pub whole_met : (a b : SessionState) → Met a b → IsWhole a.fast.log → IsWhole b.fast.log
whole_met a b met whole = subst IsWhole (sym (met_keeps a b met).0) whole

-- an empty log names no frames, so all that it names lie in it
pub whole_new : (log : Logged) → log.entries ≡ [] → IsWhole log
whole_new log none = subst (All (LieWithin log.frames)) (sym none) (All-nil (LieWithin log.frames))
