-- What the cycles of a fast turn leave of the mixer that went on: its log grows.
use Rattle.std.proofs.Common.{◌≡◌, ℕ, zero, suc, ◌+◌, ◌<◌, ◌≤◌, ◌||◌, Bool, true, false, List, [], ◌∷◌, ◌++◌, length, length-append, append-nil, append_assoc, refl, sym, ap, ◌∙◌, arith}
use Rattle.af_told_law.proofs.Common.{AddsCycle, Cycle, CycleEntry, Frame, IsCycle, IsFastTurn, MixerState, SessionState, Writes, WritesCycle, fold-append, has_exit, is_mixed, is_over, ne_eqb, slots, taken_before}
use Rattle.af_model.specs.Cycles.{is_exit}
use Rattle.af_told_law.proofs.Basics.{no_exit}

-- a mixer that hasn't ended, whose log has room
pub goes_on : (m : MixerState) → m.exited ≡ false → length m.log.entries < m.cycles → is_over m ≡ false
goes_on m runs low = λ j. runs j || ne_eqb (length m.log.entries) m.cycles (λ e. omega (arith, e, low)) j

-- One cycle of a mixer that isn't over
module _ (x next : SessionState) (out out' : List Frame) (answer : Cycle) (c : IsCycle x out answer next out') (on : is_over x.fast ≡ false) where
  pub still_on : is_over c.met.fast ≡ false
  still_on = ap is_over c.meets.ends.fast ∙ ap is_over c.adopts.same ∙ on

  abbrev pub adds : (entry : CycleEntry) × (answer ≡ entry.cycle) × AddsCycle c.met.fast next.fast entry × Writes next.fast entry out out'
  adds = c.mixes.adds still_on

  pub same_entries : c.met.fast.log.entries ≡ x.fast.log.entries
  same_entries = ap (λ (m : MixerState). m.log.entries) c.meets.ends.fast ∙ ap (λ (m : MixerState). m.log.entries) c.adopts.same

  pub same_frames : c.met.fast.log.frames ≡ x.fast.log.frames
  same_frames = ap (λ (m : MixerState). m.log.frames) c.meets.ends.fast ∙ ap (λ (m : MixerState). m.log.frames) c.adopts.same

  pub one_more : next.fast.log.entries ≡ x.fast.log.entries ++ adds.0 ∷ []
  one_more = adds.2.entries ∙ ap (λ (es : List CycleEntry). es ++ adds.0 ∷ []) same_entries

  -- the frames that the cycle took
  abbrev pub taken : List Frame
  taken = adds.2.takes.grown.0

  pub frames_more : next.fast.log.frames ≡ x.fast.log.frames ++ taken
  frames_more = adds.2.takes.grown.1 ∙ ap (λ (fs : List Frame). fs ++ taken) same_frames

  pub taken_long : length taken ≡ taken_before adds.0 slots
  taken_long =
      let total = adds.2.takes.total in
      let sum = ap (λ (fs : List Frame). length fs) adds.2.takes.grown.1 ∙ length-append c.met.fast.log.frames taken in
      omega (arith, total, sum)

  pub still_runs : is_mixed answer ≡ true → next.fast.exited ≡ false
  still_runs is =
      c.order.2.keeps.exited_is
      ∙ ap has_exit adds.2.entries
      ∙ fold-append (λ (found : Bool) (entry : CycleEntry). found || is_exit entry.cycle) false c.met.fast.log.entries (adds.0 ∷ [])
      ∙ (λ j. adds.2.legal.runs j || is_exit (sym adds.1 j))
      ∙ no_exit answer is

  pub still_room : (left : ℕ) → length x.fast.log.entries + suc left ≤ x.fast.cycles → length next.fast.log.entries + left ≤ next.fast.cycles
  still_room left room =
      let cycles : next.fast.cycles ≡ x.fast.cycles = c.sizes.1 ∙ ap (λ (m : MixerState). m.cycles) c.meets.ends.fast ∙ ap (λ (m : MixerState). m.cycles) c.adopts.same in
      let long : length next.fast.log.entries ≡ length x.fast.log.entries + 1 = ap (λ (es : List CycleEntry). length es) one_more ∙ length-append x.fast.log.entries (adds.0 ∷ []) in
      omega (arith, room, cycles, long)

-- the frames that a log had stand at its beginning after it
abbrev pub FramesGrow : SessionState → SessionState → Type 0
FramesGrow x t = (more : List Frame) × (t.fast.log.frames ≡ x.fast.log.frames ++ more)

-- the frames grow by one cycle, and by what follows it
grow_by : (left : ℕ) (x next t : SessionState) (answer : Cycle) (front : List ℕ) (w : WritesCycle x answer front next) → is_over x.fast ≡ false → (b : Bool) → is_mixed answer ≡ b → (is_mixed answer ≡ true → FramesGrow next t) → (is_mixed answer ≡ false → t ≡ next) → FramesGrow x t
grow_by left x next t answer front w on true is goes stops =
    let more = taken x next w.before w.after answer w.cycle on in
    let rest = goes is in
    (more ++ rest.0, rest.1 ∙ ap (λ (fs : List Frame). fs ++ rest.0) (frames_more x next w.before w.after answer w.cycle on) ∙ append_assoc x.fast.log.frames more rest.0)
grow_by left x next t answer front w on false is goes stops = (taken x next w.before w.after answer w.cycle on, ap (λ (z : SessionState). z.fast.log.frames) (stops is) ∙ frames_more x next w.before w.after answer w.cycle on)

pub frames_grow : (count : ℕ) (x : SessionState) (bytes : List ℕ) (t : SessionState) → IsFastTurn count x bytes t → x.fast.exited ≡ false → length x.fast.log.entries + count ≤ x.fast.cycles → FramesGrow x t
frames_grow zero x bytes t turn runs room = ([], ap (λ (z : SessionState). z.fast.log.frames) turn.1 ∙ sym (append-nil x.fast.log.frames))
frames_grow (suc left) x bytes t turn runs room =
    let w = turn.4 in
    let on : is_over x.fast ≡ false = goes_on x.fast runs (omega (arith, room)) in
    grow_by left x turn.1 t turn.0 turn.2 w on (is_mixed turn.0) refl
    (λ is. frames_grow left turn.1 turn.3 t (turn.6 is) (still_runs x turn.1 w.before w.after turn.0 w.cycle on is) (still_room x turn.1 w.before w.after turn.0 w.cycle on left room))
    (λ is. (turn.7 is).1)
