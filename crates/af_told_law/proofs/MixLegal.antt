-- An entry of the fast mixer is legal after the run that tells the mixer before it.
use Rattle.std.proofs.Common.{◌≡◌, ℕ, ◌+◌, ◌<◌, ◌≤◌, true, length, List, ◌++◌, Some, sym, ap, ◌∙◌, subst, arith}
use Rattle.af_told_law.proofs.Common.{AddsCycle, CycleEntry, EntrySeen, FastState, Found, LegalCycle, LegalEntry, Listed, Marks, MixerState, Mixes, NormalState, Run, ServerEvent, Session, SubmixSlot, TrackSlot, adopted_states, carries, cold_done, cycle_events, cycle_frames, cycle_of, entry_slot, found, found_for, frames_before, has_exit, is_mixed, last_used, lawful_front, listed as told_list, slot_of, slots, state_for, state_known, state_of, stream_of, with_mix}
use Rattle.af_told_law.specs.Tells.{TellsFast, TellsShared}

-- What the run tells of the states that the entry finds, and of the servers of its slots: on a block that was poked the list after the look is the one told, with what the look did by the front that it really saw
pub record FindsTold (s : Session) (marks : Marks) (run : Run) (f : MixerState) (e : EntrySeen) : Type 0 where
  pub few : length (adopted_states f) ≤ length run.states
  pub same : state_of run.states e.entry.state ≡ state_of (adopted_states f) e.entry.state
  pub cold : cold_done run.states run.entries ≡ cold_done (adopted_states f) run.entries
  pub servers : ℕ → Listed
  pub tracks : is_mixed e.entry.cycle ≡ true → (i : ℕ) → i < slots → carries (state_for s run e.entry.state) i ≡ true → TrackSlot (cycle_frames s) (told_list (stream_of run (state_for s run e.entry.state) i)) (servers i).events (entry_slot e.entry i)
  pub lawful : is_mixed e.entry.cycle ≡ true → (i : ℕ) → i < slots → carries (state_for s run e.entry.state) i ≡ true → marks.streams (slot_of (state_for s run e.entry.state) i).track ≡ true
      → (let k = told_list (stream_of run (state_for s run e.entry.state) i) in let slot = entry_slot e.entry i in
      (servers i).events ≡ k.events ++ cycle_events (cycle_frames s) k slot (lawful_front (cycle_frames s) k slot))

module _ (s : Session) (marks : Marks) (run : Run) (n : NormalState) (f g : MixerState) (e : EntrySeen) (shared : TellsShared s run n f) (fast : TellsFast s run f) (adds : AddsCycle f g e.entry) (finds : FindsTold s marks run f e) where
  abbrev x : FastState
  x = state_for s run e.entry.state

  abbrev before : Found
  before = found f.observer f.pipe

  abbrev really : Found
  really = found g.observer g.pipe

  abbrev after : Found
  after = record { pipe = really.pipe; servers = finds.servers }

  abbrev legal : LegalCycle f.frames (adopted_states f) f.log.entries (length f.log.frames) before really e.entry
  legal = adds.legal

  state_is : (y : FastState) → state_of run.states e.entry.state ≡ Some y → x ≡ y
  state_is y is = state_known s run e.entry.state y is

  -- the slots of a mix are those that the run finds
  mixes_x : is_mixed e.entry.cycle ≡ true → Mixes (cycle_frames s) x (frames_before run) before really e.entry → Mixes (cycle_frames s) x (frames_before run) (found_for run x) after e.entry
  mixes_x mixed m = record {
    whole = m.whole;
    submix = subst (λ (es : List ServerEvent). SubmixSlot (cycle_frames s) es after.pipe (entry_slot e.entry 0)) shared.takes m.submix;
    tracks = finds.tracks mixed;
    others = m.others;
    placed = m.placed;
    scales = m.scales;
    mono = m.mono;
  }

  mixes_told : (y : FastState) → state_of run.states e.entry.state ≡ Some y → is_mixed e.entry.cycle ≡ true → Mixes (cycle_frames s) y (frames_before run) (found_for run x) after e.entry
  mixes_told y is mixed =
      let here : x ≡ y = state_is y is in
      let old : Mixes f.frames y (length f.log.frames) before really e.entry = legal.mixes y (sym finds.same ∙ is) mixed in
      let now : Mixes (cycle_frames s) x (frames_before run) before really e.entry =
      subst (λ (z : ℕ × FastState × ℕ). Mixes z.0 z.1 z.2 before really e.entry) (λ j. (fast.frames j, sym here j, fast.logged j)) old in
      subst (λ (z : FastState). Mixes (cycle_frames s) z (frames_before run) (found_for run x) after e.entry) here (mixes_x mixed now)

  -- the entry by itself is legal
  pub cycle_legal : LegalCycle (cycle_frames s) run.states run.entries (frames_before run) (found_for run x) after e.entry
  cycle_legal =
      let follows : (last_used run.entries ≤ e.entry.state) × (e.entry.state ≤ last_used run.entries + 1) =
      subst (λ (es : List CycleEntry). (last_used es ≤ e.entry.state) × (e.entry.state ≤ last_used es + 1)) fast.entries legal.follows in
      record {
        follows = follows;
        pushed = (let a = legal.pushed in let b = finds.few in omega (arith, a, b));
        runs = ap has_exit (sym fast.entries) ∙ legal.runs;
        what = legal.what ∙ ap (λ (es : List CycleEntry). cycle_of (cold_done (adopted_states f) es) (state_of (adopted_states f) e.entry.state)) fast.entries ∙ (λ j. cycle_of (sym finds.cold j) (sym finds.same j));
        still = legal.still;
        mixes = mixes_told;
      }

  -- the entry is legal with the pipe and the lawful blocks
  pub entry_legal : TellsShared s (with_mix s e run) n g → LegalEntry s marks run e
  entry_legal mixed = record { after = after; cycle = cycle_legal; pipe = mixed.takes; lawful = finds.lawful }
