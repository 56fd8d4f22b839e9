-- What the scribe of a log notes of the cycles of a turn.
use Rattle.std.proofs.Common.{◌≡◌, ℕ, ◌-◌, ◌<◌, ◌≤◌, false, MatchOption, Option, Some, None, List, [], ◌∷◌, ◌++◌, length, refl, sym, ap, subst, ◌∙◌, append-nil, arith}
use Rattle.af_side_by_side.proofs.Common.{Cycle, CycleEntry, CyclesOnce, Frame, HasLogged, Links, Logged, Logs, MixDoes, MixerState, ScribeState, WriterState, adopted_states, entry_at, get_or_push, length-append, length_push, mix_does, mix_enters, mix_idles, no_entry, polled_keeps}
use Rattle.af_fast.specs.Slots.{found}
use Rattle.af_model.specs.JournalForm.{is_spent}
use Rattle.af_model.proofs.EntryForms.{entry_form}
use Rattle.af_side_by_side.proofs.LogNotes.{logged_more, logged_none}

-- ## What a cycle adds

-- a cycle adds nothing to the log, or one entry that doesn't say that the log is full
pub data AddsUpToOne (m m' : MixerState) : Type 0 where
  adds_nothing : m'.log.entries ≡ m.log.entries → AddsUpToOne m m'
  adds_entry : (entry : CycleEntry) → m'.log.entries ≡ m.log.entries ++ entry ∷ [] → is_spent entry.cycle ≡ false → AddsUpToOne m m'

-- a poll adds no entry, so a poll and a mix add at most one
by_mix : (m p m' : MixerState) (out out' : List Frame) (answer : Cycle) → p.log ≡ m.log → MixDoes p m' out out' answer → AddsUpToOne m m'
by_mix m p m' out out' answer same (mix_idles still dry) = adds_nothing (ap (λ (y : MixerState). y.log.entries) still ∙ ap (λ (l : Logged). l.entries) same)
by_mix m p m' out out' answer same (mix_enters entry is a w) = adds_entry entry (a.entries ∙ ap (λ (l : Logged). l.entries ++ entry ∷ []) same)
    (entry_form p.frames (adopted_states p) p.log.entries (length p.log.frames) (found p.observer p.pipe) (found m'.observer m'.pipe) entry a.legal).kept

-- a cycle adds at most one entry
pub cycle_adds_up_to_one : (links : Links) (m m' : MixerState) (answer : Cycle) (bytes : List ℕ) → CyclesOnce links m answer bytes m' → AddsUpToOne m m'
cycle_adds_up_to_one links m m' answer bytes w = by_mix m w.polled m' w.before w.after answer (polled_keeps m w.polled w.adopts).0
    (mix_does w.polled m' w.before w.after answer w.mixes)

-- a log to which at most one entry was added has its entries before, and perhaps more behind them
pub grown_by : (m m' : MixerState) → AddsUpToOne m m' → (more : List CycleEntry) × (m'.log.entries ≡ m.log.entries ++ more)
grown_by m m' (adds_nothing is) = ([], is ∙ sym (append-nil m.log.entries))
grown_by m m' (adds_entry entry is kept) = (entry ∷ [], is)

-- a log to which at most one entry was added is no shorter
pub no_shorter : (m m' : MixerState) → AddsUpToOne m m' → length m.log.entries ≤ length m'.log.entries
no_shorter m m' adds = let more = grown_by m m' adds in omega (arith, ap length more.1 ∙ length-append m.log.entries more.0)

-- a log that got longer has one entry more
pub one_longer : (m m' : MixerState) → AddsUpToOne m m' → length m.log.entries < length m'.log.entries → length m'.log.entries - 1 ≡ length m.log.entries
one_longer m m' (adds_nothing is) longer = absurd (omega (arith, ap length is))
one_longer m m' (adds_entry entry is kept) longer = omega (arith, ap length is ∙ length_push m.log.entries entry)

-- the last entry of a log that got longer doesn't say that the log is full
pub last_kept : (m m' : MixerState) → AddsUpToOne m m' → length m.log.entries < length m'.log.entries → is_spent (entry_at m'.log.entries (length m'.log.entries - 1)).cycle ≡ false
last_kept m m' (adds_nothing is) longer = absurd (omega (arith, ap length is))
last_kept m m' (adds_entry entry is kept) longer =
    ap (λ (es : List CycleEntry). is_spent (entry_at es (length es - 1)).cycle) is
    ∙ ap (λ (e : CycleEntry). is_spent e.cycle) (get_or_push m.log.entries entry no_entry (length (m.log.entries ++ entry ∷ []) - 1) (omega (arith, length_push m.log.entries entry)))
    ∙ kept

-- ## What the scribe notes

-- if no entry was added, the scribe noted none
pub noted_none : (first : ℕ) (m : MixerState) (s : ScribeState) → first ≡ length m.log.entries → HasLogged first m s s
noted_none first m s same = by_end s.end refl
  where
    by_end : (o : Option WriterState) → s.end ≡ o → MatchOption o (s ≡ s) (λ w. (w' : WriterState) × (s.end ≡ Some w') × Logs first m w w')
    by_end None is = refl
    by_end (Some w) is = (w, is, subst (λ (n : ℕ). Logs n m w w) (sym same) (logged_none m w))

-- the entries of one step more are noted behind those noted before
pub noted_more : (first : ℕ) (m m' : MixerState) (s v u : ScribeState) → first ≤ length m.log.entries → m'.frames ≡ m.frames → AddsUpToOne m m' → HasLogged first m s v → HasLogged (length m.log.entries) m' v u → HasLogged first m' s u
noted_more first m m' s v u within frames adds one two = by_end s.end refl one
  where
    by_end : (o : Option WriterState) → s.end ≡ o → MatchOption o (v ≡ s) (λ w. (w' : WriterState) × (v.end ≡ Some w') × Logs first m w w') → MatchOption o (u ≡ s) (λ w. (w' : WriterState) × (u.end ≡ Some w') × Logs first m' w w')
    by_end None is same =
        let none : v.end ≡ None = ap (λ (x : ScribeState). x.end) same ∙ is in
        subst (λ (o : Option WriterState). MatchOption o (u ≡ v) (λ w. (w' : WriterState) × (u.end ≡ Some w') × Logs (length m.log.entries) m' w w')) none two ∙ same
    by_end (Some w) is noted =
        let next = subst (λ (o : Option WriterState). MatchOption o (u ≡ v) (λ w. (w' : WriterState) × (u.end ≡ Some w') × Logs (length m.log.entries) m' w w')) noted.1 two in
        let grown = grown_by m m' adds in
        (next.0, next.1, logged_more first m m' grown.0 w noted.0 next.0 within frames grown.1 noted.2 next.2)
