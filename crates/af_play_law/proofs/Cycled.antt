-- The cycles of a turn of the fast mixer are the entries that they add, one after the other, each with its frames; a last one may find the log full and add none.
use Rattle.std.proofs.Common.{◌≡◌, ℕ, zero, suc, ◌==◌, ◌||◌, Bool, true, false, map, take, drop, List, [], ◌∷◌, ◌++◌, length, length-append, append-nil, append_assoc, refl, sym, ap, ◌∙◌, arith}
use Rattle.af_play_law.proofs.Common.{AddsCycle, Cycle, CycleEntry, CyclesOn, CyclesOnce, EntrySeen, Frame, Links, MixerState, drop-append_seam, entries_seen, entry_told, eqb-true, has_exit, is_mixed, is_over, slots, taken_before, taken_by}
use Rattle.af_play_law.proofs.CyclesGrow.{EndsGrow, grow_both, grow_none, once_grows}
use Rattle.af_play_law.proofs.RoundForm.{still_runs}

-- ## Cycles that add entries

-- a cycle that added this entry
pub record OneAdded (links : Links) (m : MixerState) (e : EntrySeen) (m' : MixerState) : Type 0 where
  pub answer : Cycle
  pub bytes : List ℕ
  pub once : CyclesOnce links m answer bytes m'
  pub on : is_over m ≡ false
  pub entry : CycleEntry
  pub adds : AddsCycle once.polled m' entry
  pub mixed : answer ≡ entry.cycle
  pub is : e ≡ entry_told m'.log.frames (length m.log.frames) entry

-- the cycles from m to m' add these entries, one after the other
abbrev pub CyclesAre : Links → List EntrySeen → MixerState → MixerState → Type 0
CyclesAre links [] m m' = m' ≡ m
CyclesAre links (e ∷ es) m m' = (next : MixerState) × OneAdded links m e next × CyclesAre links es next m'

-- the cycles of a turn: these entries, and then nothing is left except that no state waits for a mix
pub record CyclesOf (links : Links) (m m' : MixerState) : Type 0 where
  pub entries : List EntrySeen
  pub last : MixerState
  pub chain : CyclesAre links entries m last
  pub ends : m' ≡ record last { adopted = m'.adopted }

module _ (links : Links) where
  -- ## A turn

  -- the mixer at the end is the one before, but for the mark of an adopted state
  pub same_end : (m m' : MixerState) → m' ≡ m → m' ≡ record m { adopted = m'.adopted }
  same_end m m' is = λ j. record (is j) { adopted = m'.adopted }

  pub none_added : (m m' : MixerState) → m' ≡ record m { adopted = m'.adopted } → CyclesOf links m m'
  none_added m m' is = record { entries = []; last = m; chain = refl; ends = is }

  one_added : (m next m' : MixerState) (e : EntrySeen) → OneAdded links m e next → CyclesOf links next m' → CyclesOf links m m'
  one_added m next m' e one rest = record { entries = e ∷ rest.entries; last = rest.last; chain = (next, one, rest.chain); ends = rest.ends }

  module _ (m next m' : MixerState) (answer : Cycle) (bytes : List ℕ) (w : CyclesOnce links m answer bytes next) (runs : m.exited ≡ false) (stops : is_mixed answer ≡ false → m' ≡ next) where
    -- the turn's cycles if the log was full
    over_then : length m.log.entries ≡ m.cycles → (length m.log.entries == m.cycles) ≡ true → CyclesOf links m m'
    over_then all full =
        let over : is_over m ≡ true = (λ j. runs j || full j) in
        let exited : w.polled.exited ≡ false = ap (λ (f : MixerState). f.exited) w.adopts.same ∙ runs in
        let filled : length w.polled.log.entries ≡ w.polled.cycles = ap (λ (f : MixerState). length f.log.entries) w.adopts.same ∙ all ∙ sym (ap (λ (f : MixerState). f.cycles) w.adopts.same) in
        let end = w.mixes.spent exited filled in
        let total : m' ≡ record m { adopted = false } = stops (ap is_mixed end.0) ∙ end.1 ∙ ap (λ (f : MixerState). let g : MixerState = record f { adopted = false } in g) (w.adopts.rests over) in
        none_added m m' (λ j. record (total j) { adopted = m'.adopted })

    -- the turn's cycles if the log had room
    added_then : has_exit m.log.entries ≡ false → is_over m ≡ false → (b : Bool) → is_mixed answer ≡ b → ((next.exited ≡ false) × (has_exit next.log.entries ≡ false) → is_mixed answer ≡ true → CyclesOf links next m') → CyclesOf links m m'
    added_then none on b mixes rest = by_mix b mixes
      where
        added : (entry : CycleEntry) × (answer ≡ entry.cycle) × AddsCycle w.polled next entry
        added = let a = w.mixes.adds (ap is_over w.adopts.same ∙ on) in (a.0, a.1, a.2)

        grown : next.log.entries ≡ m.log.entries ++ added.0 ∷ []
        grown = added.2.entries ∙ ap (λ (f : MixerState). f.log.entries ++ added.0 ∷ []) w.adopts.same

        one : OneAdded links m (entry_told next.log.frames (length m.log.frames) added.0) next
        one = record { answer = answer; bytes = bytes; once = w; on = on; entry = added.0; adds = added.2; mixed = added.1; is = refl }

        by_mix : (b : Bool) → is_mixed answer ≡ b → CyclesOf links m m'
        by_mix true mixed = one_added m next m' (entry_told next.log.frames (length m.log.frames) added.0) one (rest (still_runs links m next answer bytes added.0 w none (sym (ap is_mixed added.1) ∙ mixed) grown) mixed)
        by_mix false dry = one_added m next m' (entry_told next.log.frames (length m.log.frames) added.0) one (none_added next m' (same_end next m' (stops dry)))

  pub cycles_of : (left : ℕ) (m : MixerState) (bytes : List ℕ) (m' : MixerState) → m.exited ≡ false → has_exit m.log.entries ≡ false → CyclesOn links left m bytes m' → CyclesOf links m m'
  cycles_of zero m bytes m' runs none turn = none_added m m' (same_end m m' turn.1)
  cycles_of (suc left) m bytes m' runs none turn =
      by_full (length m.log.entries == m.cycles) refl (λ (goes : (turn.1.exited ≡ false) × (has_exit turn.1.log.entries ≡ false)) (mixed : is_mixed turn.0 ≡ true). cycles_of left turn.1 turn.3 m' goes.0 goes.1 (turn.6 mixed))
    where
      stops : is_mixed turn.0 ≡ false → m' ≡ turn.1
      stops dry = (turn.7 dry).1

      by_full : (b : Bool) → (length m.log.entries == m.cycles) ≡ b → ((turn.1.exited ≡ false) × (has_exit turn.1.log.entries ≡ false) → is_mixed turn.0 ≡ true → CyclesOf links turn.1 m') → CyclesOf links m m'
      by_full true full rest = over_then m turn.1 m' turn.0 turn.2 turn.4 runs stops (eqb-true (length m.log.entries) m.cycles full) full
      by_full false room rest = added_then m turn.1 m' turn.0 turn.2 turn.4 runs stops none (λ j. runs j || room j) (is_mixed turn.0) refl rest

  -- ## What the cycles leave

  -- the lists of the ends grow by the cycles
  pub chain_grows : (es : List EntrySeen) (m m' : MixerState) → CyclesAre links es m m' → EndsGrow m m'
  chain_grows [] m m' c = grow_none m m' (ap (λ (f : MixerState). f.observer.past.events) c) (ap (λ (f : MixerState). f.writer.events) c) (ap (λ (f : MixerState). f.pipe.pass.part.events) c)
  chain_grows (e ∷ es) m m' (next, one, c) = grow_both m next m' (once_grows links m next one.answer one.bytes one.once) (chain_grows es next m' c)

  -- the log grows by the entries of the cycles
  pub chain_entries : (es : List EntrySeen) (m m' : MixerState) → CyclesAre links es m m' → m'.log.entries ≡ m.log.entries ++ map (λ (e : EntrySeen). e.entry) es
  chain_entries [] m m' c = ap (λ (f : MixerState). f.log.entries) c ∙ sym (append-nil m.log.entries)
  chain_entries (e ∷ es) m m' (next, one, c) =
      let here : next.log.entries ≡ m.log.entries ++ e.entry ∷ [] = one.adds.entries ∙ ap (λ (f : MixerState). f.log.entries ++ one.entry ∷ []) one.once.adopts.same ∙ ap (λ (x : EntrySeen). m.log.entries ++ x.entry ∷ []) (sym one.is) in
      chain_entries es next m' c ∙ ap (λ (l : List CycleEntry). l ++ map (λ (x : EntrySeen). x.entry) es) here ∙ append_assoc m.log.entries (e.entry ∷ []) (map (λ (x : EntrySeen). x.entry) es)

  -- the frames that the first cycle took
  abbrev more_of : (m next : MixerState) (e : EntrySeen) → OneAdded links m e next → List Frame
  more_of m next e one = one.adds.takes.grown.0

  frames_one : (m next : MixerState) (e : EntrySeen) (one : OneAdded links m e next) → next.log.frames ≡ m.log.frames ++ more_of m next e one
  frames_one m next e one = one.adds.takes.grown.1 ∙ ap (λ (f : MixerState). f.log.frames ++ more_of m next e one) one.once.adopts.same

  pub chain_frames : (es : List EntrySeen) (m m' : MixerState) → CyclesAre links es m m' → (more : List Frame) × (m'.log.frames ≡ m.log.frames ++ more)
  chain_frames [] m m' c = ([], ap (λ (f : MixerState). f.log.frames) c ∙ sym (append-nil m.log.frames))
  chain_frames (e ∷ es) m m' (next, one, c) =
      let rest = chain_frames es next m' c in
      (more_of m next e one ++ rest.0, rest.1 ∙ ap (λ (l : List Frame). l ++ rest.0) (frames_one m next e one) ∙ append_assoc m.log.frames (more_of m next e one) rest.0)

  -- ## The entries with their frames

  -- what a log has past some frames that it begins with
  past_first : (frames first rest : List Frame) → frames ≡ first ++ rest → drop (length first) frames ≡ rest
  past_first frames first rest is = ap (drop (length first)) is ∙ drop-append_seam first rest

  first_of : (first rest : List Frame) → take (length first) (first ++ rest) ≡ first
  first_of [] rest = refl
  first_of (f ∷ first) rest = ap (λ (fs : List Frame). f ∷ fs) (first_of first rest)

  module _ (m next t : MixerState) (e : EntrySeen) (one : OneAdded links m e next) (rest : List Frame) (grows : t.log.frames ≡ next.log.frames ++ rest) where
    abbrev more : List Frame
    more = more_of m next e one

    long_taken : length more ≡ taken_before one.entry slots
    long_taken =
        let total = one.adds.takes.total in
        let sum = ap (λ (fs : List Frame). length fs) one.adds.takes.grown.1 ∙ length-append one.once.polled.log.frames more in
        omega (arith, total, sum)

    long_more : length more ≡ taken_by one.entry
    unfolding taken_by
    long_more = long_taken

    whole : t.log.frames ≡ m.log.frames ++ (more ++ rest)
    whole = grows ∙ ap (λ (fs : List Frame). fs ++ rest) (frames_one m next e one) ∙ append_assoc m.log.frames more rest

    head_frames : take (taken_by one.entry) (drop (length m.log.frames) t.log.frames) ≡ take (taken_by one.entry) (drop (length m.log.frames) next.log.frames)
    head_frames =
        ap (take (taken_by one.entry)) (past_first t.log.frames m.log.frames (more ++ rest) whole)
        ∙ ap (λ (n : ℕ). take n (more ++ rest)) (sym long_more) ∙ first_of more rest
        ∙ sym (first_of more []) ∙ ap (take (length more)) (append-nil more)
        ∙ ap (λ (n : ℕ). take n more) long_more
        ∙ ap (take (taken_by one.entry)) (sym (past_first next.log.frames m.log.frames more (frames_one m next e one)))

    tail_frames : drop (taken_by one.entry) (drop (length m.log.frames) t.log.frames) ≡ drop (length next.log.frames) t.log.frames
    tail_frames =
        ap (drop (taken_by one.entry)) (past_first t.log.frames m.log.frames (more ++ rest) whole)
        ∙ ap (λ (n : ℕ). drop n (more ++ rest)) (sym long_more) ∙ drop-append_seam more rest
        ∙ sym (past_first t.log.frames next.log.frames rest grows)

    seen_is : e ≡ entry_told t.log.frames (length m.log.frames) one.entry
    seen_is = one.is ∙ (λ j. record { entry = one.entry; frames = sym head_frames j })

    seen_first : (es : List CycleEntry) → e ∷ entries_seen (drop (length next.log.frames) t.log.frames) es ≡ entries_seen (drop (length m.log.frames) t.log.frames) (one.entry ∷ es)
    seen_first es = λ j. seen_is j ∷ entries_seen (sym tail_frames j) es

  -- the entries of the cycles are those by which the log grew
  pub chain_seen : (es : List EntrySeen) (m t : MixerState) → CyclesAre links es m t → es ≡ entries_seen (drop (length m.log.frames) t.log.frames) (map (λ (e : EntrySeen). e.entry) es)
  chain_seen [] m t c = refl
  chain_seen (e ∷ es) m t (next, one, c) =
      let grows = chain_frames es next t c in
      ap (λ (l : List EntrySeen). e ∷ l) (chain_seen es next t c)
      ∙ seen_first m next t e one grows.0 grows.1 (map (λ (x : EntrySeen). x.entry) es)
      ∙ ap (λ (x : EntrySeen). entries_seen (drop (length m.log.frames) t.log.frames) (x.entry ∷ map (λ (x : EntrySeen). x.entry) es)) (sym one.is)

  -- ## Cycles in two parts

  pub record TwoParts (k : ℕ) (es : List EntrySeen) (m m' : MixerState) : Type 0 where
    pub between : MixerState
    pub front : CyclesAre links (take k es) m between
    pub back : CyclesAre links (drop k es) between m'

  pub chain_parts : (k : ℕ) (es : List EntrySeen) (m m' : MixerState) → CyclesAre links es m m' → TwoParts k es m m'
  chain_parts zero es m m' c = record { between = m; front = refl; back = c }
  chain_parts (suc k) [] m m' c = record { between = m; front = refl; back = c }
  chain_parts (suc k) (e ∷ es) m m' (next, one, c) = let parts = chain_parts k es next m' c in record { between = parts.between; front = (next, one, parts.front); back = parts.back }
