-- The entries that a turn of the fast mixer added are those of a turn: each but the last is Mixed, and there are as many as it may make, or the last isn't Mixed, or the log is full.
use Rattle.std.proofs.Common.{◌≡◌, ◌⊎◌, inl, inr, ⊎_elim, ℕ, zero, suc, ◌<◌, ◌≤◌, ◌==◌, ◌||◌, Bool, true, false, List, [], ◌∷◌, ◌++◌, length, map, append-nil, append_assoc, refl, sym, ap, subst, ◌∙◌, arith}
use Rattle.af_play_law.proofs.Common.{AreMixedBut, Cycle, CycleEntry, CyclesOn, CyclesOnce, EntrySeen, IsFastTurn, Links, MixerState, eqb-true, has_exit, has_exit-push, is_mixed, length-map, no_exit}
use Rattle.af_audit.proofs.Basics.{seen_map}

-- ## Forms

-- the log has all of its entries
abbrev pub IsFull : MixerState → Type 0
IsFull m = length m.log.entries ≡ m.cycles

-- each entry but the last is Mixed, and Last holds of the last
abbrev pub ButLast : (CycleEntry → Type 0) → List CycleEntry → Type 0
ButLast Last [] = ⊥
ButLast Last (e ∷ []) = Last e
ButLast Last (e ∷ next ∷ es) = (is_mixed e.cycle ≡ true) × ButLast Last (next ∷ es)

-- why the last of so many entries is the last
abbrev pub LastOf : ℕ → ℕ → MixerState → CycleEntry → Type 0
LastOf left count m e = (count ≡ left) ⊎ (is_mixed e.cycle ≡ false) ⊎ IsFull m

-- what so many cycles may have added
abbrev pub Form : ℕ → MixerState → List CycleEntry → Type 0
Form left m [] = (left ≡ 0) ⊎ IsFull m
Form left m (e ∷ es) = ButLast (LastOf left (length (e ∷ es)) m) (e ∷ es)

but_map : (P Q : CycleEntry → Type 0) (es : List CycleEntry) → ((e : CycleEntry) → P e → Q e) → ButLast P es → ButLast Q es
but_map P Q [] h b = b
but_map P Q (e ∷ []) h b = h e b
but_map P Q (e ∷ next ∷ es) h b = (b.0, but_map P Q (next ∷ es) h b.1)

-- the form with one mixed entry in front
cons_form : (left : ℕ) (m : MixerState) (e : CycleEntry) (es : List CycleEntry) → is_mixed e.cycle ≡ true → Form left m es → Form (suc left) m (e ∷ es)
cons_form left m e [] mixed (inl none) = inl (omega (arith, none))
cons_form left m e [] mixed (inr full) = inr (inr full)
cons_form left m e (next ∷ es) mixed form = (
  mixed,
  but_map (LastOf left (length (next ∷ es)) m) (LastOf (suc left) (length (e ∷ next ∷ es)) m) (next ∷ es)
      (λ last why. ⊎_elim (λ (all : length (next ∷ es) ≡ left). inl (omega (arith, all))) (λ (other : (is_mixed last.cycle ≡ false) ⊎ IsFull m). inr other) why) form,
)

-- the form of entries with their frames
form_seen : (P : CycleEntry → Type 0) (es : List EntrySeen) → ButLast P (map (λ (e : EntrySeen). e.entry) es) → AreMixedBut (λ (e : EntrySeen). P e.entry) es
form_seen P [] b = b
form_seen P (e ∷ []) b = b
form_seen P (e ∷ next ∷ es) b = (b.0, form_seen P (next ∷ es) b.1)

-- ## Cycles

-- what one cycle of a mixer that hasn't exited did: none with a full log, or one entry
abbrev pub OnceDid : MixerState → Cycle → MixerState → Type 0
OnceDid m answer next = ((is_mixed answer ≡ false) × (next.log.entries ≡ m.log.entries) × IsFull next) ⊎ ((entry : CycleEntry) × (answer ≡ entry.cycle) × (next.log.entries ≡ m.log.entries ++ entry ∷ []))

module _ (links : Links) where
  once_did : (m next : MixerState) (answer : Cycle) (bytes : List ℕ) → m.exited ≡ false → CyclesOnce links m answer bytes next → OnceDid m answer next
  once_did m next answer bytes runs w = by_full (length w.polled.log.entries == w.polled.cycles) refl
    where
      exited : w.polled.exited ≡ false
      exited = ap (λ (y : MixerState). y.exited) w.adopts.same ∙ runs

      same : w.polled.log.entries ≡ m.log.entries
      same = ap (λ (y : MixerState). y.log.entries) w.adopts.same

      by_full : (b : Bool) → (length w.polled.log.entries == w.polled.cycles) ≡ b → OnceDid m answer next
      by_full true full =
          let whole : IsFull w.polled = eqb-true (length w.polled.log.entries) w.polled.cycles full in
          let end = w.mixes.spent exited whole in
          inl (ap is_mixed end.0, ap (λ (y : MixerState). y.log.entries) end.1 ∙ same, subst IsFull (sym end.1) whole)
      by_full false room =
          let added = w.mixes.adds (λ j. exited j || room j) in
          inr (added.0, added.1, added.2.entries ∙ ap (λ (l : List CycleEntry). l ++ added.0 ∷ []) same)

  -- what the cycles of a turn added, from m on
  pub record CyclesAdded (left : ℕ) (m m' : MixerState) : Type 0 where
    pub added : List CycleEntry
    pub entries : m'.log.entries ≡ m.log.entries ++ added
    pub few : length added ≤ left
    pub form : Form left m' added
    pub sizes : m'.cycles ≡ m.cycles

  after_one : (left : ℕ) (m next m' : MixerState) (e : CycleEntry) → is_mixed e.cycle ≡ true → next.log.entries ≡ m.log.entries ++ e ∷ [] → next.cycles ≡ m.cycles → CyclesAdded left next m' → CyclesAdded (suc left) m m'
  after_one left m next m' e mixed one sizes rest = record {
    added = e ∷ rest.added;
    entries = rest.entries ∙ ap (λ (l : List CycleEntry). l ++ rest.added) one ∙ append_assoc m.log.entries (e ∷ []) rest.added;
    few = (let l = rest.few in omega (arith, l));
    form = cons_form left m' e rest.added mixed rest.form;
    sizes = rest.sizes ∙ sizes;
  }

  -- a mixer that hasn't exited goes on so after a mixed entry
  pub still_runs : (m next : MixerState) (answer : Cycle) (bytes : List ℕ) (e : CycleEntry) → CyclesOnce links m answer bytes next → has_exit m.log.entries ≡ false → is_mixed e.cycle ≡ true → next.log.entries ≡ m.log.entries ++ e ∷ [] → (next.exited ≡ false) × (has_exit next.log.entries ≡ false)
  still_runs m next answer bytes e w none mixed one =
      let no : has_exit next.log.entries ≡ false = ap has_exit one ∙ has_exit-push m.log.entries e ∙ (λ j. none j || no_exit e.cycle mixed j) in
      (w.mixed_in.0.keeps.exited_is ∙ no, no)

  pub cycles_added : (left : ℕ) (m : MixerState) (bytes : List ℕ) (m' : MixerState) → m.exited ≡ false → has_exit m.log.entries ≡ false → CyclesOn links left m bytes m' → CyclesAdded left m m'
  cycles_added zero m bytes m' runs none turn = record {
    added = [];
    entries = ap (λ (y : MixerState). y.log.entries) turn.1 ∙ sym (append-nil m.log.entries);
    few = omega arith;
    form = inl refl;
    sizes = ap (λ (y : MixerState). y.cycles) turn.1;
  }
  cycles_added (suc left) m bytes m' runs none turn =
      ⊎_elim
      (λ (over : (is_mixed turn.0 ≡ false) × (turn.1.log.entries ≡ m.log.entries) × IsFull turn.1).
      let still : m' ≡ turn.1 = (turn.7 over.0).1 in
      record {
        added = [];
        entries = ap (λ (y : MixerState). y.log.entries) still ∙ over.1 ∙ sym (append-nil m.log.entries);
        few = omega arith;
        form = inr (subst IsFull (sym still) over.2);
        sizes = ap (λ (y : MixerState). y.cycles) still ∙ turn.4.sizes.1;
      })
      (λ (one : (entry : CycleEntry) × (turn.0 ≡ entry.cycle) × (turn.1.log.entries ≡ m.log.entries ++ entry ∷ [])).
      by_mix (is_mixed turn.0) refl one
      (λ (goes : (turn.1.exited ≡ false) × (has_exit turn.1.log.entries ≡ false)) (mixed : is_mixed turn.0 ≡ true). cycles_added left turn.1 turn.3 m' goes.0 goes.1 (turn.6 mixed)))
      (once_did m turn.1 turn.0 turn.2 runs turn.4)
    where
      by_mix : (b : Bool) → is_mixed turn.0 ≡ b → (one : (entry : CycleEntry) × (turn.0 ≡ entry.cycle) × (turn.1.log.entries ≡ m.log.entries ++ entry ∷ []))
          → ((turn.1.exited ≡ false) × (has_exit turn.1.log.entries ≡ false) → is_mixed turn.0 ≡ true → CyclesAdded left turn.1 m') → CyclesAdded (suc left) m m'
      by_mix true mixed one goes =
          let here : is_mixed one.0.cycle ≡ true = sym (ap is_mixed one.1) ∙ mixed in
          after_one left m turn.1 m' one.0 here one.2 turn.4.sizes.1 (goes (still_runs m turn.1 turn.0 turn.2 one.0 turn.4 none here one.2) mixed)
      by_mix false dry one goes =
          let still : m' ≡ turn.1 = (turn.7 dry).1 in
          record {
            added = one.0 ∷ [];
            entries = ap (λ (y : MixerState). y.log.entries) still ∙ one.2;
            few = omega arith;
            form = inr (inl (sym (ap is_mixed one.1) ∙ dry));
            sizes = ap (λ (y : MixerState). y.cycles) still ∙ turn.4.sizes.1;
          }

  -- Such entries with their frames are those of a turn, if the log had room before; `full` is true if it has none left
  pub turn_form : (cycles : ℕ) (m m' : MixerState) (all : CyclesAdded cycles m m') (es : List EntrySeen) (full : Bool) → 1 ≤ cycles → length m.log.entries < m.cycles → map (λ (e : EntrySeen). e.entry) es ≡ all.added → (IsFull m' → full ≡ true) → IsFastTurn cycles full es
  turn_form cycles m m' all es full some room same is_full = (
    (let l = all.few in let n = long in omega (arith, l, n)),
    whole es same,
  )
    where
      long : length es ≡ length all.added
      long = sym (length-map es (λ (e : EntrySeen). e.entry)) ∙ ap (λ (l : List CycleEntry). length l) same

      none_full : (added : List CycleEntry) → added ≡ all.added → added ≡ [] → ⊥
      none_full added is none = ⊎_elim (λ (zero_left : cycles ≡ 0). omega (arith, zero_left, some))
          (λ (full' : IsFull m'). let n = ap (λ (l : List CycleEntry). length l) (all.entries ∙ ap (λ (l : List CycleEntry). m.log.entries ++ l) (sym is ∙ none) ∙ append-nil m.log.entries) in let c = all.sizes in omega (arith, full', n, c, room))
          (subst (Form cycles m') (sym is ∙ none) all.form)

      whole : (seen : List EntrySeen) → map (λ (e : EntrySeen). e.entry) seen ≡ all.added → AreMixedBut (λ (last : EntrySeen). (length es ≡ cycles) ⊎ (is_mixed last.entry.cycle ≡ false) ⊎ (full ≡ true)) seen
      whole [] is = none_full [] is refl
      whole (e ∷ seen) is =
          let form : ButLast (LastOf cycles (length (map (λ (e : EntrySeen). e.entry) (e ∷ seen))) m') (map (λ (e : EntrySeen). e.entry) (e ∷ seen)) = subst (Form cycles m') (sym is) all.form in
          let count : length (map (λ (e : EntrySeen). e.entry) (e ∷ seen)) ≡ length es = ap (λ (l : List CycleEntry). length l) is ∙ sym long in
          seen_map (λ (last : EntrySeen). LastOf cycles (length (map (λ (e : EntrySeen). e.entry) (e ∷ seen))) m' last.entry) (λ (last : EntrySeen). (length es ≡ cycles) ⊎ (is_mixed last.entry.cycle ≡ false) ⊎ (full ≡ true)) (e ∷ seen)
          (λ last why. ⊎_elim (λ (all_made : length (map (λ (e : EntrySeen). e.entry) (e ∷ seen)) ≡ cycles). inl (sym count ∙ all_made))
          (λ (other : (is_mixed last.entry.cycle ≡ false) ⊎ IsFull m'). inr (⊎_elim (λ (dry : is_mixed last.entry.cycle ≡ false). inl dry) (λ (f : IsFull m'). inr (is_full f)) other)) why)
          (form_seen (LastOf cycles (length (map (λ (e : EntrySeen). e.entry) (e ∷ seen))) m') (e ∷ seen) form)
