-- The entries that a scribe notes, one after the other.
use Rattle.std.proofs.Common.{◌≡◌, ℕ, zero, suc, ◌+◌, ◌≤◌, Bool, true, false, List, [], ◌∷◌, ◌++◌, length, drop, refl, sym, ap, ◌∙◌, subst, arith, append_assoc, length-append}
use Rattle.af_side_by_side.proofs.Common.{CycleEntry, HasNoted, Logs, MixerState, Note, Noted, NotedBy, Refused, Sent, WriterState, accepted, append-nil, count_refused, drop-append-le, drop-append_seam, entry_at, kept, length-drop, note_of, notes_kept, refusals, writer_made}
use Rattle.af_cblk.specs.declared.view.ClientPart.{ClientPart}

-- ## One entry

-- what is left of a list at its last entry is that entry alone
pub at_last : (es : List CycleEntry) (n : ℕ) → n + 1 ≡ length es → drop n es ≡ entry_at es n ∷ []
at_last [] n is = absurd (omega arith)
at_last (e ∷ []) zero is = refl
at_last (e ∷ []) (suc n) is = absurd (omega arith)
at_last (e ∷ f ∷ es) zero is = absurd (omega arith)
at_last (e ∷ f ∷ es) (suc n) is = at_last (f ∷ es) n (omega arith)

-- the last entry of a log was noted: it was accepted or refused
pub logged_one : (answer : Noted) (first : ℕ) (m : MixerState) (w w' : WriterState) (entry : CycleEntry) → drop first m.log.entries ≡ entry ∷ [] → first + 1 ≡ length m.log.entries
    → NotedBy w.pass.part (note_of first entry m.frames) answer w'.pass.part → accepted w' ≡ accepted w ++ kept answer (note_of first entry m.frames) → w'.refused ≡ w.refused + refusals answer → writer_made w' ≡ writer_made w
    → Logs first m w w'
logged_one Sent first m w w' entry last all by notes refused made =
    record {
      outcomes = true ∷ [];
      noted = (note_of first entry m.frames, w'.pass.part, by, refl);
      each = all;
      notes = notes ∙ ap (λ (es : List CycleEntry). accepted w ++ notes_kept m.frames first es (true ∷ [])) (sym last);
      refused = refused;
      made = made;
    }
logged_one (Refused sent known) first m w w' entry last all by notes refused made =
    record {
      outcomes = false ∷ [];
      noted = (note_of first entry m.frames, sent, known, w'.pass.part, by, refl);
      each = all;
      notes = notes ∙ ap (λ (es : List CycleEntry). accepted w ++ notes_kept m.frames first es (false ∷ [])) (sym last);
      refused = refused;
      made = made;
    }

-- without outcomes no notes are kept
pub none_kept : (frames place : ℕ) (es : List CycleEntry) → notes_kept frames place es [] ≡ []
none_kept frames place [] = refl
none_kept frames place (e ∷ es) = refl

-- if no entry was added, none was noted
pub logged_none : (m : MixerState) (w : WriterState) → Logs (length m.log.entries) m w w
logged_none m w =
    record {
      outcomes = [];
      noted = refl;
      each = omega arith;
      notes = sym (append-nil (accepted w)) ∙ ap (λ (ns : List Note). accepted w ++ ns) (sym (none_kept m.frames (length m.log.entries) (drop (length m.log.entries) m.log.entries)));
      refused = omega arith;
      made = refl;
    }

-- ## Entries behind others

-- outcomes that were noted in two steps were noted one behind the other
noted_more : (first more : List Bool) (p q r : ClientPart) → HasNoted p first q → HasNoted q more r → HasNoted p (first ++ more) r
noted_more [] more p q r a b = subst (λ (x : ClientPart). HasNoted x more r) a b
noted_more (true ∷ first) more p q r a b = (a.0, a.1, a.2, noted_more first more a.1 q r a.3 b)
noted_more (false ∷ first) more p q r a b = (a.0, a.1, a.2, a.3, a.4, noted_more first more a.3 q r a.5 b)

-- the notes kept of two lists of entries, joined end to end, are those of both, joined end to end
pub kept_more : (frames place : ℕ) (es fs : List CycleEntry) (first more : List Bool) → length es ≡ length first → notes_kept frames place (es ++ fs) (first ++ more) ≡ notes_kept frames place es first ++ notes_kept frames (place + length es) fs more
kept_more frames place [] fs [] more same = ap (λ (n : ℕ). notes_kept frames n fs more) (let e : place ≡ place + 0 = omega arith in e)
kept_more frames place [] fs (o ∷ first) more same = absurd (omega arith)
kept_more frames place (e ∷ es) fs [] more same = absurd (omega arith)
kept_more frames place (e ∷ es) fs (true ∷ first) more same =
    ap (λ (ns : List Note). note_of place e frames ∷ ns)
    (kept_more frames (place + 1) es fs first more (omega arith) ∙ ap (λ (n : ℕ). notes_kept frames (place + 1) es first ++ notes_kept frames n fs more) (let s : place + 1 + length es ≡ place + suc (length es) = omega arith in s))
kept_more frames place (e ∷ es) fs (false ∷ first) more same =
    kept_more frames (place + 1) es fs first more (omega arith) ∙ ap (λ (n : ℕ). notes_kept frames (place + 1) es first ++ notes_kept frames n fs more) (let s : place + 1 + length es ≡ place + suc (length es) = omega arith in s)

-- each entry is accepted or refused
pub kept_count : (frames place : ℕ) (es : List CycleEntry) (outcomes : List Bool) → length es ≡ length outcomes → length (notes_kept frames place es outcomes) + count_refused outcomes ≡ length es
kept_count frames place [] [] same = refl
kept_count frames place [] (o ∷ outcomes) same = absurd (omega arith)
kept_count frames place (e ∷ es) [] same = absurd (omega arith)
kept_count frames place (e ∷ es) (true ∷ outcomes) same = let rest = kept_count frames (place + 1) es outcomes (omega arith) in omega arith
kept_count frames place (e ∷ es) (false ∷ outcomes) same = let rest = kept_count frames (place + 1) es outcomes (omega arith) in omega arith

-- the refusals of two lists of outcomes, joined end to end, are those of both together
pub refused_more : (first more : List Bool) → count_refused (first ++ more) ≡ count_refused first + count_refused more
refused_more [] more = omega arith
refused_more (true ∷ first) more = refused_more first more
refused_more (false ∷ first) more = let e = refused_more first more in omega arith

-- if a log grew, its new entries were noted behind those before
pub logged_more : (a : ℕ) (m m' : MixerState) (more : List CycleEntry) (w v u : WriterState) → a ≤ length m.log.entries → m'.frames ≡ m.frames → m'.log.entries ≡ m.log.entries ++ more → Logs a m w v → Logs (length m.log.entries) m' v u → Logs a m' w u
logged_more a m m' more w v u within frames grown one two =
    let n : ℕ = length m.log.entries in
    let es : List CycleEntry = drop a m.log.entries in
    let front : drop a m'.log.entries ≡ es ++ more = ap (drop a) grown ∙ drop-append-le a m.log.entries more within in
    let back : drop n m'.log.entries ≡ more = ap (drop n) grown ∙ drop-append_seam m.log.entries more in
    let long = length-drop a m.log.entries in
    let first = one.each in
    let second = two.each in
    let both = length-append one.outcomes two.outcomes in
    let same : length es ≡ length one.outcomes = omega arith in
    let place : a + length es ≡ n = omega arith in
    let kept_first : notes_kept m.frames a es one.outcomes ≡ notes_kept m'.frames a es one.outcomes = ap (λ (f : ℕ). notes_kept f a es one.outcomes) (sym frames) in
    let kept_all : notes_kept m'.frames a (drop a m'.log.entries) (one.outcomes ++ two.outcomes) ≡ notes_kept m'.frames a es one.outcomes ++ notes_kept m'.frames n more two.outcomes =
    ap (λ (x : List CycleEntry). notes_kept m'.frames a x (one.outcomes ++ two.outcomes)) front
    ∙ kept_more m'.frames a es more one.outcomes two.outcomes same
    ∙ ap (λ (p : ℕ). notes_kept m'.frames a es one.outcomes ++ notes_kept m'.frames p more two.outcomes) place in
    let count = refused_more one.outcomes two.outcomes in
    let refused_first = one.refused in
    let refused_second = two.refused in
    record {
      outcomes = one.outcomes ++ two.outcomes;
      noted = noted_more one.outcomes two.outcomes w.pass.part v.pass.part u.pass.part one.noted two.noted;
      each = omega arith;
      notes =
          two.notes
          ∙ ap (λ (x : List CycleEntry). accepted v ++ notes_kept m'.frames n x two.outcomes) back
          ∙ ap (λ (ns : List Note). ns ++ notes_kept m'.frames n more two.outcomes) (one.notes ∙ ap (λ (ns : List Note). accepted w ++ ns) kept_first)
          ∙ append_assoc (accepted w) (notes_kept m'.frames a es one.outcomes) (notes_kept m'.frames n more two.outcomes)
          ∙ ap (λ (ns : List Note). accepted w ++ ns) (sym kept_all);
      refused = omega arith;
      made = two.made ∙ one.made;
    }
