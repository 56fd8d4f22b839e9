-- Entries are read one after the other.
use Rattle.std.proofs.Common.{◌≡◌, ℕ, ◌+◌, ◌≤◌, List, [], ◌∷◌, ◌++◌, length, map, ap, ◌∙◌, sym, subst, arith, append-nil, append_assoc, length-append}
use Rattle.af_journal.proofs.Common.{AreEntries, CycleEntry, EntrySeen, Frame, IsEntry, flat_map-append, frames_of, kind_of, length-map, map_last}
use Rattle.af_journal.specs.declared.line.Line.TheVariants as line
use Rattle.af_journal.specs.Lines.{numbers}
use Rattle.af_journal.specs.Taken.{AddsEntries, AddsEntry, Leaves, more_lines}
use Rattle.af_journal.specs.Texts.{entry_lines}
use Rattle.af_journal.proofs.Leaving.{leaves-as, leaves-then}

-- entries keep their form as others follow
pub entries-append : (place : ℕ) (es more : List EntrySeen) → AreEntries place es → AreEntries (place + length (frames_of es)) more → AreEntries place (es ++ more)
entries-append place [] more are m = subst (λ n. AreEntries n more) (let e : place + 0 ≡ place = omega arith in e) m
entries-append place (e ∷ es) more are m =
    let n = length-append e.frames (frames_of es) in
    (are.0, are.1, are.2, entries-append (place + length e.frames) es more are.3 (subst (λ n. AreEntries n more) (let h : place + length (e.frames ++ frames_of es) ≡ place + length e.frames + length (frames_of es) = omega arith in h) m))

-- no entries
pub adds-none : (entries : List CycleEntry) (frames : List Frame) → AddsEntries entries frames [] entries frames
adds-none entries frames = record { entries_are = sym (append-nil entries); frames_are = sym (append-nil frames); form = tt }

-- one more entry is added
pub adds-more : (entries es : List CycleEntry) (frames fs next : List Frame) (seen : List EntrySeen) (e : EntrySeen) → AddsEntries entries frames seen es fs → AddsEntry fs e next → AddsEntries entries frames (seen ++ e ∷ []) (es ++ e.entry ∷ []) next
adds-more entries es frames fs next seen e a b =
    let place : length fs ≡ length frames + length (frames_of seen) = ap length a.frames_are ∙ length-append frames (frames_of seen) in
    let form : IsEntry (length frames + length (frames_of seen)) e.entry = subst (λ n. IsEntry n e.entry) place b.form in
    record {
      entries_are = ap (λ l. l ++ e.entry ∷ []) a.entries_are ∙ append_assoc entries (map (λ (e : EntrySeen). e.entry) seen) (e.entry ∷ []) ∙ ap (λ l. entries ++ l) (sym (map_last (λ (e : EntrySeen). e.entry) seen e));
      frames_are = b.frames_are ∙ ap (λ l. l ++ e.frames) a.frames_are ∙ append_assoc frames (frames_of seen) e.frames
          ∙ ap (λ l. frames ++ l) (ap (λ l. frames_of seen ++ l) (sym (append-nil e.frames)) ∙ sym (flat_map-append (λ (e : EntrySeen). e.frames) seen (e ∷ [])));
      form = entries-append (length frames) seen (e ∷ []) a.form (form, b.count, b.samples, tt);
    }

-- the lines of an entry
pub leaves-entry : (a b d : List ℕ) (state kind : ℕ) (e : EntrySeen) → (e.entry.state ≡ state) × (kind_of e.entry.cycle ≡ kind) → Leaves a (numbers (line.Entry state kind) ∷ []) b → Leaves b (more_lines e) d → Leaves a (entry_lines e) d
leaves-entry a b d state kind e is one two =
    leaves-as a d (numbers (line.Entry state kind) ∷ more_lines e) (entry_lines e) (λ k. numbers (line.Entry (sym is.0 k) (sym is.1 k)) ∷ more_lines e)
    (leaves-then a b d (numbers (line.Entry state kind) ∷ []) (more_lines e) one two)

-- how many were added
pub adds-count : (entries es : List CycleEntry) (frames fs : List Frame) (seen : List EntrySeen) → AddsEntries entries frames seen es fs → length es ≡ length entries + length seen
adds-count entries es frames fs seen a = ap length a.entries_are ∙ length-append entries (map (λ (e : EntrySeen). e.entry) seen) ∙ ap (λ n. length entries + n) (length-map seen (λ (e : EntrySeen). e.entry))
