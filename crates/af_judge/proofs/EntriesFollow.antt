-- What is kept of a run follows some entries, which are right exactly if they are legal.
use Rattle.std.proofs.Common.{◌≡◌, ◌↔◌, ℕ, ◌+◌, sym, ap, ◌∙◌, subst, map, List, [], ◌∷◌, ◌++◌, append-nil, append_assoc, arith}
use Rattle.af_judge.proofs.Common.{CycleEntry, EntrySeen, FastState, Frame, IsEntry, LegalEntries, LegalEntry, Marks, NormalKept, Report, Run, Session, cycle_entries, frames_before, sum_by, sum_by-append, sum_by-cons, taken_by, with_cycle, with_cycles, with_poll}
use Rattle.af_judge.specs.Entries.{FastOf}
use Rattle.af_judge.proofs.Words.{StandsIn}
use Rattle.af_judge.specs.EntriesTold.{AreEntriesRight, IsRightAfter, Playing, entries_leave, entry_leaves}
use Rattle.af_judge.proofs.Words.{AreFormed}
use Rattle.af_judge.specs.RunTold.{KeepsTracks}
use Rattle.af_judge.proofs.Words.{StatesFit}
use Rattle.af_judge.proofs.EntryTold.{SameBeside, beside_both, cycle_beside, entry_exact, fast_follows, fits_follow, same_beside, tracks_follow}

-- the entries of the log
abbrev pub entries_in : List EntrySeen → List CycleEntry
entries_in es = map (λ e. e.entry) es

-- ## The log of a run

pub cycles_entries : (s : Session) (es : List EntrySeen) (run : Run) → (with_cycles s es run).entries ≡ run.entries ++ entries_in es
cycles_entries s [] run = sym (append-nil run.entries)
cycles_entries s (e ∷ es) run =
    cycles_entries s es (with_cycle s run e) ∙ (ap (λ (xs : List CycleEntry). xs ++ entries_in es) (cycle_entries s run e) ∙ append_assoc run.entries (e.entry ∷ []) (entries_in es))

pub cycles_beside : (s : Session) (es : List EntrySeen) (run : Run) → SameBeside run (with_cycles s es run)
cycles_beside s [] run = same_beside run
cycles_beside s (e ∷ es) run = beside_both run (with_cycle s run e) (with_cycles s es (with_cycle s run e)) (cycle_beside s run e) (cycles_beside s es (with_cycle s run e))

frames-more : (s : Session) (run : Run) (e : EntrySeen) → frames_before (with_cycle s run e) ≡ frames_before run + taken_by e.entry
frames-more s run e = ap (sum_by taken_by) (cycle_entries s run e) ∙ sum_by-append taken_by run.entries (e.entry ∷ []) ∙ (let one = sum_by-cons taken_by e.entry [] in omega (arith, one))

-- ## One entry after the other

-- what is kept of a run within a round
pub record KeepsPlaying (s : Session) (marks : Marks) (W : ℕ → Type 0) (earlier : List Report) (p : Playing) (run : Run) : Type 0 where
  pub fast : FastOf s earlier run p.fast
  pub draft : p.fast.told.draft ≡ run.normal.draft
  pub tracks : KeepsTracks s marks W p.tracks run
  pub fits : StatesFit s run

-- what is kept follows an entry
pub entry_keeps : (s : Session) (marks : Marks) (W : ℕ → Type 0) (earlier : List Report) (frames : List Frame) (p : Playing) (run : Run) (e : EntrySeen) → StandsIn frames e → KeepsPlaying s marks W earlier p run
    → KeepsPlaying s marks W earlier (entry_leaves run.states frames e.entry p) (with_cycle s run e)
unfolding entry_leaves
entry_keeps s marks W earlier frames p run e stands keeps = record {
  fast = fast_follows s marks W earlier run e p.fast frames p.tracks keeps.fits stands keeps.fast keeps.draft keeps.tracks;
  draft = (let b = cycle_beside s run e in keeps.draft ∙ ap (λ (m : NormalKept). m.draft) (sym b.normal));
  tracks = tracks_follow s marks W earlier run e p.fast frames p.tracks keeps.fits stands keeps.fast keeps.draft keeps.tracks;
  fits = fits_follow s marks W earlier run e p.fast frames p.tracks keeps.fits stands keeps.fast keeps.draft keeps.tracks;
}

-- an entry is right exactly if it is legal
pub entry_right : (s : Session) (marks : Marks) (W : ℕ → Type 0) (earlier : List Report) (frames : List Frame) (p : Playing) (run : Run) (e : EntrySeen) → StandsIn frames e → IsEntry (frames_before run) e.entry → KeepsPlaying s marks W earlier p run
    → IsRightAfter run.states frames e.entry p ↔ LegalEntry s marks (with_poll s e.entry.state run) e
unfolding IsRightAfter
entry_right s marks W earlier frames p run e stands form keeps = entry_exact s marks W earlier run e p.fast frames p.tracks keeps.fits stands keeps.fast keeps.draft keeps.tracks form

-- ## Some entries

-- what is kept follows some entries
pub entries_keep : (s : Session) (marks : Marks) (W : ℕ → Type 0) (earlier : List Report) (frames : List Frame) (es : List EntrySeen) (p : Playing) (run : Run) (place : ℕ) → AreFormed frames place es → KeepsPlaying s marks W earlier p run
    → KeepsPlaying s marks W earlier (entries_leave run.states frames (entries_in es) p) (with_cycles s es run)
entries_keep s marks W earlier frames [] p run place formed keeps = keeps
entries_keep s marks W earlier frames (e ∷ es) p run place formed keeps =
    let same : (with_cycle s run e).states ≡ run.states = let b = cycle_beside s run e in b.states in
    let here = entry_keeps s marks W earlier frames p run e formed.0 keeps in
    let rest = entries_keep s marks W earlier frames es (entry_leaves run.states frames e.entry p) (with_cycle s run e) (place + taken_by e.entry) formed.2 here in
    subst (λ (xs : List FastState). KeepsPlaying s marks W earlier (entries_leave xs frames (entries_in es) (entry_leaves run.states frames e.entry p)) (with_cycles s es (with_cycle s run e))) same rest

-- all entries are right exactly if they are legal
pub entries_right : (s : Session) (marks : Marks) (W : ℕ → Type 0) (earlier : List Report) (frames : List Frame) (es : List EntrySeen) (p : Playing) (run : Run) → AreFormed frames (frames_before run) es → KeepsPlaying s marks W earlier p run
    → AreEntriesRight run.states frames (entries_in es) p ↔ LegalEntries s marks run es
entries_right s marks W earlier frames [] p run formed keeps = ((λ h. tt), (λ h. tt))
entries_right s marks W earlier frames (e ∷ es) p run formed keeps =
    let same : (with_cycle s run e).states ≡ run.states = let b = cycle_beside s run e in b.states in
    let here = entry_right s marks W earlier frames p run e formed.0 formed.1 keeps in
    let more = subst (λ (n : ℕ). AreFormed frames n es) (sym (frames-more s run e)) formed.2 in
    let rest = entries_right s marks W earlier frames es (entry_leaves run.states frames e.entry p) (with_cycle s run e) more (entry_keeps s marks W earlier frames p run e formed.0 keeps) in
    let Right : List FastState → Type 0 = λ xs. AreEntriesRight xs frames (entries_in es) (entry_leaves run.states frames e.entry p) in
    ((λ h. (here.0 h.0, rest.0 (subst Right (sym same) h.1))), (λ h. (here.1 h.0, subst Right same (rest.1 h.1))))
