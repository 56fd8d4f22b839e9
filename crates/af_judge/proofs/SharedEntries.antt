-- What is kept of the queue, the report and the pipe follows some entries, one after the other.
use Rattle.std.proofs.Common.{◌≡◌, inl, inr, ℕ, ◌+◌, ◌≤◌, true≢false, List, [], ◌∷◌, length, None, sym, ap, ◌∙◌, subst}
use Rattle.af_judge.proofs.Common.{EntrySeen, FastState, Frame, IsTurn, Marks, Report, Run, Session, Turn, taken_by, with_cycle, with_cycles}
use Rattle.af_judge.proofs.Words.{StandsIn}
use Rattle.af_judge.specs.EntriesTold.{Playing, entries_leave, entry_leaves}
use Rattle.af_judge.proofs.Words.{AreFormed}
use Rattle.af_judge.specs.QueueNumbers.{poll_steps, with_looks}
use Rattle.af_judge.specs.ReportKept.{ReportKept}
use Rattle.af_judge.specs.SharedTold.{BesideQueue, QueueGoes}
use Rattle.af_judge.proofs.Words.{QueueOf}
use Rattle.af_judge.proofs.EntriesFollow.{KeepsPlaying, entries_in, entry_keeps}
use Rattle.af_judge.proofs.EntryTold.{cycle_beside}
use Rattle.af_judge.proofs.QueueRun.{PushesOpen}
use Rattle.af_judge.proofs.SharedFollows.{beside_cycle, goes_cycle, queue_cycle}

-- a turn of its form that ended pushes nothing
pub form_opens : (tracks : ℕ) (e : Turn) → IsTurn tracks e → PushesOpen e
form_opens tracks e (inl is) ends = ap (λ (t : Turn). t.push) is
form_opens tracks e (inr form) ends = absurd (true≢false (sym ends ∙ form.open_is))

-- each of these entries is of a state that was pushed
abbrev pub AreOfPushed : ℕ → List EntrySeen → Type 0
AreOfPushed pushed [] = Unit {0}
AreOfPushed pushed (e ∷ es) = (e.entry.state ≤ pushed) × AreOfPushed pushed es

module _ (s : Session) (marks : Marks) (W : ℕ → Type 0) (earlier : List Report) (frames : List Frame) where
  -- an entry
  goes_entry : (p : Playing) (run : Run) (e : EntrySeen) → KeepsPlaying s marks W earlier p run → e.entry.state ≤ length run.states → QueueGoes s run p.fast.queue
      → QueueGoes s (with_cycle s run e) (entry_leaves run.states frames e.entry p).fast.queue
  unfolding entry_leaves
  goes_entry p run e keeps low h = subst (λ n. QueueGoes s (with_cycle s run e) (with_looks (poll_steps n e.entry.state) p.fast.queue)) (let f = keeps.fast in sym f.current) (goes_cycle s e run p.fast.queue low h)

  queue_entry : (p : Playing) (run : Run) (e : EntrySeen) → KeepsPlaying s marks W earlier p run → QueueOf s run p.fast.queue → QueueOf s (with_cycle s run e) (entry_leaves run.states frames e.entry p).fast.queue
  unfolding entry_leaves
  queue_entry p run e keeps h = subst (λ n. QueueOf s (with_cycle s run e) (with_looks (poll_steps n e.entry.state) p.fast.queue)) (let f = keeps.fast in sym f.current) (queue_cycle s e run p.fast.queue h)

  beside_entry : (p : Playing) (run : Run) (e : EntrySeen) (r : ReportKept) → StandsIn frames e → r.loaded ≡ None → BesideQueue s run r p.fast.pipe → BesideQueue s (with_cycle s run e) r (entry_leaves run.states frames e.entry p).fast.pipe
  unfolding entry_leaves
  beside_entry p run e r stands none h = beside_cycle s e run r p.fast.pipe frames stands none h

  -- entries of states that were pushed before
  pub entries_go : (es : List EntrySeen) (p : Playing) (run : Run) (place : ℕ) → AreFormed frames place es → AreOfPushed (length run.states) es → KeepsPlaying s marks W earlier p run → QueueGoes s run p.fast.queue
      → QueueGoes s (with_cycles s es run) (entries_leave run.states frames (entries_in es) p).fast.queue
  entries_go [] p run place formed low keeps h = h
  entries_go (e ∷ es) p run place formed low keeps h =
      let same : (with_cycle s run e).states ≡ run.states = let b = cycle_beside s run e in b.states in
      let rest = entries_go es (entry_leaves run.states frames e.entry p) (with_cycle s run e) (place + taken_by e.entry) formed.2 (subst (λ (xs : List FastState). AreOfPushed (length xs) es) (sym same) low.1)
      (entry_keeps s marks W earlier frames p run e formed.0 keeps) (goes_entry p run e keeps low.0 h) in
      subst (λ (xs : List FastState). QueueGoes s (with_cycles s es (with_cycle s run e)) (entries_leave xs frames (entries_in es) (entry_leaves run.states frames e.entry p)).fast.queue) same rest

  -- what is kept of the queue follows any entries
  pub entries_queue : (es : List EntrySeen) (p : Playing) (run : Run) (place : ℕ) → AreFormed frames place es → KeepsPlaying s marks W earlier p run → QueueOf s run p.fast.queue
      → QueueOf s (with_cycles s es run) (entries_leave run.states frames (entries_in es) p).fast.queue
  entries_queue [] p run place formed keeps h = h
  entries_queue (e ∷ es) p run place formed keeps h =
      let same : (with_cycle s run e).states ≡ run.states = let b = cycle_beside s run e in b.states in
      let rest = entries_queue es (entry_leaves run.states frames e.entry p) (with_cycle s run e) (place + taken_by e.entry) formed.2 (entry_keeps s marks W earlier frames p run e formed.0 keeps) (queue_entry p run e keeps h) in
      subst (λ (xs : List FastState). QueueOf s (with_cycles s es (with_cycle s run e)) (entries_leave xs frames (entries_in es) (entry_leaves run.states frames e.entry p)).fast.queue) same rest

  -- the report and the pipe
  pub entries_beside : (es : List EntrySeen) (p : Playing) (run : Run) (r : ReportKept) (place : ℕ) → AreFormed frames place es → r.loaded ≡ None → BesideQueue s run r p.fast.pipe
      → BesideQueue s (with_cycles s es run) r (entries_leave run.states frames (entries_in es) p).fast.pipe
  entries_beside [] p run r place formed none h = h
  entries_beside (e ∷ es) p run r place formed none h =
      let same : (with_cycle s run e).states ≡ run.states = let b = cycle_beside s run e in b.states in
      let rest = entries_beside es (entry_leaves run.states frames e.entry p) (with_cycle s run e) r (place + taken_by e.entry) formed.2 none (beside_entry p run e r formed.0 none h) in
      subst (λ (xs : List FastState). BesideQueue s (with_cycles s es (with_cycle s run e)) r (entries_leave xs frames (entries_in es) (entry_leaves run.states frames e.entry p)).fast.pipe) same rest
