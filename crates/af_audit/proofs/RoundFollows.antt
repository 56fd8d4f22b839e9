-- What is kept of a run follows a round, step by step.
use Rattle.std.specs.Prelude.{◌↔◌}
use Rattle.std.proofs.Common.{◌≡◌, inl, ℕ, suc, ◌+◌, ◌≤◌, Bool, true, false, IsTrue, List, [], ◌∷◌, length, map, take, drop, Option, Some, None, cond, nat_le, arith, refl, sym, ap, subst, ◌∙◌}
use Rattle.af_audit.proofs.Common.{AreFormed, AreOfPushed, BesideQueue, CycleEntry, EntrySeen, FastOf, FastState, Frame, KeepsPlaying, KeepsTracks, LegalNormalTurn, Marks, NormalKept, NormalOf, Playing, QueueGoes, QueueOf, ReportKept, RoundSeen, Run, Session, TrackJudge, Turn, after_turn, all_played, before_turn, beside_called, beside_loaded, calls_in, calls_same, calls_states, cycles_beside, drop-map, early_count, early_of, entries_beside, entries_go, entries_in, entries_keep, entries_leave, entries_queue, fast_round, fast_same, fits_of, fits_same, formed_front, frames_before, goes_called, is_early, late_of, loaded, loaded_same, nat_tests, playing, prefix_len, queue_loaded, take-map, with_calls, with_cycles, with_load}
use Rattle.af_audit.specs.declared.run_judge.RunJudge.{RunJudge}
use Rattle.af_audit.specs.RoundTold as told
use Rattle.af_audit.specs.RoundTold.{begun}
use Rattle.af_audit.proofs.Words.{loaded_if}
use Rattle.af_audit.specs.RunKept.{CallsJudged, KeepsRun}
use Rattle.af_audit.proofs.Words.{IsLegalCaller}
use Rattle.af_audit.proofs.CallsFollow.{calls_follow}

-- ## The entries of a round

prefix-map : (P : CycleEntry → Bool) (es : List EntrySeen) → prefix_len P (map (λ e. e.entry) es) ≡ prefix_len (λ e. P e.entry) es
prefix-map P [] = refl
prefix-map P (e ∷ es) = ap (λ n. cond (P e.entry) (1 + n) 0) (prefix-map P es)

module _ (j : RunJudge) (run : Run) (round : RoundSeen) (states : j.normal.states ≡ run.states) where
  -- as many come before the turn as in the run
  early-count : told.early_of j (map (λ e. e.entry) round.entries) ≡ early_count run round
  early-count = prefix-map (λ entry. nat_le entry.state (length j.normal.states)) round.entries ∙ ap (λ (xs : List FastState). prefix_len (λ (e : EntrySeen). nat_le e.entry.state (length xs)) round.entries) states

  pub early_bare : take (told.early_of j (map (λ e. e.entry) round.entries)) (map (λ e. e.entry) round.entries) ≡ map (λ e. e.entry) (early_of run round)
  early_bare = ap (λ n. take n (map (λ e. e.entry) round.entries)) early-count ∙ take-map (λ (e : EntrySeen). e.entry) (early_count run round) round.entries

  pub late_bare : drop (told.early_of j (map (λ e. e.entry) round.entries)) (map (λ e. e.entry) round.entries) ≡ map (λ e. e.entry) (late_of run round)
  late_bare = ap (λ n. drop n (map (λ e. e.entry) round.entries)) early-count ∙ drop-map (λ (e : EntrySeen). e.entry) (early_count run round) round.entries

-- the first entries have states that were pushed
pushed-first : (run : Run) (es : List EntrySeen) → AreOfPushed (length run.states) (take (prefix_len (is_early run) es) es)
pushed-first run [] = tt
pushed-first run (e ∷ es) = by_case (is_early run e) refl (pushed-first run es)
  where
    by_case : (b : Bool) → is_early run e ≡ b → AreOfPushed (length run.states) (take (prefix_len (is_early run) es) es) → AreOfPushed (length run.states) (take (cond b (1 + prefix_len (is_early run) es) 0) (e ∷ es))
    by_case true is rest =
        let low : e.entry.state ≤ length run.states = grind (arith, nat_tests, is) in
        let next : suc (prefix_len (is_early run) es) ≡ 1 + prefix_len (is_early run) es = omega arith in
        subst (λ (n : ℕ). AreOfPushed (length run.states) (take n (e ∷ es))) next (low, rest)
    by_case false is rest = tt

pub early_pushed : (run : Run) (round : RoundSeen) → AreOfPushed (length run.states) (early_of run round)
early_pushed run round = pushed-first run round.entries

-- ## From before the round to before the turn

calls-normal : (round : RoundSeen) (run : Run) → (with_calls round run).normal ≡ run.normal
unfolding with_calls
calls-normal round run = refl

module _ (s : Session) (marks : Marks) (round : RoundSeen) (run : Run) (frames : List Frame) (j : RunJudge) (tracks called : List TrackJudge) (caller : Option ℕ) (keeps : KeepsRun s marks j tracks run) (many : length called ≡ length tracks)
    (calls : CallsJudged (length tracks) s.script.tracks s.files (calls_in round) tracks called caller) (formed : AreFormed frames (frames_before run) round.entries) where
  abbrev start : Run
  start = with_calls round run

  pub first_keeps : KeepsPlaying s marks (IsLegalCaller run round) run.reports (playing (begun j.fast) called) start
  first_keeps = record {
    fast = fast_same s run.reports run start (begun j.fast) (calls_same round run) (fast_round s keeps.earlier run j.fast keeps.fast);
    tracks = calls_follow s marks run round tracks called caller keeps.of_tracks keeps.fit many calls;
    draft = keeps.draft ∙ ap (λ (m : NormalKept). m.draft) (sym (calls-normal round run));
    fits = fits_same s run start (calls_states round run) (calls-normal round run) (fits_of s run keeps.states);
  }

  -- what is kept once the early entries were followed
  abbrev pub early : Playing
  early = entries_leave run.states frames (entries_in (early_of run round)) (playing (begun j.fast) called)

  formed-early : AreFormed frames (frames_before run) (early_of run round)
  formed-early = formed_front frames (frames_before run) (early_count run round) round.entries formed

  by-states : (P : List FastState → Type 0) → P start.states → P run.states
  by-states P h = subst P (calls_states round run) h

  pub early_keeps : KeepsPlaying s marks (IsLegalCaller run round) run.reports early (before_turn s run round)
  early_keeps = by-states (λ (xs : List FastState). KeepsPlaying s marks (IsLegalCaller run round) run.reports (entries_leave xs frames (entries_in (early_of run round)) (playing (begun j.fast) called)) (before_turn s run round))
      (entries_keep s marks (IsLegalCaller run round) run.reports frames (early_of run round) (playing (begun j.fast) called) start (frames_before run) formed-early first_keeps)

  pub early_goes : QueueGoes s (before_turn s run round) early.fast.queue
  early_goes = by-states (λ (xs : List FastState). QueueGoes s (before_turn s run round) (entries_leave xs frames (entries_in (early_of run round)) (playing (begun j.fast) called)).fast.queue)
      (entries_go s marks (IsLegalCaller run round) run.reports frames (early_of run round) (playing (begun j.fast) called) start (frames_before run) formed-early
      (subst (λ (xs : List FastState). AreOfPushed (length xs) (early_of run round)) (sym (calls_states round run)) (early_pushed run round)) first_keeps (goes_called s round run j.fast.queue keeps.queue))

  pub early_beside : BesideQueue s (before_turn s run round) j.report early.fast.pipe
  early_beside = by-states (λ (xs : List FastState). BesideQueue s (before_turn s run round) j.report (entries_leave xs frames (entries_in (early_of run round)) (playing (begun j.fast) called)).fast.pipe)
      (entries_beside s marks (IsLegalCaller run round) run.reports frames (early_of run round) (playing (begun j.fast) called) start j.report (frames_before run) formed-early keeps.unloaded (beside_called s round run j.report j.fast.pipe keeps.beside))

-- ## From behind the turn to the meetings

-- what is kept behind the turn: the tracks and the fast mixer, the normal mixer, what both share if the turn was legal, and the report that it loaded
pub record KeepsTurned (s : Session) (marks : Marks) (round : RoundSeen) (run : Run) (r : ReportKept) (right : Bool) (k : RunJudge) (between : List TrackJudge) : Type 0 where
  pub kept : KeepsPlaying s marks (IsLegalCaller run round) run.reports (playing k.fast between) (after_turn s run round)
  pub normal : NormalOf s (after_turn s run round) k.normal
  pub legal : IsTrue right ↔ LegalNormalTurn s marks run round
  pub goes : LegalNormalTurn s marks run round → QueueGoes s (after_turn s run round) k.fast.queue
  pub beside : LegalNormalTurn s marks run round → BesideQueue s (after_turn s run round) r k.fast.pipe
  pub reported : k.report ≡ loaded_if round.turn r

module _ (s : Session) (marks : Marks) (round : RoundSeen) (run : Run) (frames : List Frame) (r : ReportKept) (right : Bool) (k : RunJudge) (between : List TrackJudge) (place : ℕ) (keeps : KeepsTurned s marks round run r right k between) (unloaded : r.loaded ≡ None)
    (formed : AreFormed frames place (late_of run round)) where
  -- what is kept once the late entries were followed
  abbrev pub late : Playing
  late = entries_leave (after_turn s run round).states frames (entries_in (late_of run round)) (playing k.fast between)

  abbrev told_late : Run
  told_late = with_cycles s (late_of run round) (after_turn s run round)

  late-keeps : KeepsPlaying s marks (IsLegalCaller run round) run.reports late told_late
  late-keeps = entries_keep s marks (IsLegalCaller run round) run.reports frames (late_of run round) (playing k.fast between) (after_turn s run round) place formed keeps.kept

  -- the tracks that are kept once the report was loaded
  loaded-tracks : (o : Option Turn) → KeepsTracks s marks (IsLegalCaller run round) late.tracks told_late → KeepsTracks s marks (IsLegalCaller run round) late.tracks (loaded o told_late)
  unfolding with_load
  loaded-tracks None h = h
  loaded-tracks (Some e) h = record { many = h.many; all = h.all; served = h.served; whole = h.whole }

  pub played_tracks : KeepsTracks s marks (IsLegalCaller run round) late.tracks (all_played s run round)
  played_tracks = loaded-tracks round.turn late-keeps.tracks

  pub played_fast : FastOf s run.reports (all_played s run round) late.fast
  played_fast = fast_same s run.reports told_late (loaded round.turn told_late) late.fast (loaded_same round.turn told_late) late-keeps.fast

  -- the fast mixer's judge has the draft that the turn left
  pub played_draft : late.fast.told.draft ≡ k.normal.plain.kept.draft
  played_draft =
      let l = late-keeps in
      let b = cycles_beside s (late_of run round) (after_turn s run round) in
      let h = keeps.normal in
      l.draft ∙ ap (λ (m : NormalKept). m.draft) (b.normal ∙ sym h.kept)

  loaded-queue : (o : Option Turn) → QueueOf s told_late late.fast.queue → QueueOf s (loaded o told_late) late.fast.queue
  loaded-queue None h = h
  loaded-queue (Some e) h = queue_loaded s e told_late late.fast.queue h

  pub played_queue : LegalNormalTurn s marks run round → QueueOf s (all_played s run round) late.fast.queue
  played_queue legal = loaded-queue round.turn (entries_queue s marks (IsLegalCaller run round) run.reports frames (late_of run round) (playing k.fast between) (after_turn s run round) place formed keeps.kept (inl (keeps.goes legal)))

  loaded-beside : (o : Option Turn) → BesideQueue s told_late r late.fast.pipe → BesideQueue s (loaded o told_late) (loaded_if o r) late.fast.pipe
  loaded-beside None h = h
  loaded-beside (Some e) h = beside_loaded s e told_late r late.fast.pipe unloaded h

  pub played_beside : LegalNormalTurn s marks run round → BesideQueue s (all_played s run round) k.report late.fast.pipe
  played_beside legal = subst (λ (x : ReportKept). BesideQueue s (all_played s run round) x late.fast.pipe) (sym keeps.reported)
      (loaded-beside round.turn (entries_beside s marks (IsLegalCaller run round) run.reports frames (late_of run round) (playing k.fast between) (after_turn s run round) r place formed unloaded (keeps.beside legal)))

  -- the normal mixer is as the turn left it
  loaded-normal : (o : Option Turn) → NormalOf s told_late k.normal → NormalOf s (loaded o told_late) k.normal
  unfolding with_load
  loaded-normal None h = h
  loaded-normal (Some e) h = record { judged = h.judged; setup = h.setup; kept = h.kept; states = h.states; handed = h.handed }

  pub played_normal : NormalOf s (all_played s run round) k.normal
  played_normal =
      let b = cycles_beside s (late_of run round) (after_turn s run round) in
      let h = keeps.normal in
      loaded-normal round.turn (record { judged = h.judged; setup = h.setup; kept = h.kept ∙ sym b.normal; states = h.states ∙ sym b.states; handed = h.handed ∙ sym b.handed })
