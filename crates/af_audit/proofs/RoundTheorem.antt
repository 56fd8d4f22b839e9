-- A round that the judge has followed is judged exactly: the least party that isn't clear is found, or none, and then what is kept is kept of the run after the round.
use Rattle.std.specs.Prelude.{◌↔◌}
use Rattle.std.proofs.Common.{◌≡◌, ℕ, zero, suc, ◌+◌, ◌<◌, Bool, true, IsTrue, List, [], ◌∷◌, ◌++◌, length, map, take, drop, Option, Some, None, arith, refl, sym, ap, subst, ◌∙◌, append-nil, append_assoc, unwrap_or}
use Rattle.af_audit.proofs.Common.{All-get_or, AreEntriesRight, AreFormed, BesideQueue, CycleEntry, EntrySeen, FastKept, FastOf, FastState, Frame, IsFastLegal, IsJournal, IsRound, IsScript, IsTurn, JournalData, KeepsPlaying, KeepsTracks, LegalNormalTurn, Marks, MatchOption, NormalJudged, NormalKept, NormalOf, Playing, QueueGoes, QueueOf, ReportKept, RoundSeen, Run, SameBeside, Session, StatesKept, TrackJudge, Turn, after_round, after_turn, all_ended, all_played, before_same, before_turn, cycles_beside, early_count, early_of, early_used, entries_in, entries_leave, entries_of, entry_at, fast_judged, fast_round, fits_of, formed_rest, frames_before, frames_of, is_none, kept_after_turn, kept_round, late_of, loaded, map-append, marks_of, new_run, no_entry, no_round, playing, round_at, round_entries, round_entries_at, round_formed, run_from, slice_get, slice_index_or, sum_by, taken_by, track_count, with_calls, with_cycles, with_load}
use Rattle.af_audit.specs.declared.run_judge.Found.{Found}
use Rattle.af_audit.specs.declared.run_judge.RunJudge.{RunJudge}
use Rattle.af_audit.specs.RoundTold.{RoundPlayed, TurnIfTold, begun}
use Rattle.af_audit.specs.RunKept.{JudgesRound, KeepsRun, LeastBelow, least_found, party_ended, run_before}
use Rattle.af_audit.proofs.Words.{IsLegalCaller}
use Rattle.af_audit.proofs.CallsFollow.{caller_found}
use Rattle.af_audit.proofs.PartiesEnded.{all_is}
use Rattle.af_audit.proofs.RoundFollows.{KeepsTurned, early, early_bare, early_beside, early_goes, early_keeps, first_keeps, late, late_bare, played_beside, played_draft, played_fast, played_normal, played_queue, played_tracks}
use Rattle.af_audit.proofs.RoundJudged.{kept_so, least_so}
use Rattle.af_audit.proofs.TurnKept.{kept_turned}

-- ## The log

-- the log of a run has the entries of its rounds
run-entries : (s : Session) (rounds : List RoundSeen) (run : Run) → (run_from s run rounds).entries ≡ run.entries ++ entries_in (entries_of rounds)
run-entries s [] run = sym (append-nil run.entries)
run-entries s (r ∷ rounds) run =
    run-entries s rounds (after_round s run r)
    ∙ (ap (λ (es : List CycleEntry). es ++ entries_in (entries_of rounds)) (round_entries s run r)
    ∙ (append_assoc run.entries (entries_in r.entries) (entries_in (entries_of rounds)) ∙ ap (λ (es : List CycleEntry). run.entries ++ es) (sym (map-append (λ (e : EntrySeen). e.entry) r.entries (entries_of rounds)))))

-- the entry at a place of a part of a list
part-at : (log own : List CycleEntry) (first n i : ℕ) (x : CycleEntry) → take n (drop first log) ≡ own → slice_get own i ≡ Some x → entry_at log (first + i) ≡ x
part-at log own first n i x is at = in_drop log first i x (in_take (drop first log) n i x (ap (λ (l : List CycleEntry). slice_get l i) is ∙ at))
  where
    in_take : (l : List CycleEntry) (n i : ℕ) (x : CycleEntry) → slice_get (take n l) i ≡ Some x → slice_get l i ≡ Some x
    in_take [] zero i x at = at
    in_take [] (suc n) i x at = at
    in_take (y ∷ l) zero i x at = absurd (let h : None ≡ Some x = at in let z : ⊥ = cc in z)
    in_take (y ∷ l) (suc n) zero x at = at
    in_take (y ∷ l) (suc n) (suc i) x at = in_take l n i x at

    in_drop : (l : List CycleEntry) (first i : ℕ) (x : CycleEntry) → slice_get (drop first l) i ≡ Some x → slice_index_or l (first + i) no_entry ≡ x
    in_drop [] zero i x at = absurd (let h : None ≡ Some x = at in let z : ⊥ = cc in z)
    in_drop [] (suc first) i x at = absurd (let h : None ≡ Some x = at in let z : ⊥ = cc in z)
    in_drop (y ∷ l) zero zero x at = ap (λ (o : Option CycleEntry). unwrap_or o y) at
    in_drop (y ∷ l) zero (suc i) x at = ap (λ (k : ℕ). slice_index_or (y ∷ l) k no_entry) (let e : 0 + suc i ≡ suc (0 + i) = omega arith in e) ∙ in_drop l zero i x at
    in_drop (y ∷ l) (suc first) i x at = ap (λ (k : ℕ). slice_index_or (y ∷ l) k no_entry) (let e : suc first + i ≡ suc (first + i) = omega arith in e) ∙ in_drop l first i x at

bare-at : (es : List EntrySeen) (i : ℕ) (e : EntrySeen) → slice_get es i ≡ Some e → slice_get (map (λ e. e.entry) es) i ≡ Some e.entry
bare-at [] i e at = absurd (let h : None ≡ Some e = at in let z : ⊥ = cc in z)
bare-at (x ∷ es) zero e at = ap (λ (o : Option EntrySeen). Some (unwrap_or o x).entry) at
bare-at (x ∷ es) (suc i) e at = bare-at es i e at

-- the load of a report leaves the normal mixer
loaded-states : (s : Session) (o : Option Turn) (r : Run) → StatesKept s r.normal r.states → StatesKept s (loaded o r).normal (loaded o r).states
unfolding with_load
loaded-states s None r h = h
loaded-states s (Some e) r h = h

-- ## The round

module _ (cut : Bool) (s : Session) (journal : JournalData) (frames : List Frame) (n : ℕ) (j k : RunJudge) (tracks after : List TrackJudge) (f : Found) (going : Option ℕ) (script : IsScript s.script) (form : IsJournal journal) (frames_are : frames_of (entries_of journal.rounds) ≡ frames)
    (inside : n < length journal.rounds) (as_many : journal.tracks ≡ length tracks) where
  abbrev run : Run
  run = run_before s journal.rounds n

  abbrev marks : Marks
  marks = marks_of journal.rounds

  abbrev round : RoundSeen
  round = round_at journal n

  abbrev log : List CycleEntry
  log = map (λ e. e.entry) (entries_of journal.rounds)

  abbrev first : ℕ
  first = length (entries_of (take n journal.rounds))

  place-is : sum_by taken_by (map (λ e. e.entry) (entries_of (take n journal.rounds))) ≡ frames_before run
  place-is = ap (sum_by taken_by) (sym (run-entries s (take n journal.rounds) (new_run s)))

  formed : AreFormed frames (frames_before run) round.entries
  formed = subst (λ (p : ℕ). AreFormed frames p round.entries) place-is (round_formed journal frames n form frames_are inside)

  in-log : (i : ℕ) (e : EntrySeen) → slice_get round.entries i ≡ Some e → entry_at log (first + i) ≡ e.entry
  in-log i e at = part-at log (map (λ e. e.entry) round.entries) first (length round.entries) i e.entry (round_entries_at journal n inside) (bare-at round.entries i e at)

  turn-form : (many : ℕ) → many ≡ length tracks → MatchOption round.turn (Unit {0}) (IsTurn many)
  turn-form many is = subst (λ (m : ℕ). MatchOption round.turn (Unit {0}) (IsTurn m)) (as_many ∙ sym is) (All-get_or (IsRound journal.tracks) journal.rounds n no_round inside form.rounds).turn

  module _ (keeps : KeepsRun s marks j tracks run) (p : RoundPlayed cut s.script.tracks s.files frames log first round j tracks f k after) where
    states-after : StatesKept s (after_turn s run round).normal (after_turn s run round).states
    states-after = kept_after_turn s script (length tracks) run round (turn-form (length tracks) refl) keeps.states

    states-round : StatesKept s (after_round s run round).normal (after_round s run round).states
    states-round = kept_round s script (length tracks) run round (turn-form (length tracks) refl) keeps.states

    states-played : StatesKept s (all_played s run round).normal (all_played s run round).states
    states-played = loaded-states s round.turn (with_cycles s (late_of run round) (after_turn s run round)) (subst (λ (x : NormalKept × List FastState). StatesKept s x.0 x.1) (λ i. (sym late-beside.normal i, sym late-beside.states i)) states-after)
      where
        late-beside : SameBeside (after_turn s run round) (with_cycles s (late_of run round) (after_turn s run round))
        late-beside = cycles_beside s (late_of run round) (after_turn s run round)

    -- the early entries
    first-is : p.mixers.early ≡ early s marks round run frames j tracks p.called f.caller keeps p.many p.calls formed
    first-is = p.mixers.early_is ∙ (λ i. entries_leave (keeps.normal.states i) frames (early_bare (record j { fast = begun j.fast }) run round keeps.normal.states i) (playing (begun j.fast) p.called))

    early-playing : KeepsPlaying s marks (IsLegalCaller run round) run.reports p.mixers.early (before_turn s run round)
    early-playing = subst (λ (x : Playing). KeepsPlaying s marks (IsLegalCaller run round) run.reports x (before_turn s run round)) (sym first-is) (early_keeps s marks round run frames j tracks p.called f.caller keeps p.many p.calls formed)

    handed-called : (with_calls round run).handed ≡ run.handed
    unfolding with_calls
    handed-called = refl

    normal-before : NormalOf s (before_turn s run round) j.normal
    normal-before = let b = before_same s run round in let h = keeps.normal in record { judged = h.judged; setup = h.setup; kept = h.kept ∙ sym b.normal; states = h.states ∙ sym b.states; handed = h.handed ∙ sym ((let c = cycles_beside s (early_of run round) (with_calls round run) in c.handed) ∙ handed-called) }

    early-many : length p.mixers.early.tracks ≡ length tracks
    early-many = early-playing.tracks.all ∙ sym keeps.of_tracks.all

    abbrev late-place : ℕ
    late-place = frames_before run + sum_by taken_by (map (λ e. e.entry) (early_of run round))

    late-formed : AreFormed frames late-place (late_of run round)
    late-formed = formed_rest frames (frames_before run) (early_count run round) round.entries formed

    -- the turn
    turned-kept : KeepsTurned s marks round run j.report p.right p.mixers.turned p.mixers.between
    turned-kept = kept_turned s marks round run frames late-place (record j { fast = p.mixers.early.fast }) p.mixers.turned p.mixers.early.tracks p.mixers.between j.report p.right early-playing normal-before
        (subst (λ (x : Playing). QueueGoes s (before_turn s run round) x.fast.queue) (sym first-is) (early_goes s marks round run frames j tracks p.called f.caller keeps p.many p.calls formed))
        (subst (λ (x : Playing). BesideQueue s (before_turn s run round) j.report x.fast.pipe) (sym first-is) (early_beside s marks round run frames j tracks p.called f.caller keeps p.many p.calls formed))
        refl (early_used s run round keeps.used) keeps.fast.numbered late-formed (fits_of s (after_turn s run round) states-after) (before_same s run round).normal
        (turn-form (length p.mixers.early.tracks) early-many)
        (subst (λ (es : List CycleEntry). TurnIfTold (record j { fast = p.mixers.early.fast }) p.mixers.early.tracks es round.turn p.right p.mixers.turned p.mixers.between) (late_bare (record j { fast = begun j.fast }) run round keeps.normal.states) p.mixers.turn_is)

    -- the late entries
    late-is : p.mixers.late ≡ late s marks round run frames j.report p.right p.mixers.turned p.mixers.between late-place turned-kept keeps.unloaded late-formed
    late-is = p.mixers.late_is ∙ (λ i. entries_leave (turned-kept.normal.states i) frames (late_bare (record j { fast = begun j.fast }) run round keeps.normal.states i) (playing p.mixers.turned.fast p.mixers.between))

    mixed-fast : p.mixed.fast ≡ p.mixers.late.fast
    mixed-fast = ap (λ (x : RunJudge). x.fast) p.mixers.kept

    mixed-normal : p.mixed.normal ≡ p.mixers.turned.normal
    mixed-normal = ap (λ (x : RunJudge). x.normal) p.mixers.kept

    mixed-report : p.mixed.report ≡ p.mixers.turned.report
    mixed-report = ap (λ (x : RunJudge). x.report) p.mixers.kept

    Right : List FastState → List CycleEntry → Playing → Type 0
    Right states es x = AreEntriesRight states frames es x

    -- both parts of the fast mixer's turn are right exactly if their entries are
    entered-is : IsTrue p.entered ↔ (AreEntriesRight run.states frames (entries_in (early_of run round)) (playing (begun j.fast) p.called) × AreEntriesRight (after_turn s run round).states frames (entries_in (late_of run round)) (playing p.mixers.turned.fast p.mixers.between))
    entered-is = subst (λ (x : Type 0). IsTrue p.entered ↔ x) (λ i. AreEntriesRight (keeps.normal.states i) frames (early_bare (record j { fast = begun j.fast }) run round keeps.normal.states i) (playing (begun j.fast) p.called) × AreEntriesRight (turned-kept.normal.states i) frames (late_bare (record j { fast = begun j.fast }) run round keeps.normal.states i) (playing p.mixers.turned.fast p.mixers.between)) p.mixers.fast_is

    played-is : p.played ≡ p.mixers.late.tracks
    played-is = p.mixers.tracks_are

    mixed-tracks : KeepsTracks s marks (IsLegalCaller run round) p.played (all_played s run round)
    mixed-tracks = subst (λ (ts : List TrackJudge). KeepsTracks s marks (IsLegalCaller run round) ts (all_played s run round)) (sym (played-is ∙ ap (λ (x : Playing). x.tracks) late-is))
        (played_tracks s marks round run frames j.report p.right p.mixers.turned p.mixers.between late-place turned-kept keeps.unloaded late-formed)

    mixed-normal-of : NormalOf s (all_played s run round) p.mixed.normal
    mixed-normal-of = subst (NormalOf s (all_played s run round)) (sym mixed-normal) (played_normal s marks round run frames j.report p.right p.mixers.turned p.mixers.between late-place turned-kept keeps.unloaded late-formed)

    fast-by : (P : FastKept → Type 0) → P (late s marks round run frames j.report p.right p.mixers.turned p.mixers.between late-place turned-kept keeps.unloaded late-formed).fast → P p.mixed.fast
    fast-by P h = subst P (sym (mixed-fast ∙ ap (λ (x : Playing). x.fast) late-is)) h

    mixed-fast-of : FastOf s run.reports (all_played s run round) p.mixed.fast
    mixed-fast-of = fast-by (FastOf s run.reports (all_played s run round)) (played_fast s marks round run frames j.report p.right p.mixers.turned p.mixers.between late-place turned-kept keeps.unloaded late-formed)

    mixed-draft : p.mixed.fast.told.draft ≡ p.mixed.normal.plain.kept.draft
    mixed-draft = fast-by (λ (x : FastKept). x.told.draft ≡ p.mixed.normal.plain.kept.draft)
        (played_draft s marks round run frames j.report p.right p.mixers.turned p.mixers.between late-place turned-kept keeps.unloaded late-formed ∙ ap (λ (n : NormalJudged). n.plain.kept.draft) (sym mixed-normal))

    mixed-queue : LegalNormalTurn s marks run round → QueueOf s (all_played s run round) p.mixed.fast.queue
    mixed-queue legal = fast-by (λ (x : FastKept). QueueOf s (all_played s run round) x.queue) (played_queue s marks round run frames j.report p.right p.mixers.turned p.mixers.between late-place turned-kept keeps.unloaded late-formed legal)

    mixed-beside : LegalNormalTurn s marks run round → BesideQueue s (all_played s run round) p.mixed.report p.mixed.fast.pipe
    mixed-beside legal = subst (λ (r : ReportKept). BesideQueue s (all_played s run round) r p.mixed.fast.pipe) (sym mixed-report)
        (fast-by (λ (x : FastKept). BesideQueue s (all_played s run round) p.mixers.turned.report x.pipe) (played_beside s marks round run frames j.report p.right p.mixers.turned p.mixers.between late-place turned-kept keeps.unloaded late-formed legal))

    fast-legal : (IsTrue p.entered × IsTrue p.may) ↔ IsFastLegal cut s marks run round
    fast-legal =
        let judged = fast_judged cut s marks (IsLegalCaller run round) (IsLegalCaller run round) run.reports frames run round (begun j.fast) (playing (begun j.fast) p.called) (playing p.mixers.turned.fast p.mixers.between) j.cycles log first keeps.cycles
        (fast_round s keeps.earlier run j.fast keeps.fast) (first_keeps s marks round run frames j tracks p.called f.caller keeps p.many p.calls formed) turned-kept.kept formed in-log in (
          (λ h. let e = entered-is.0 h.0 in judged.0 (p.may_is.0 h.1, e.0, e.1)),
          (λ l. let h = judged.1 l in (entered-is.1 (h.1, h.2), p.may_is.1 h.0)),
        )

    turned-cycles : (o : Option Turn) (x y : RunJudge) (ts us : List TrackJudge) (es : List CycleEntry) (r : Bool) → TurnIfTold x ts es o r y us → y.cycles ≡ x.cycles
    turned-cycles None x y ts us es r h = ap (λ (z : RunJudge). z.cycles) h.1
    turned-cycles (Some e) x y ts us es r h = h.cycles

    mixed-cycles : p.mixed.cycles ≡ s.script.cycles
    mixed-cycles = ap (λ (x : RunJudge). x.cycles) p.mixers.kept ∙ (turned-cycles round.turn (record j { fast = p.mixers.early.fast }) p.mixers.turned p.mixers.early.tracks p.mixers.between _ p.right p.mixers.turn_is ∙ keeps.cycles)

    module _ (some : 0 < track_count s) (ends : LeastBelow (λ party. party_ended j tracks party ≡ true) (length tracks + 2) going) where
      ended-is : all_ended s run ≡ is_none going
      ended-is = all_is s marks j tracks run keeps.of_tracks (ap (λ (m : NormalKept). m.ended) keeps.normal.kept) keeps.fast.ended going ends

      pub round_judged : JudgesRound cut s marks run round k after (least_found (is_none going) (length tracks) f)
      round_judged = record {
        least = least_so cut s marks round run j tracks keeps f p.mixed k p.played p.met after (is_none going) p.right p.entered p.may p.shared some (λ is. ended-is ∙ is) (λ is. ended-is ∙ is) (caller_found s marks run round tracks p.called f.caller keeps.of_tracks keeps.fit p.calls)
            mixed-tracks mixed-normal-of mixed-fast-of mixed-queue mixed-beside turned-kept.legal fast-legal p.shared_is p.normal_is p.fast_is p.tracks_met p.as_many states-round states-played;
        kept = λ none. kept_so cut s marks round run j tracks keeps f p.mixed k p.played p.met after (is_none going) p.right p.entered p.may p.shared some (λ is. ended-is ∙ is) (λ is. ended-is ∙ is) (caller_found s marks run round tracks p.called f.caller keeps.of_tracks keeps.fit p.calls)
            mixed-tracks mixed-normal-of mixed-fast-of mixed-queue mixed-beside turned-kept.legal fast-legal p.shared_is p.normal_is p.fast_is p.tracks_met p.as_many states-round states-played p.left p.ended mixed-cycles mixed-draft none;
      }
