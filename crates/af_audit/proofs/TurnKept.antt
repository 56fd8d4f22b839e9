-- What is kept of a run follows the normal mixer's turn of a round, if it has one.
use Rattle.std.specs.Prelude.{◌↔◌}
use Rattle.std.proofs.Common.{◌≡◌, ℕ, ◌-◌, min, take, Bool, true, false, true≢false, IsTrue, if◌then◌else◌, List, length, Option, Some, None, refl, sym, ap, subst, ◌∙◌}
use Rattle.af_audit.proofs.Common.{AreFormed, AreNumbered, BesideQueue, FastKept, FastOf, FastState, Frame, IsTurn, KeepsPlaying, KeepsTracks, LegalNormalTurn, LegalTurnBy, Marks, MatchBool, MatchOption, NormalKept, NormalOf, PipeKept, QueueGoes, ReportKept, RoundSeen, Run, Session, Setup, StatesFit, TrackJudge, Turn, UseUpTo, after_turn, before_turn, beside_turned, entries_foreseen, entries_in, fast_same, fast_told_same, foreseen, form_opens, found_in, front_by_room, is_some, late_of, number_found, playing, put_by, queue_turned, saw_front, servers_at, setup_of, turn_steps, turned, turned_same, with_put, with_steps}
use Rattle.af_judge.proofs.NormalRound.{no_turn_follows, no_turn_legal, turn_keeps, turn_legal}
use Rattle.af_judge.proofs.ReportFound.{report_found}
use Rattle.af_audit.specs.declared.run_judge.RunJudge.{RunJudge}
use Rattle.af_audit.specs.RoundTold.{TurnIfTold, TurnTold, fast_turned, pipe_turned, report_turned}
use Rattle.af_audit.proofs.Words.{loaded_if}
use Rattle.af_audit.proofs.Words.{IsLegalCaller}
use Rattle.af_audit.proofs.RoundFollows.{KeepsTurned}

module _ (s : Session) (marks : Marks) (round : RoundSeen) (run : Run) (frames : List Frame) (place : ℕ) (j k : RunJudge) (tracks after : List TrackJudge) (r : ReportKept) (right : Bool)
    (keeps : KeepsPlaying s marks (IsLegalCaller run round) run.reports (playing j.fast tracks) (before_turn s run round)) (normal : NormalOf s (before_turn s run round) j.normal)
    (goes : QueueGoes s (before_turn s run round) j.fast.queue) (beside : BesideQueue s (before_turn s run round) r j.fast.pipe) (reported : j.report ≡ r)
    (used : UseUpTo (length (before_turn s run round).states) (before_turn s run round).entries) (numbered : AreNumbered run) (formed : AreFormed frames place (late_of run round))
    (fits : StatesFit s (after_turn s run round)) (same_normal : (before_turn s run round).normal ≡ run.normal) where
  abbrev before : Run
  before = before_turn s run round

  -- the fast mixer's own parts follow
  fast-after : (f : FastKept) → FastOf s run.reports before f → FastOf s run.reports (after_turn s run round) f
  fast-after f h = fast_same s run.reports before (after_turn s run round) f (turned_same s (found_in s run round) round.turn before used) h

  -- ## No turn

  pub kept_without : round.turn ≡ None → TurnIfTold j tracks (entries_in (late_of run round)) None right k after → KeepsTurned s marks round run r right k after
  kept_without none told =
      let both = no_turn_follows s marks (IsLegalCaller run round) run round tracks j.normal normal none keeps.tracks in
      let legal = no_turn_legal s marks (IsLegalCaller run round) run round tracks j.normal normal none in
      let same : after_turn s run round ≡ before = ap (λ (o : Option Turn). turned s (found_in s run round) o before) none in
      subst (λ (x : Bool × RunJudge × List TrackJudge). KeepsTurned s marks round run r x.0 x.1 x.2) (λ i. (sym told.0 i, sym told.1 i, sym told.2 i)) (record {
        kept = record { fast = fast-after j.fast keeps.fast; draft = keeps.draft ∙ ap (λ (x : Run). x.normal.draft) (sym same); tracks = both.0; fits = fits };
        normal = both.1;
        legal = legal;
        goes = λ l. subst (λ (x : Run). QueueGoes s x j.fast.queue) (sym same) goes;
        beside = λ l. subst (λ (x : Run). BesideQueue s x r j.fast.pipe) (sym same) beside;
        reported = reported ∙ ap (λ (o : Option Turn). loaded_if o r) (sym none);
      })

  -- ## A turn

  module _ (e : Turn) (is : round.turn ≡ Some e) (form : IsTurn (length tracks) e) (t : TurnTold j tracks (entries_in (late_of run round)) e right k after) where
    report-is : t.report ≡ (found_in s run round e).report
    report-is = report_found s marks (IsLegalCaller run round) frames (playing j.fast tracks) run round place e t.report numbered formed keeps
        (let h = t.report_is in record {
          before = h.before;
          ahead = λ low far. h.ahead low far ∙ ap (λ (xs : List FastState). (entries_foreseen xs (take (min (length (entries_in (late_of run round))) (number_found j.fast e.cycle - j.fast.told.report.cycle)) (entries_in (late_of run round))) (foreseen (servers_at tracks) j.fast.told)).told.report) normal.states;
          told = h.told;
        })

    legal-is : IsTrue right ↔ LegalNormalTurn s marks run round
    legal-is = subst (λ (b : Bool). IsTrue b ↔ LegalNormalTurn s marks run round) (sym t.right_is) (turn_legal s marks (IsLegalCaller run round) run round tracks j.normal normal keeps.tracks e is form t.report report-is t.legal t.legal_is)

    both-kept : KeepsTracks s marks (IsLegalCaller run round) after (after_turn s run round) × NormalOf s (after_turn s run round) k.normal
    both-kept = turn_keeps s marks (IsLegalCaller run round) run round tracks j.normal normal keeps.tracks e is form t.report report-is after k.normal t.mixer

    takes-same : (c : Setup) (b : Bool) (p : PipeKept) → ((if b then p else with_put (put_by c e.mixes) (saw_front (front_by_room p.size (length p.put) e.room) p)).takes ≡ p.takes) × ((if b then p else with_put (put_by c e.mixes) (saw_front (front_by_room p.size (length p.put) e.room) p)).taken ≡ p.taken)
    takes-same c true p = (refl, refl)
    takes-same c false p = (refl, refl)

    fast-kept : FastOf s run.reports (after_turn s run round) k.fast
    fast-kept =
        let pipe = takes-same j.normal.setup e.ended j.fast.pipe in
        subst (FastOf s run.reports (after_turn s run round)) (sym t.fast)
        (fast_told_same s run.reports (after_turn s run round) j.fast (fast_turned j.normal k.normal.plain.kept.draft e j.fast) (record { asked = refl; current = refl; used = refl; report = refl; cold = refl; ended = refl; before = refl; reports = refl; takes = pipe.0; taken = pipe.1 }) (fast-after j.fast keeps.fast))

    draft-kept : k.fast.told.draft ≡ (after_turn s run round).normal.draft
    draft-kept = let n = both-kept.1 in ap (λ (f : FastKept). f.told.draft) t.fast ∙ ap (λ (m : NormalKept). m.draft) n.kept

    turned-is : turned s (found_in s run round) (Some e) before ≡ after_turn s run round
    turned-is = ap (λ (o : Option Turn). turned s (found_in s run round) o before) (sym is)

    -- a legal turn is one of a mixer that hadn't ended
    legal-by : LegalNormalTurn s marks run round → (run.normal.ended ≡ false) × LegalTurnBy (setup_of s) marks (found_in s run round e) run.normal e
    legal-by legal = by_end run.normal.ended refl legal
      where
        by_end : (b : Bool) → run.normal.ended ≡ b → MatchBool b (round.turn ≡ None) (MatchOption round.turn ⊥ (λ e. LegalTurnBy (setup_of s) marks (found_in s run round e) run.normal e)) → (run.normal.ended ≡ false) × LegalTurnBy (setup_of s) marks (found_in s run round e) run.normal e
        by_end true ended none = absurd (true≢false (ap is_some (sym is ∙ none)))
        by_end false ended turn = (ended, subst (λ (o : Option Turn). MatchOption o ⊥ (λ e. LegalTurnBy (setup_of s) marks (found_in s run round e) run.normal e)) is turn)

    queue-kept : LegalNormalTurn s marks run round → QueueGoes s (after_turn s run round) k.fast.queue
    queue-kept legal =
        let going : before.normal.ended ≡ false = ap (λ (m : NormalKept). m.ended) same_normal ∙ (legal-by legal).0 in
        let here = queue_turned s (found_in s run round e) e before j.fast.queue going beside.pushed (form_opens (length tracks) e form) goes in
        subst (QueueGoes s (after_turn s run round)) (sym (ap (λ (f : FastKept). f.queue) t.fast)) (subst (λ (x : Run). QueueGoes s x (fast_turned j.normal k.normal.plain.kept.draft e j.fast).queue) turned-is
        (subst (λ (xs : List FastState). QueueGoes s (turned s (found_in s run round) (Some e) before) (with_steps (turn_steps (length xs) e.ended e.ack e.push) j.fast.queue)) (sym normal.states) here))

    beside-kept : LegalNormalTurn s marks run round → BesideQueue s (after_turn s run round) r k.fast.pipe
    beside-kept legal =
        let by : LegalTurnBy (setup_of s) marks (found_in s run round e) before.normal e = subst (λ (m : NormalKept). LegalTurnBy (setup_of s) marks (found_in s run round e) m e) (sym same_normal) (legal-by legal).1 in
        let here = beside_turned s marks (found_in s run round e) e before r j.fast.pipe (form_opens (length tracks) e form) by beside in
        subst (BesideQueue s (after_turn s run round) r) (sym (ap (λ (f : FastKept). f.pipe) t.fast)) (subst (λ (x : Run). BesideQueue s x r (pipe_turned j.normal.setup e j.fast.pipe)) turned-is
        (subst (λ (c : Setup). BesideQueue s (turned s (found_in s run round) (Some e) before) r (pipe_turned c e j.fast.pipe)) (sym normal.setup) here))

    pub kept_with : KeepsTurned s marks round run r right k after
    kept_with = record {
      kept = record { fast = fast-kept; draft = draft-kept; tracks = both-kept.0; fits = fits };
      normal = both-kept.1;
      legal = legal-is;
      goes = queue-kept;
      beside = beside-kept;
      reported = t.reported ∙ ((λ i. report_turned e (reported i)) ∙ ap (λ (o : Option Turn). loaded_if o r) (sym is));
    }

  -- ## Either

  pub kept_turned : MatchOption round.turn (Unit {0}) (IsTurn (length tracks)) → TurnIfTold j tracks (entries_in (late_of run round)) round.turn right k after → KeepsTurned s marks round run r right k after
  kept_turned form told = by_turn round.turn refl form told
    where
      by_turn : (o : Option Turn) → round.turn ≡ o → MatchOption o (Unit {0}) (IsTurn (length tracks)) → TurnIfTold j tracks (entries_in (late_of run round)) o right k after → KeepsTurned s marks round run r right k after
      by_turn None is form told = kept_without is told
      by_turn (Some e) is form told = kept_with e is form told
