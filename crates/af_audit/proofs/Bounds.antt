-- What a run keeps of its reports and its attachments: none shows more than the list of its server.
use Rattle.std.proofs.Common.{◌≡◌, ℕ, zero, suc, ◌≤◌, if◌then◌else◌, Bool, true, false, true≢false, List, [], ◌∷◌, ◌++◌, Option, Some, None, refl, sym, ap, subst, append-nil, arith}
use Rattle.af_audit.proofs.Common.{AllByRecursion, BlockTold, EntrySeen, FastState, Learnt, LegalRound, Marks, NormalKept, Report, RoundSeen, Run, Session, Setup, Turn, TurnFound, after_edits, after_round, after_turn, all_played, at_each, before_turn, cycle_frames, cycles_beside, each_track, early_of, ended_turn, ends, found_in, is_pushed, late_of, learnt, listed, loaded, met, met_after, new_run, outside_of, setup_of, state_at, told_at, turn_after, turned, with_calls, with_cycles, with_ends, with_load, with_mix, with_turn}
use Rattle.af_audit.proofs.Older.{IsOlder, older_self, older_both, older_draft, draft_goes, draft_ends}
use Rattle.af_audit.proofs.Growing.{RunGrows, run_told, grows_calls, grows_cycles, grows_mix, grows_turned, grows_loaded, grows_met, grows_ends}
use Rattle.af_audit.proofs.Attached.{turn_keeps, attached_more, attached_new}
use Rattle.af_audit.proofs.Bounded.{AllOlder, AreBounded, bounded_more, bounded_cycles, bounded_mix, weaker_all}
use Rattle.af_audit.proofs.MixerTurns.{turn_legal}
use Rattle.af_audit.proofs.Measure.{Measure, of_run, of_server, IsBounded, AreAttached}

module _ (measure : Measure) where
  -- no state is newer than the draft, and no report and no attachment shows more than the list of its server
  pub record RunBounds (s : Session) (run : Run) : Type 0 where
    pub older : AllOlder s run run.normal.draft
    pub bounded : AreBounded measure run.normal.draft run
    pub attached : AreAttached measure (of_run measure run) run.normal.tracks

  module _ (s : Session) where
    -- a step keeps the bounds if it changes neither the mixer, nor the states, nor the reports
    pub bounds_same : (a b : Run) → b.normal ≡ a.normal → b.states ≡ a.states → b.reports ≡ a.reports → RunGrows a b → RunBounds s a → RunBounds s b
    bounds_same a b normal states reports grows h = record {
      older = subst (λ (p : NormalKept × List FastState). (k : ℕ) → IsOlder (state_at (cycle_frames s) p.1 k) p.0.draft) (λ i. (sym normal i, sym states i)) h.older;
      bounded = subst (λ (p : NormalKept × List Report). AllByRecursion (IsBounded measure p.0.draft (of_run measure b)) p.1) (λ i. (sym normal i, sym reports i))
          (weaker_all (IsBounded measure a.normal.draft (of_run measure a)) (IsBounded measure a.normal.draft (of_run measure b)) a.reports
          (λ r. bounded_more measure a.normal.draft a.normal.draft (of_run measure a) (of_run measure b) r (older_self a.normal.draft) (run_told measure a b grows)) h.bounded);
      attached = subst (λ (m : NormalKept). AreAttached measure (of_run measure b) m.tracks) (sym normal) (attached_more measure (of_run measure a) (of_run measure b) a.normal.tracks (run_told measure a b grows) h.attached);
    }

    pub bounds_calls : (round : RoundSeen) (run : Run) → RunBounds s run → RunBounds s (with_calls round run)
    unfolding with_calls
    bounds_calls round run = bounds_same run (with_calls round run) refl refl refl (grows_calls s round run)

    pub bounds_mix : (e : EntrySeen) (run : Run) → RunBounds s run → RunBounds s (with_mix s e run)
    unfolding with_mix
    bounds_mix e run h = let after : Run = with_mix s e run in record {
      older = h.older;
      bounded = bounded_mix measure s run.normal.draft e run h.older (older_self run.normal.draft) h.bounded;
      attached = attached_more measure (of_run measure run) (of_run measure after) run.normal.tracks (run_told measure run after (grows_mix s e run)) h.attached;
    }

    pub bounds_cycles : (es : List EntrySeen) (run : Run) → RunBounds s run → RunBounds s (with_cycles s es run)
    bounds_cycles es run h = let b = cycles_beside s es run in let after : Run = with_cycles s es run in record {
      older = subst (λ (p : NormalKept × List FastState). (k : ℕ) → IsOlder (state_at (cycle_frames s) p.1 k) p.0.draft) (λ i. (sym b.normal i, sym b.states i)) h.older;
      bounded = subst (λ (m : NormalKept). AreBounded measure m.draft after) (sym b.normal) (bounded_cycles measure s run.normal.draft es run h.older (older_self run.normal.draft) h.bounded);
      attached = subst (λ (m : NormalKept). AreAttached measure (of_run measure after) m.tracks) (sym b.normal) (attached_more measure (of_run measure run) (of_run measure after) run.normal.tracks (run_told measure run after (grows_cycles s es run)) h.attached);
    }

    module _ (f : TurnFound) (e : Turn) (run : Run) (streams : (i : ℕ) → f.streams i ≡ (told_at run i).stream) (still : e.ended ≡ true → e ≡ ended_turn) (h : RunBounds s run) where
      abbrev c : Setup
      c = setup_of s

      abbrev k : Learnt
      k = learnt (outside_of c f e)

      abbrev edits : FastState
      edits = (after_edits c k e run.normal).draft

      abbrev next : FastState
      next = (turn_after c k run.normal e).draft

      draft_older : IsOlder run.normal.draft next
      draft_older = by_end e.ended refl
        where
          by_end : (b : Bool) → e.ended ≡ b → IsOlder run.normal.draft next
          by_end true is = subst (IsOlder run.normal.draft) (sym (draft_ends c k run.normal e is)) (older_self run.normal.draft)
          by_end false is = subst (IsOlder run.normal.draft) (sym (draft_goes c k run.normal e is)) (older_draft c k run.normal e)

      all_older : (n : ℕ) → IsOlder (state_at (cycle_frames s) run.states n) next
      all_older n = older_both (state_at (cycle_frames s) run.states n) run.normal.draft next (h.older n) draft_older

      no_push : (b : Bool) → b ≡ false → (n : ℕ) → IsOlder (state_at (cycle_frames s) (run.states ++ (if b then edits ∷ [] else [])) n) next
      no_push true is n = absurd (true≢false is)
      no_push false is n = subst (λ (xs : List FastState). IsOlder (state_at (cycle_frames s) xs n) next) (sym (append-nil run.states)) (all_older n)

      if_push : next ≡ edits → (b : Bool) (n : ℕ) → IsOlder (state_at (cycle_frames s) (run.states ++ (if b then edits ∷ [] else [])) n) next
      if_push is true n = at_each (cycle_frames s) run.states edits (λ (x : FastState). IsOlder x next) all_older (subst (IsOlder edits) (sym is) (older_self edits)) n
      if_push is false n = no_push false refl n

      pushed_older : (n : ℕ) → IsOlder (state_at (cycle_frames s) (run.states ++ (if is_pushed e.push then edits ∷ [] else [])) n) next
      pushed_older = by_end e.ended refl
        where
          by_end : (b : Bool) → e.ended ≡ b → (n : ℕ) → IsOlder (state_at (cycle_frames s) (run.states ++ (if is_pushed e.push then edits ∷ [] else [])) n) next
          by_end true is = no_push (is_pushed e.push) (ap (λ (t : Turn). is_pushed t.push) (still is))
          by_end false is = if_push (draft_goes c k run.normal e is) (is_pushed e.push)

      own_known : (i : ℕ) → measure.of_heard (k.own i) ≤ of_run measure run i
      own_known i =
          let same : of_server measure (listed (f.streams i)) ≡ of_run measure run i = ap (λ (b : BlockTold). of_server measure (listed b)) (streams i) in
          let a = measure.own (listed (f.streams i)) in omega (arith, a, same)

      pub bounds_turn : RunBounds s (with_turn s f e run)
      unfolding with_turn
      bounds_turn =
          let after : Run = with_turn s f e run in
          let grows = run_told measure run after (grows_turned s (λ e. f) (Some e) run) in
          record {
            older = pushed_older;
            bounded = weaker_all (IsBounded measure run.normal.draft (of_run measure run)) (IsBounded measure next (of_run measure after)) run.reports
                (λ r. bounded_more measure run.normal.draft next (of_run measure run) (of_run measure after) r draft_older grows) h.bounded;
            attached = attached_more measure (of_run measure run) (of_run measure after) (turn_after c k run.normal e).tracks grows (turn_keeps measure c k (of_run measure run) own_known run.normal e h.attached);
          }

    pub bounds_loaded : (o : Option Turn) (run : Run) → RunBounds s run → RunBounds s (loaded o run)
    unfolding with_load
    bounds_loaded None run h = h
    bounds_loaded (Some e) run h = bounds_same run (with_load e run) refl refl refl (grows_loaded s (Some e) run) h

    pub bounds_met : (run : Run) → RunBounds s run → RunBounds s (met s run)
    unfolding met
    bounds_met run h = bounds_same run (met s run) refl refl refl (grows_met s run) h

    pub bounds_ends : (run : Run) → RunBounds s run → RunBounds s (with_ends run)
    unfolding with_ends
    bounds_ends run h = by_end run.normal.ended (grows_ends s run)
      where
        by_end : (b : Bool) → RunGrows run (if b then each_track (λ track t. record t { client = ends t.client }) run else run) → RunBounds s (if b then each_track (λ track t. record t { client = ends t.client }) run else run)
        by_end true grows = bounds_same run (each_track (λ track t. record t { client = ends t.client }) run) refl refl refl grows h
        by_end false grows = h

  -- a legal round keeps the bounds
  pub bounds_round : (cut : Bool) (s : Session) (marks : Marks) (run : Run) (round : RoundSeen) → LegalRound cut s marks run round → RunBounds s run → RunBounds s (after_round s run round)
  bounds_round cut s marks run round legal h =
      let early : RunBounds s (before_turn s run round) = bounds_cycles s (early_of run round) (with_calls round run) (bounds_calls s round run h) in
      let late : RunBounds s (with_cycles s (late_of run round) (after_turn s run round)) = bounds_cycles s (late_of run round) (after_turn s run round) (by_turn round.turn refl early) in
      bounds_ends s (met_after s run round) (bounds_met s (all_played s run round) (bounds_loaded s round.turn (with_cycles s (late_of run round) (after_turn s run round)) late))
    where
      by_turn : (o : Option Turn) → round.turn ≡ o → RunBounds s (before_turn s run round) → RunBounds s (turned s (found_in s run round) o (before_turn s run round))
      by_turn None is b = b
      by_turn (Some e) is b = bounds_turn s (found_in s run round e) e (before_turn s run round) (λ i. refl) (turn_legal cut s marks run round legal e is).legal.still b

  -- the bounds hold before the first round
  pub bounds_new : (s : Session) → RunBounds s (new_run s)
  bounds_new s = record {
    older = λ n. by n;
    bounded = tt;
    attached = attached_new measure (setup_of s) (of_run measure (new_run s));
  }
    where
      by : (n : ℕ) → IsOlder (state_at (cycle_frames s) [] n) (new_run s).normal.draft
      by zero = older_self (new_run s).normal.draft
      by (suc n) = older_self (new_run s).normal.draft
