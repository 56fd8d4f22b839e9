-- In a turn run no turn of the normal mixer hears more of a track's server than the server's list gives.
use Rattle.std.proofs.Common.{◌≡◌, ℕ, ◌≤◌, Bool, true, false, Some, refl, sym, ap, ◌∙◌, subst, arith, []}
use Rattle.af_journal_laws.proofs.Common.{EntrySeen, FastState, IsScript, IsTurn, Learnt, LegalTurnBy, Marks, Measure, RoundSeen, Run, Session, Setup, TellsSo, TrackKept, Turn, calls_alone, found_before, grows_ends, grows_loaded, grows_met, grows_mix, heard, heard_low, learnt, listed, load_of, met, of_run, outside_of, setup_of, slot_number, slot_reported, told_at, track_at, tracks_at, with_ends, with_load, with_mix, with_poll, with_turn}
use Rattle.af_life.specs.Edits.{after_ack}
use Rattle.af_life.specs.Sound.{IsSound}
use Rattle.af_model.specs.StateQueue.{slot_of}
use Rattle.af_life.proofs.SoundSlots.{sound_served}
use Rattle.af_life.proofs.SoundTurns.{sound_acked}
use Rattle.af_judge.proofs.StatesRuns.{RunKept, SameNormal, ends_same, kept_beside, kept_turn, load_same, met_same}
use Rattle.af_audit.proofs.Attached.{attached_then}
use Rattle.af_audit.proofs.Bounded.{report_bounded}
use Rattle.af_audit.proofs.Bounds.{RunBounds, bounds_ends, bounds_loaded, bounds_met, bounds_mix, bounds_same, bounds_turn}
use Rattle.af_audit.proofs.Growing.{RunGrows}
use Rattle.af_journal_laws.proofs.Own.{grows_calls_alone, grows_polled, grows_turn}
use Rattle.af_journal_laws.proofs.Walk.{IsKept}

mix_same : (s : Session) (e : EntrySeen) (run : Run) → SameNormal run (with_mix s e run)
unfolding with_mix
mix_same s e run = record { normal = refl; states = refl }

poll_same : (s : Session) (k : ℕ) (run : Run) → SameNormal run (with_poll s k run)
unfolding with_poll
poll_same s k run = record { normal = refl; states = refl }

module _ (measure : Measure) (s : Session) (script : IsScript s.script) (marks : Marks) (tracks n : ℕ) where
  -- ## What a turn hears

  module _ (e : Turn) (run : Run) (h : TellsSo measure s n run) where
    abbrev c : Setup
    c = setup_of s

    abbrev k : Learnt
    k = learnt (outside_of c (found_before s run [] e) e)

    acked_draft : (ack : Bool) → (after_ack ack run.normal).draft ≡ run.normal.draft
    acked_draft true = refl
    acked_draft false = refl

    pub heard_alone : measure.of_heard (heard k n (track_at (tracks_at c k run.normal e n) n)) ≤ of_run measure run n
    heard_alone =
        let t : TrackKept = track_at (tracks_at c k run.normal e n) n in
        let acked = after_ack e.ack run.normal in
        let sound : IsSound (tracks_at c k run.normal e n) acked.draft = sound_served c k e.tracks acked.draft acked.tracks n (sound_acked e.ack run.normal h.kept_so.carried.sound) in
        let own = (sound.drafted n).own in
        let same : acked.draft ≡ run.normal.draft = acked_draft e.ack in
        let told = report_bounded measure run.normal.draft run (load_of run e) h.bounds.bounded in
        heard_low measure (of_run measure run n) (k.own n) (slot_reported k t) t
        (λ home. measure.own (listed (told_at run n).stream))
        (λ away g.
        let drafted = own away in
        let gen : (slot_reported k t).generation ≡ (slot_of run.normal.draft (slot_number t)).generation = g ∙ sym drafted.1 ∙ ap (λ (x : FastState). (slot_of x (slot_number t)).generation) same in
        let within = told.within (slot_number t) gen in
        let track : (slot_of run.normal.draft (slot_number t)).track ≡ n = ap (λ (x : FastState). (slot_of x (slot_number t)).track) (sym same) ∙ drafted.0 in
        subst (λ (j : ℕ). measure.of_report (slot_reported k t) ≤ of_run measure run j) track within)
        (attached_then measure c k (of_run measure run) run.normal e n h.bounds.attached n)

  -- ## The steps

  tells_beside : (a b : Run) → RunGrows a b → RunKept s b → RunBounds measure s b → TellsSo measure s n a → TellsSo measure s n b
  tells_beside a b grows kept bounds h = record { low = (let m = grows.many in let l = h.low in omega (arith, m, l)); kept_so = kept; bounds = bounds }

  tells_same : (a b : Run) → RunGrows a b → SameNormal a b → RunBounds measure s b → TellsSo measure s n a → TellsSo measure s n b
  tells_same a b grows same bounds h = tells_beside a b grows (kept_beside s a b same h.kept_so) bounds h

  pub tells_polled : (k : ℕ) (run : Run) → TellsSo measure s n run → TellsSo measure s n (with_poll s k run)
  unfolding with_poll
  tells_polled k run h = tells_same run (with_poll s k run) (grows_polled s k run) (poll_same s k run) (bounds_same measure s run (with_poll s k run) refl refl refl (grows_polled s k run) h.bounds) h

  pub tells_calls : (track : ℕ) (round : RoundSeen) (run : Run) → TellsSo measure s n run → TellsSo measure s n (calls_alone track round run)
  tells_calls track round run h =
      let grows = grows_calls_alone track round run in
      tells_same run (calls_alone track round run) grows (record { normal = refl; states = refl }) (bounds_same measure s run (calls_alone track round run) refl refl refl grows h.bounds) h

  pub tells_turn : (e : Turn) (run : Run) → IsTurn tracks e → LegalTurnBy (setup_of s) marks (found_before s run [] e) run.normal e → TellsSo measure s n run → TellsSo measure s n (with_turn s (found_before s run [] e) e run)
  tells_turn e run form legal h =
      let f = found_before s run [] e in
      tells_beside run (with_turn s f e run) (grows_turn s e run) (kept_turn s script f tracks e run form h.kept_so) (bounds_turn measure s f e run (λ i. refl) legal.legal.still h.bounds) h

  pub tells_kept : IsKept s marks tracks (TellsSo measure s n)
  tells_kept = record {
    quiet = record {
      polled = tells_polled;
      mixed = λ e run legal h. tells_same run (with_mix s e run) (grows_mix s e run) (mix_same s e run) (bounds_mix measure s e run h.bounds) h;
      loads = λ e run h. tells_same run (with_load e run) (grows_loaded s (Some e) run) (load_same e run) (bounds_loaded measure s (Some e) run h.bounds) h;
      meets = λ run h. tells_same run (met s run) (grows_met s run) (met_same s run) (bounds_met measure s run h.bounds) h;
      ended = λ run h. tells_same run (with_ends run) (grows_ends s run) (ends_same run) (bounds_ends measure s run h.bounds) h;
    };
    calls = λ track round run legal h. tells_calls track round run h;
    turn = tells_turn;
  }
