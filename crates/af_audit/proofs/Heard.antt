-- What a turn hears of a track's server is no more than the server's list shows once the round's turns were made.
use Rattle.std.proofs.Common.{◌≡◌, ℕ, ◌<◌, ◌≤◌, ◌==◌, ◌&&◌, if◌then◌else◌, Bool, true, false, List, [], length, Option, Some, refl, sym, ap, ◌∙◌, subst, eqb-true, arith}
use Rattle.af_audit.proofs.Common.{FastState, Heard, IsRound, IsScript, IsSound, Learnt, LegalEntries, LegalRound, Marks, NormalKept, RoundSeen, Run, RunKept, Session, Setup, SlotReport, TrackKept, Turn, TurnFound, after_ack, after_round, after_turn, all_played, before_turn, counts_in, cycles_beside, drafts_same, early_of, fast_ended, fills, found_in, heard, heard_at_home, heard_by, heard_elsewhere, heard_with, is_home, kept_after_turn, kept_before, kept_new, kept_round, late_of, learnt, listed, load_of, met_after, new_run, outside_of, scales_of, setup_of, slot_number, slot_of, slot_reported, sound_acked, sound_served, stream_list, told_at, track_at, track_count, tracks_at, turned, with_calls, with_cycles, with_turn}
use Rattle.af_life.specs.Heard.{grown}
use Rattle.af_judge.proofs.StatesRuns.{calls_same as beside_calls}
use Rattle.af_audit.proofs.FatesTold.{new_there}
use Rattle.af_audit.proofs.Attached.{attached_then}
use Rattle.af_audit.proofs.Bounded.{report_bounded}
use Rattle.af_audit.proofs.Bounds.{RunBounds, bounds_calls, bounds_cycles, bounds_new, bounds_round}
use Rattle.af_audit.proofs.EntryParts.{legal_parts}
use Rattle.af_audit.proofs.Growing.{RunGrows, run_both, run_told, grows_calls, grows_cycles, grows_turned, grows_loaded, grows_met, grows_ends}
use Rattle.af_audit.proofs.LateRound.{untold, untold_is, first_late, all_late}
use Rattle.af_audit.proofs.LateRuns.{FirstLate}
use Rattle.af_audit.proofs.Measure.{Measure, of_run}
use Rattle.af_audit.proofs.Quiet.{stream_quiet}
use Rattle.af_audit.proofs.MixerTurns.{before_normal, turn_legal}

-- ## A round

played_grows : (s : Session) (run : Run) (round : RoundSeen) → RunGrows (with_cycles s (late_of run round) (after_turn s run round)) (all_played s run round)
played_grows s run round = grows_loaded s round.turn (with_cycles s (late_of run round) (after_turn s run round))

turn_grows : (s : Session) (run : Run) (round : RoundSeen) → RunGrows (before_turn s run round) (all_played s run round)
turn_grows s run round =
    let late : Run = with_cycles s (late_of run round) (after_turn s run round) in
    run_both (before_turn s run round) (after_turn s run round) (all_played s run round) (grows_turned s (found_in s run round) round.turn (before_turn s run round))
    (run_both (after_turn s run round) late (all_played s run round) (grows_cycles s (late_of run round) (after_turn s run round)) (played_grows s run round))

before_grows : (s : Session) (run : Run) (round : RoundSeen) → RunGrows run (before_turn s run round)
before_grows s run round = run_both run (with_calls round run) (before_turn s run round) (grows_calls s round run) (grows_cycles s (early_of run round) (with_calls round run))

-- the lists grow up to the meetings of a round
pub to_played : (s : Session) (run : Run) (round : RoundSeen) → RunGrows run (all_played s run round)
to_played s run round = run_both run (before_turn s run round) (all_played s run round) (before_grows s run round) (turn_grows s run round)

-- the lists grow with the meetings of a round and the ends
pub from_played : (s : Session) (run : Run) (round : RoundSeen) → RunGrows (all_played s run round) (after_round s run round)
from_played s run round = run_both (all_played s run round) (met_after s run round) (after_round s run round) (grows_met s (all_played s run round)) (grows_ends s (met_after s run round))

module _ (measure : Measure) where
  pub heard_low : (n : ℕ) (own : Heard) (r : SlotReport) (t : TrackKept) → (is_home t.holder ≡ true → measure.of_heard own ≤ n) → (is_home t.holder ≡ false → r.generation ≡ t.generation → measure.of_report r ≤ n) → measure.of_heard t.at_attach ≤ n → measure.of_heard (heard_by own r t) ≤ n
  unfolding heard_by
  heard_low n own r t home away attach = by (is_home t.holder) refl
    where
      by_report : (b : Bool) → is_home t.holder ≡ false → (r.generation == t.generation) ≡ b → measure.of_heard (if b then heard_with r.consumed r.flush_seen r.shut (grown (counts_in r) t.reported) else t.at_attach) ≤ n
      by_report true off is = (let a = away off (eqb-true r.generation t.generation is) in let same = measure.away r (grown (counts_in r) t.reported) in omega (arith, a, same))
      by_report false off is = attach

      by : (b : Bool) → is_home t.holder ≡ b → measure.of_heard (if b then heard_at_home own t else heard_elsewhere r t) ≤ n
      by true is = (let a = home is in let same = measure.home own t in omega (arith, a, same))
      by false is = by_report (r.generation == t.generation) is refl

  -- what holds of a run before each round
  pub record TellsSo (s : Session) (n : ℕ) (run : Run) : Type 0 where
    pub low : n < length run.tracks
    pub kept_so : RunKept s run
    pub bounds : RunBounds measure s run

  module _ (cut : Bool) (s : Session) (form : IsScript s.script) (marks : Marks) (run : Run) (round : RoundSeen) (tracks n : ℕ) (is_round : IsRound tracks round) (legal : LegalRound cut s marks run round) (h : TellsSo s n run) where
    abbrev c : Setup
    c = setup_of s

    abbrev before : Run
    before = before_turn s run round

    abbrev played : Run
    played = all_played s run round

    parts : LegalEntries s marks (with_calls round run) (early_of run round) × LegalEntries s marks (after_turn s run round) (late_of run round)
    parts = legal_parts (fast_ended run) (cut && fills s run round) s marks run round legal.turns.fast

    module _ (e : Turn) (is : round.turn ≡ Some e) where
      abbrev f : TurnFound
      f = found_in s run round e

      abbrev k : Learnt
      k = learnt (outside_of c f e)

      turn_is : after_turn s run round ≡ with_turn s f e before
      turn_is = ap (λ (o : Option Turn). turned s (found_in s run round) o before) is

      -- what is shown without the turn is no more than with it, if the track is away
      untold_low : is_home (track_at (tracks_at c k run.normal e n) n).holder ≡ false → of_run measure (untold s run round) n ≤ of_run measure played n
      untold_low away =
          let by = turn_legal cut s marks run round legal e is in
          let same = before_normal s run round in
          let quiet = subst (λ (m : NormalKept). stream_list c (outside_of c f e) e (tracks_at c k m e n) n ≡ []) (sym same) (stream_quiet c n run.normal e h.kept_so.carried.sound by.outside (outside_of c f e) by.legal (ap learnt by.found) away) in
          let there : n < length before.tracks = (let m = (before_grows s run round).many in let l = h.low in omega (arith, m, l)) in
          let so = subst (RunKept s) turn_is (kept_after_turn s form tracks run round is_round.turn h.kept_so) in
          let stays = drafts_same s (scales_of s form) k before.normal before.states (kept_before s form run round h.kept_so) e in
          let called : (with_calls round run).states ≡ run.states = (beside_calls round run).states in
          let states : before.states ≡ run.states = (cycles_beside s (early_of run round) (with_calls round run)).states ∙ called in
          let late = all_late measure s marks before f e n there quiet stays so.apart (late_of run round)
          (subst (λ (xs : List FastState). FirstLate (length xs) (late_of run round)) (sym states) (first_late run round.entries))
          (subst (λ (r : Run). LegalEntries s marks r (late_of run round)) turn_is parts.1) in
          let to_end = run_told measure (with_cycles s (late_of run round) (after_turn s run round)) played (played_grows s run round) n in
          let first = ap (λ (r : Run). of_run measure r n) (untold_is s run round) in
          let second = ap (λ (r : Run). of_run measure (with_cycles s (late_of run round) r) n) turn_is in
          omega (arith, first, late, second, to_end)

      -- what the turn heard is shown by the list once the round's turns were made
      pub heard_told : measure.of_heard (heard k n (track_at (tracks_at c k run.normal e n) n)) ≤ of_run measure played n
      unfolding with_calls
      heard_told =
          let t : TrackKept = track_at (tracks_at c k run.normal e n) n in
          let acked = after_ack e.ack run.normal in
          let sound : IsSound (tracks_at c k run.normal e n) acked.draft = sound_served c k e.tracks acked.draft acked.tracks n (sound_acked e.ack run.normal h.kept_so.carried.sound) in
          let drafted = (sound.drafted n).own in
          let same : acked.draft ≡ run.normal.draft = acked_draft e.ack in
          let far : Run = untold s run round in
          let b = bounds_cycles measure s round.entries (with_calls round run) (bounds_calls measure s round run h.bounds) in
          let normal : far.normal ≡ run.normal = (cycles_beside s round.entries (with_calls round run)).normal ∙ (beside_calls round run).normal in
          let told = report_bounded measure far.normal.draft far (load_of run e) b.bounded in
          let draft : far.normal.draft ≡ acked.draft = ap (λ (m : NormalKept). m.draft) normal ∙ sym same in
          let attach = attached_then measure c k (of_run measure run) run.normal e n h.bounds.attached n in
          let more = run_told measure run played (to_played s run round) n in
          let home_more = run_told measure before played (turn_grows s run round) n in
          heard_low (of_run measure played n) (k.own n) (slot_reported k t) t
          (λ home. let a = measure.own (listed (told_at before n).stream) in omega (arith, a, home_more))
          (λ away g.
          let own = drafted away in
          let gen : (slot_reported k t).generation ≡ (slot_of far.normal.draft (slot_number t)).generation = g ∙ sym own.1 ∙ ap (λ (x : FastState). (slot_of x (slot_number t)).generation) (sym draft) in
          let within = told.within (slot_number t) (gen) in
          let track : (slot_of far.normal.draft (slot_number t)).track ≡ n = ap (λ (x : FastState). (slot_of x (slot_number t)).track) draft ∙ own.0 in
          let of_n : measure.of_report (slot_reported k t) ≤ of_run measure far n = subst (λ (j : ℕ). measure.of_report (slot_reported k t) ≤ of_run measure far j) track within in
          let low = untold_low away in
          omega (arith, of_n, low))
          (omega (arith, attach, more))
        where
          acked_draft : (ack : Bool) → (after_ack ack run.normal).draft ≡ run.normal.draft
          acked_draft true = refl
          acked_draft false = refl

    -- what holds of a run holds after a legal round
    pub tells_round : TellsSo s n (after_round s run round)
    tells_round = record {
      low = (let m = (to_played s run round).many in let o = (from_played s run round).many in let l = h.low in omega (arith, m, o, l));
      kept_so = kept_round s form tracks run round is_round.turn h.kept_so;
      bounds = bounds_round measure cut s marks run round legal h.bounds;
    }

  pub new_tells : (s : Session) (n : ℕ) → n < track_count s → TellsSo s n (new_run s)
  new_tells s n low = record { low = new_there s n low; kept_so = kept_new s; bounds = bounds_new measure s }
