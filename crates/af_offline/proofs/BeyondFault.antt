-- A round that has more entries than a turn of the fast mixer, or whose turn has more looks at a track than one of the normal mixer, is some party's fault. So nothing of a legal journal is left out when it is judged, and the fault of a front that ends behind such a round is in one of its rounds.
use Rattle.std.proofs.Common.{◌≡◌, ℕ, zero, suc, ◌<◌, ◌≤◌, ◌&&◌, ◌||◌, nat_lt, Bool, true, false, MatchBool, MatchOption, List, [], ◌∷◌, ◌++◌, length, map, is_some, Option, Some, None, refl, ap, ◌∙◌, sym, subst, arith, length-append}
use Rattle.af_offline.proofs.Common.{AllClear, AreClear, EndsBeyond, EntrySeen, FastIsClear, Frame, HasNoFault, IsFastTurn, IsFirstFault, IsVerdict, JournalData, LegalEntries, Marks, NormalIsClear, RoundSeen, Run, ScriptData, Session, Verdict, after_round, after_turn, early_of, fast_ended, fast_party, fills, first_of_round, found_in, has_more, is_beyond, judged_of, late_of, list_any, marks_of, most_round_cycles, most_judged, new_run, normal_party, session_of, setup_of, true≢false, with_calls}
use Rattle.af_base.proofs.Basics.{is_not_below}
use Rattle.af_base.specs.declared.turn.CommandLook.{CommandLook}
use Rattle.af_base.specs.Turn.{TrackSeen, Turn}
use Rattle.af_life.proofs.Basics.{due_len}
use Rattle.af_life.specs.declared.kept.TrackKept.{TrackKept}
use Rattle.af_life.specs.Kept.{Learnt, NormalKept, Setup, nothing_seen, seen_at, track_at}
use Rattle.af_life.specs.Heard.{heard, learnt, ready}
use Rattle.af_life.specs.Edits.{after_ack}
use Rattle.af_life.specs.Obeys.{are_due, goes_on, slot_for}
use Rattle.af_life.specs.Serves.{IsServed, LegalTrack, most_looks, served_to}
use Rattle.af_runs.specs.Found.{LegalTurnBy, TurnFound}
use Rattle.af_audit.specs.declared.verdict.Refusal.TheVariants as refused
use Rattle.af_audit.specs.declared.verdict.Verdict.TheVariants as verdict
use Rattle.af_audit.proofs.JudgedExactly.{fast_part, normal_part}
use Rattle.af_journal.proofs.Judged.{round_within}
use Rattle.af_offline.specs.Verified.{Tells}

-- ## No more looks than are due

module _ (c : Setup) (k : Learnt) (seen : TrackSeen) (tracks : List TrackKept) (i : ℕ) where
  few_looks : LegalTrack c k seen tracks i → length seen.looks ≤ 64
  few_looks legal = by_ended (track_at tracks i).life.ended legal
    where
      by_wait : (b : Bool) → MatchBool b (seen.looks ≡ []) (are_due most_looks (slot_for c tracks i) (heard k i (track_at tracks i)).flush_seen seen.looks (ready k i (track_at tracks i)) ≡ true) → length seen.looks ≤ 64
      by_wait true e = let l : length seen.looks ≡ 0 = ap (λ (ls : List CommandLook). length ls) e in omega arith
      by_wait false e = due_len (slot_for c tracks i) (heard k i (track_at tracks i)).flush_seen 64 seen.looks (ready k i (track_at tracks i)) e

      by_ended : (b : Bool) → MatchBool b (seen ≡ nothing_seen) (IsServed (slot_for c tracks i) (heard k i (track_at tracks i)) seen (ready k i (track_at tracks i))) → length seen.looks ≤ 64
      by_ended true e = let l : length seen.looks ≡ 0 = ap (λ (s : TrackSeen). length s.looks) e in omega arith
      by_ended false h = by_wait (is_some (ready k i (track_at tracks i)).awaits) h.looks

-- ## A round that has more entries or looks than a legal one

-- if each track has few looks, none has more
none_more : (looks : ℕ) (ts : List TrackSeen) → ((i : ℕ) → i < length ts → length (seen_at ts i).looks ≤ looks) → list_any (λ (t : TrackSeen). nat_lt looks (length t.looks)) ts ≡ false
none_more looks [] few = refl
none_more looks (t ∷ ts) few =
    ap (λ b. b || list_any (λ (t : TrackSeen). nat_lt looks (length t.looks)) ts) (is_not_below looks (length t.looks) (few 0 (omega arith)))
    ∙ none_more looks ts (λ i h. few (suc i) (omega (arith, h)))

turn_few : (c : Setup) (marks : Marks) (f : TurnFound) (m : NormalKept) (e : Turn) → LegalTurnBy c marks f m e → (b : Bool) → e.ended ≡ b → has_more 64 (Some e) ≡ false
turn_few c marks f m e legal true ended = ap (λ (t : Turn). list_any (λ (t : TrackSeen). nat_lt 64 (length t.looks)) t.tracks) (legal.legal.still ended)
turn_few c marks f m e legal false ended =
    let on = legal.legal.goes_on ended in
    none_more 64 e.tracks (λ i h. few_looks c (learnt legal.outside) (seen_at e.tracks i) (served_to c (learnt legal.outside) e.tracks (after_ack e.ack m).tracks i) i (on.tracks i (omega (arith, h, on.whole))))

normal_few : (c : Setup) (marks : Marks) (found : Turn → TurnFound) (m : NormalKept) (turn : Option Turn) (b : Bool) → MatchBool b (turn ≡ None) (MatchOption turn ⊥ (λ e. LegalTurnBy c marks (found e) m e)) → has_more 64 turn ≡ false
normal_few c marks found m turn true none = ap (has_more 64) none
normal_few c marks found m None false legal = absurd legal
normal_few c marks found m (Some e) false legal = turn_few c marks (found e) m e legal e.ended refl

fast_few : (entries : List EntrySeen) (full : Bool) (Early Late : Type 0) (b : Bool) → MatchBool b (entries ≡ []) (IsFastTurn most_round_cycles full entries × Early × Late) → length entries ≤ 16
fast_few entries full Early Late true none = let l : length entries ≡ 0 = ap (λ (es : List EntrySeen). length es) none in omega (arith, l)
fast_few entries full Early Late false legal = legal.0.0

-- a round in which each party is clear has no more entries or looks
pub clear_within : (cut : Bool) (s : Session) (marks : Marks) (run : Run) (round : RoundSeen) → AreClear cut s marks run round → is_beyond 16 64 round ≡ false
clear_within cut s marks run round clear =
    let fast : FastIsClear cut s marks run round = fast_part cut s marks run round (clear (fast_party s) (omega arith)) in
    let normal : NormalIsClear s marks run round = normal_part cut s marks run round (clear (normal_party s) (omega arith)) in
    let entries : length round.entries ≤ 16 = fast_few round.entries (cut && fills s run round) (LegalEntries s marks (with_calls round run) (early_of run round)) (LegalEntries s marks (after_turn s run round) (late_of run round)) (fast_ended run) fast.turn in
    ap (λ b. b || has_more 64 round.turn) (is_not_below 16 (length round.entries) entries) ∙ normal_few (setup_of s) marks (found_in s run round) run.normal round.turn run.normal.ended normal.turn

-- ## What is judged of a legal journal

clear_rounds : (s : Session) (marks : Marks) (run : Run) (rounds : List RoundSeen) → AllClear s marks run rounds → map (first_of_round most_judged) rounds ≡ rounds
clear_rounds s marks run [] clear = refl
clear_rounds s marks run (round ∷ rounds) clear =
    (λ k. round_within most_judged 16 64 (omega arith) (omega arith) round (clear_within false s marks run round clear.0) k ∷ clear_rounds s marks (after_round s run round) rounds clear.1 k)

-- what is judged of a legal journal is the journal itself
pub legal_judged : (script : ScriptData) (files : List (List Frame)) (j : JournalData) → HasNoFault script files j → judged_of j ≡ j
legal_judged script files j clear =
    let s = session_of script files in
    ap (λ (l : List RoundSeen). record { tracks = j.tracks; rounds = l }) (clear_rounds s (marks_of j.rounds) (new_run s) j.rounds clear)

-- ## A front that ends behind a round at fault

module _ (s : Session) (marks : Marks) (round last : RoundSeen) (beyond : is_beyond 16 64 round ≡ true) where
  not_clear : (run : Run) → AreClear false s marks run round → ⊥
  not_clear run clear = true≢false (sym beyond ∙ clear_within false s marks run round clear)

  not_all : (run : Run) (before : List RoundSeen) → AllClear s marks run (before ++ round ∷ last ∷ []) → ⊥
  not_all run [] clear = not_clear run clear.0
  not_all run (b ∷ before) clear = not_all (after_round s run b) before clear.1

  fault_within : (run : Run) (before : List RoundSeen) (number party : ℕ) → IsFirstFault false s marks run (before ++ round ∷ last ∷ []) number party → number ≤ length before
  fault_within run [] zero party fault = omega arith
  fault_within run [] (suc number) party fault = absurd (not_clear run fault.0)
  fault_within run (b ∷ before) zero party fault = omega arith
  fault_within run (b ∷ before) (suc number) party fault = let rest = fault_within (after_round s run b) before number party fault.1 in omega (arith, rest)

module _ (script : ScriptData) (files : List (List Frame)) (front : JournalData) (pcm : List ℕ) (e : EndsBeyond 16 64 front) where
  no_legal : HasNoFault script files front → ⊥
  no_legal clear =
      not_all (session_of script files) (marks_of front.rounds) e.round e.last e.beyond (new_run (session_of script files)) e.before
      (subst (AllClear (session_of script files) (marks_of front.rounds) (new_run (session_of script files))) e.rounds_are clear)

  -- what is found of such a front is a fault in a round before its last one
  pub beyond_tells : (found : Verdict) → IsVerdict script files front pcm found → Tells found false (length front.rounds)
  beyond_tells verdict.Legal v = absurd (no_legal v.0)
  beyond_tells (verdict.Refused (refused.Text line)) v = absurd v
  beyond_tells (verdict.Refused (refused.Pcm at)) v = absurd (no_legal v.0)
  beyond_tells (verdict.Refused (refused.Round number party)) v =
      let lt = fault_within (session_of script files) (marks_of front.rounds) e.round e.last e.beyond (new_run (session_of script files)) e.before number party
      (subst (λ (l : List RoundSeen). IsFirstFault false (session_of script files) (marks_of front.rounds) (new_run (session_of script files)) l number party) e.rounds_are v) in
      let long = ap length e.rounds_are in let parts = length-append e.before (e.round ∷ e.last ∷ []) in
      omega (arith, lt, long, parts)
