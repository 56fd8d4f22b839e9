-- What is found of a round is the least party that isn't clear, and if none is found what is kept is kept of the run after the round.
use Rattle.std.specs.Prelude.{◌↔◌}
use Rattle.std.proofs.Common.{◌≡◌, ℕ, ◌+◌, ◌<◌, ◌≤◌, ◌==◌, ◌&&◌, ◌||◌, zero, suc, drop, nat_lt, Bool, true, false, true≢false, IsTrue, List, [], length, Option, None, arith, refl, sym, ap, subst, ◌∙◌}
use Rattle.af_audit.proofs.Common.{AreRight, AreShort, BesideQueue, BothKeep, EntrySeen, FastOf, IsFastLegal, IsFastTurn, IsTrackAt, KeepsTracks, LegalEntries, LegalFastTurn, LegalNormalTurn, Marks, MatchBool, NormalKept, NormalOf, QueueOf, Report, RoundSeen, Run, Session, SharedHistories, StatesKept, TrackHistories, TrackJudge, after_round, after_turn, all_ended, all_played, beside_ended, beside_met, blocks_met, carries_track, early_count, early_of, ends_same, fast_ended, fast_met, fast_party, fast_same, fills, goes_ended, is_home, late_of, met, met_after, met_normal as met-normal, most_round_cycles, nat_tests, normal_party, queue_met_so, round_used, same_track, shared_judged, sides_of, spec_of, state_at, takes_part, told_at, track_at, track_count, track_judged, tracks_met, with_calls, with_meeting}
use Rattle.af_audit.specs.declared.run_judge.Found.{Found}
use Rattle.af_audit.specs.declared.run_judge.RunJudge.{RunJudge}
use Rattle.af_audit.specs.MeetingsJudged.{Keeps, TracksMet, is_there, mixers_met}
use Rattle.af_audit.specs.RoundTold.{tracks_ended}
use Rattle.af_audit.specs.RunKept.{IsFit, KeepsRun, LeastBelow, least_found}
use Rattle.af_audit.proofs.Words.{FindsFaults, IsLegalCaller}
use Rattle.af_audit.specs.Verdicts.{ClientIsClear, FastIsClear, IsClear, NormalIsClear}
use Rattle.af_audit.proofs.JudgedExactly.{client_part, fast_part, normal_part}
use Rattle.af_audit.proofs.LeastOnes.{found_least}
use Rattle.af_audit.proofs.RoundEnds.{ends_keep, ends_normal, met_normal}
use Rattle.af_audit.proofs.SidesKept.{fit_played, fit_round}
use Rattle.af_audit.proofs.TrackThere.{track_there}

-- ## The parties of a round

from_client : (cut : Bool) (s : Session) (marks : Marks) (run : Run) (round : RoundSeen) (p : ℕ) → p < track_count s → ClientIsClear s run round p → IsClear cut s marks run round p
from_client cut s marks run round p lt h =
    subst (λ (b : Bool). MatchBool b (ClientIsClear s run round p) (MatchBool (p == normal_party s) (NormalIsClear s marks run round) (FastIsClear cut s marks run round))) (let is : true ≡ nat_lt p (normal_party s) = grind (arith, nat_tests, lt) in is) h

from_normal : (cut : Bool) (s : Session) (marks : Marks) (run : Run) (round : RoundSeen) → NormalIsClear s marks run round → IsClear cut s marks run round (track_count s)
from_normal cut s marks run round h =
    subst (λ (b : Bool). MatchBool b (ClientIsClear s run round (track_count s)) (MatchBool (track_count s == normal_party s) (NormalIsClear s marks run round) (FastIsClear cut s marks run round))) (below (track_count s))
    (subst (λ (b : Bool). MatchBool b (NormalIsClear s marks run round) (FastIsClear cut s marks run round)) (same (track_count s)) h)
  where
    below : (n : ℕ) → false ≡ nat_lt n n
    below n = grind (arith, nat_tests)

    same : (n : ℕ) → true ≡ (n == n)
    same n = grind (arith, nat_tests)

from_fast : (cut : Bool) (s : Session) (marks : Marks) (run : Run) (round : RoundSeen) → FastIsClear cut s marks run round → IsClear cut s marks run round (track_count s + 1)
from_fast cut s marks run round h =
    subst (λ (b : Bool). MatchBool b (ClientIsClear s run round (track_count s + 1)) (MatchBool (track_count s + 1 == normal_party s) (NormalIsClear s marks run round) (FastIsClear cut s marks run round))) (below (track_count s))
    (subst (λ (b : Bool). MatchBool b (NormalIsClear s marks run round) (FastIsClear cut s marks run round)) (other (track_count s)) h)
  where
    below : (n : ℕ) → false ≡ nat_lt (n + 1) n
    below n = grind (arith, nat_tests)

    other : (n : ℕ) → false ≡ (n + 1 == n)
    other n = grind (arith, nat_tests)

-- ## What is found of the meetings

module _ (s : Session) (marks : Marks) (round : RoundSeen) (run : Run) (W : ℕ → Type 0) (k : RunJudge) (played after : List TrackJudge) (found : Option ℕ) (earlier : List Report)
    (tracks : KeepsTracks s marks W played (all_played s run round)) (normal : NormalOf s (all_played s run round) k.normal) (fast : FastOf s earlier (all_played s run round) k.fast)
    (meets : TracksMet k (length played) played after found) (many : length after ≡ length played) where
  -- a track's stream proxy is there exactly if it takes part in the meeting
  there-same : (n : ℕ) → is_there k n ≡ takes_part s (all_played s run round) n
  there-same n = λ i. is_home (track_at (normal.kept i).tracks n).holder || carries_track (state_at (fast.asked i) (normal.states i) (fast.current i)) n

  met-is : (n : ℕ) (t u : TrackJudge) → IsTrackAt played n t → IsTrackAt after n u → u ≡ blocks_met (takes_part s (all_played s run round) n) (all_played s run round).handed t
  met-is n t u a b = meets.met n t u a.0 a b ∙ (λ i. blocks_met (there-same n i) (normal.handed i) t)

  -- what is found of a track's blocks is whether they have their histories
  pub keeps_exact : (n : ℕ) → n < length played → W n → IsFit s n (sides_of (told_at (all_played s run round) n)) → Keeps k after n ↔ TrackHistories s (met_after s run round) n
  keeps_exact n lt w fit =
      let r = all_played s run round in
      let one = track_there played n lt in
      let two = track_there after n (omega (arith, lt, many)) in
      let t : TrackJudge = one.0 in
      let u : TrackJudge = two.0 in
      let a : IsTrackAt played n t = one.1 in
      let b : IsTrackAt after n u = two.1 in
      let low : n < length r.tracks = (let m = tracks.many in omega (arith, lt, m)) in
      let is = met-is n t u a b in
      let short : AreShort (takes_part s r n) u = subst (λ (x : Bool). AreShort x u) (there-same n) (meets.short n u lt b) in
      let exact = track_judged s r n (spec_of s n).ops t low (tracks.whole n t a w) fit.spelled fit.stream fit.commands (subst (AreShort (takes_part s r n)) is short) in (
        (λ h. exact.0 (subst (BothKeep (takes_part s r n)) is (subst (λ (x : Bool). BothKeep x u) (there-same n) (h u b)))),
        (λ h. λ v c. subst (BothKeep (is_there k n)) (same_track after n u v b c) (subst (λ (x : Bool). BothKeep x u) (sym (there-same n)) (subst (BothKeep (takes_part s r n)) (sym is) (exact.1 h)))),
      )

  -- if all blocks have their histories each track is kept after the meetings
  pub met_keep : ((n : ℕ) → n < length played → W n) → KeepsTracks s marks W after (met_after s run round)
  met_keep all = tracks_met s marks W played after (all_played s run round) tracks all many met-is

-- ## The round

-- the late entries of a legal turn of the fast mixer are legal
late_legal : (cut : Bool) (s : Session) (marks : Marks) (run : Run) (round : RoundSeen) → LegalFastTurn cut s marks run round → LegalEntries s marks (after_turn s run round) (late_of run round)
late_legal cut s marks run round turn = by_case (fast_ended run) turn
  where
    none : (es : List EntrySeen) (n : ℕ) → es ≡ [] → drop n es ≡ []
    none es zero is = is
    none es (suc n) is = ap (λ (l : List EntrySeen). drop (suc n) l) is

    by_case : (b : Bool) → MatchBool b (round.entries ≡ []) (IsFastTurn most_round_cycles (cut && fills s run round) round.entries × LegalEntries s marks (with_calls round run) (early_of run round) × LegalEntries s marks (after_turn s run round) (late_of run round))
        → LegalEntries s marks (after_turn s run round) (late_of run round)
    by_case true is = subst (LegalEntries s marks (after_turn s run round)) (sym (none round.entries (early_count run round) is)) tt
    by_case false h = h.2

module _ (cut : Bool) (s : Session) (marks : Marks) (round : RoundSeen) (run : Run) (j : RunJudge) (tracks : List TrackJudge) (keeps : KeepsRun s marks j tracks run) (f : Found) (mixed k : RunJudge) (played met_tracks after : List TrackJudge) (over right entered may shared : Bool)
    (some : 0 < track_count s)
    (over_is : over ≡ true → all_ended s run ≡ true) (going_is : over ≡ false → all_ended s run ≡ false)
    (caller_is : LeastBelow (IsLegalCaller run round) (length tracks) f.caller)
    (of_tracks : KeepsTracks s marks (IsLegalCaller run round) played (all_played s run round)) (normal : NormalOf s (all_played s run round) mixed.normal) (fast : FastOf s run.reports (all_played s run round) mixed.fast)
    (queue : LegalNormalTurn s marks run round → QueueOf s (all_played s run round) mixed.fast.queue) (beside : LegalNormalTurn s marks run round → BesideQueue s (all_played s run round) mixed.report mixed.fast.pipe)
    (turn_is : IsTrue right ↔ LegalNormalTurn s marks run round) (fast_is : (IsTrue entered × IsTrue may) ↔ IsFastLegal cut s marks run round)
    (shared_is : IsTrue shared ↔ AreRight mixed.fast.told.report.cycle mixed.fast.queue mixed.report mixed.fast.pipe)
    (found_normal : IsTrue f.normal ↔ (IsTrue right × IsTrue shared)) (found_fast : IsTrue f.fast ↔ (IsTrue entered × IsTrue may))
    (meets : TracksMet mixed (length played) played met_tracks f.met) (as_many : length met_tracks ≡ length played)
    (states : StatesKept s (after_round s run round).normal (after_round s run round).states) (played_states : StatesKept s (all_played s run round).normal (all_played s run round).states) where
  many-played : length played ≡ length tracks
  many-played = of_tracks.all ∙ sym keeps.of_tracks.all

  low-run : (n : ℕ) → n < length tracks → n < length run.tracks
  low-run n lt = (let m = keeps.of_tracks.many in omega (arith, lt, m))

  in-script : (n : ℕ) → n < length tracks → n < track_count s
  in-script n lt = (let a = keeps.of_tracks.all in omega (arith, lt, a))

  fit-here : (n : ℕ) → n < length tracks → IsLegalCaller run round n → IsFit s n (sides_of (told_at (all_played s run round) n))
  fit-here n lt legal = fit_played s run round n (low-run n lt) legal (keeps.fit n (in-script n lt))

  exact : (n : ℕ) → n < length tracks → IsLegalCaller run round n → Keeps mixed met_tracks n ↔ TrackHistories s (met_after s run round) n
  exact n lt legal = keeps_exact s marks round run (IsLegalCaller run round) mixed played met_tracks f.met run.reports of_tracks normal fast meets as_many n (let m = many-played in omega (arith, lt, m)) legal (fit-here n lt legal)

  -- a client is clear if its turn is legal and its blocks have their histories
  client-of : (p : ℕ) → p < length tracks → IsClear cut s marks run round p → ClientIsClear s run round p
  client-of p lt clear = client_part cut s marks run round p (in-script p lt) clear

  stored : mixed.fast.told.report.cycle ≡ length (all_played s run round).reports
  stored = ap (λ (r : Report). r.cycle) fast.report ∙ (fast.numbered.cycle ∙ sym fast.numbered.many)

  -- what both mixers share has its histories
  shared-exact : LegalNormalTurn s marks run round → IsTrue shared ↔ SharedHistories s (met_after s run round)
  shared-exact legal =
      let judged = shared_judged s (all_played s run round) mixed.fast.queue mixed.report mixed.fast.pipe played_states.follow (queue legal) (beside legal) in
      let at = subst (λ (n : ℕ). IsTrue shared ↔ AreRight n mixed.fast.queue mixed.report mixed.fast.pipe) stored shared_is in
      ((λ h. judged.0 (at.0 h)), (λ h. at.1 (judged.1 h)))

  normal-exact : IsTrue f.normal ↔ NormalIsClear s marks run round
  normal-exact = (
    (λ h. let b = found_normal.0 h in let legal = turn_is.0 b.0 in record { turn = legal; histories = (shared-exact legal).0 b.1 }),
    (λ h. found_normal.1 (turn_is.1 h.turn, (shared-exact h.turn).1 h.histories)),
  )

  fast-exact : IsTrue f.fast ↔ FastIsClear cut s marks run round
  fast-exact = (
    (λ h. let l = fast_is.0 (found_fast.0 h) in record { turn = l.turn; within = l.within; room = l.room }),
    (λ h. found_fast.1 (fast_is.1 (record { turn = h.turn; within = h.within; room = h.room }))),
  )

  by-many : (P : ℕ → Type 0) → P (track_count s) → P (length tracks)
  by-many P h = subst P (sym keeps.of_tracks.all) h

  finds : FindsFaults (IsClear cut s marks run round) (IsLegalCaller run round) (Keeps mixed met_tracks) over (length tracks) f
  finds = record {
    behind = λ is clear. true≢false (sym (over_is is) ∙ (client-of 0 (let a = keeps.of_tracks.all in omega (arith, some, a)) clear).going refl);
    going = λ is p lt turn met. from_client cut s marks run round p (in-script p lt) (record { going = λ first. going_is is; turn = turn; histories = (exact p lt turn).0 met });
    turn = λ p lt clear. (client-of p lt clear).turn;
    met = λ p lt clear. let c = client-of p lt clear in (exact p lt c.turn).1 c.histories;
    caller_is = caller_is;
    met_is = subst (λ (n : ℕ). LeastBelow (Keeps mixed met_tracks) n f.met) many-played meets.least;
    normal_is = λ all. by-many (λ n. IsTrue f.normal ↔ IsClear cut s marks run round n) ((λ h. from_normal cut s marks run round (normal-exact.0 h)), (λ h. normal-exact.1 (normal_part cut s marks run round h)));
    fast_is = λ all. by-many (λ n. IsTrue f.fast ↔ IsClear cut s marks run round (n + 1)) ((λ h. from_fast cut s marks run round (fast-exact.0 h)), (λ h. fast-exact.1 (fast_part cut s marks run round h)));
  }

  -- the least party that isn't clear is found
  pub least_so : LeastBelow (IsClear cut s marks run round) (fast_party s + 1) (least_found over (length tracks) f)
  least_so = subst (λ (n : ℕ). LeastBelow (IsClear cut s marks run round) n (least_found over (length tracks) f)) (let a = keeps.of_tracks.all in let e : length tracks + 2 ≡ fast_party s + 1 = omega (arith, a) in e) (found_least (IsClear cut s marks run round) (IsLegalCaller run round) (Keeps mixed met_tracks) (length tracks) f over finds)

  -- if no party is found what is kept is kept of the run after the round
  module _ (left : k ≡ mixers_met mixed) (ended : after ≡ tracks_ended mixed.normal.plain.kept.ended met_tracks) (cycles : mixed.cycles ≡ s.script.cycles) (drafts : mixed.fast.told.draft ≡ mixed.normal.plain.kept.draft) (none : least_found over (length tracks) f ≡ None) where
    clear : (p : ℕ) → p ≤ fast_party s → IsClear cut s marks run round p
    clear p low = subst (λ (o : Option ℕ). LeastBelow (IsClear cut s marks run round) (fast_party s + 1) o) none least_so p (omega (arith, low))

    legal-caller : (n : ℕ) → n < length tracks → IsLegalCaller run round n
    legal-caller n lt = (client-of n lt (clear n (let a = in-script n lt in omega (arith, a)))).turn

    normal-clear : NormalIsClear s marks run round
    normal-clear = normal_part cut s marks run round (clear (track_count s) (omega arith))

    fast-clear : FastIsClear cut s marks run round
    fast-clear = fast_part cut s marks run round (clear (fast_party s) (omega arith))

    all-whole : (n : ℕ) → n < length played → IsLegalCaller run round n
    all-whole n lt = legal-caller n (let m = many-played in omega (arith, lt, m))

    met-kept : KeepsTracks s marks (λ n. Unit {0}) met_tracks (met_after s run round)
    met-kept =
        let h = met_keep s marks round run (IsLegalCaller run round) mixed played met_tracks f.met run.reports of_tracks normal fast meets as_many all-whole in
        record { many = h.many; all = h.all; served = h.served; whole = λ n t at w. h.whole n t at (all-whole n (let a = at.0 in omega (arith, a, as_many))) }

    right-so : AreRight (length (all_played s run round).reports) mixed.fast.queue mixed.report mixed.fast.pipe
    right-so = subst (λ (n : ℕ). AreRight n mixed.fast.queue mixed.report mixed.fast.pipe) stored (shared_is.0 ((shared-exact normal-clear.turn).1 normal-clear.histories))

    late-legal : LegalEntries s marks (after_turn s run round) (late_of run round)
    late-legal = late_legal cut s marks run round fast-clear.turn

    after-normal : NormalOf s (after_round s run round) mixed.normal
    after-normal = ends_normal s (met_after s run round) mixed.normal (met_normal s (all_played s run round) mixed.normal normal)

    pub kept_so : KeepsRun s marks k after (after_round s run round)
    kept_so = subst (λ (x : RunJudge × List TrackJudge). KeepsRun s marks x.0 x.1 (after_round s run round)) (λ i. (sym left i, sym ended i)) (record {
      of_tracks = ends_keep s marks (λ n. Unit {0}) met_tracks (met_after s run round) mixed.normal.plain.kept.ended (ap (λ (m : NormalKept). m.ended) (normal.kept ∙ sym (met-normal s (all_played s run round)))) met-kept;
      fit = λ n lt. fit_round s run round n (let a = keeps.of_tracks.all in let m = keeps.of_tracks.many in omega (arith, lt, a, m)) (legal-caller n (let a = keeps.of_tracks.all in omega (arith, lt, a))) (keeps.fit n lt);
      normal = after-normal;
      states = states;
      earlier = run.reports;
      fast = fast_same s run.reports (met_after s run round) (after_round s run round) (mixers_met mixed).fast (ends_same (met_after s run round))
          (fast_met s run.reports (all_played s run round) mixed.fast (mixers_met mixed).fast.queue (ap (λ l. length l) (beside normal-clear.turn).pipe.puts) fast);
      draft = (let n = after-normal in drafts ∙ ap (λ (m : NormalKept). m.draft) n.kept);
      used = round_used s marks run round keeps.used late-legal;
      queue = goes_ended s (met_after s run round) (mixers_met mixed).fast.queue (queue_met_so s (all_played s run round) mixed.fast.queue mixed.report mixed.fast.pipe played_states.follow right-so (queue normal-clear.turn));
      beside = beside_ended s (met_after s run round) (mixers_met mixed).report (mixers_met mixed).fast.pipe
          (subst (λ (n : ℕ). BesideQueue s (met_after s run round) (record { met = n; loaded = None }) (with_meeting mixed.fast.pipe)) (sym stored) (beside_met s (all_played s run round) mixed.fast.queue mixed.report mixed.fast.pipe right-so (beside normal-clear.turn)));
      unloaded = refl;
      cycles = cycles;
    })
