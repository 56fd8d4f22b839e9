-- Once all parties of a play have ended each stream proxy is home, so it met behind each round: the rounds are legal by all marks.
use Rattle.std.proofs.Common.{◌≡◌, ℕ, Bool, true, false, List, [], ◌∷◌, sym, ap, subst, ◌∙◌}
use Rattle.af_play_law.proofs.Common.{AreFewer, EndsHome, LegalRounds, Marks, MatchBool, NormalKept, NormalState, RoundSeen, Run, Session, SessionState, TurnPlayed, after_round, all_home, all_played, and_from, ends, ends_keep, ends_normal, observer_holds, is_home, kept_of, learnt, legal_for_less, met, met_normal, or_left, or_right, run_from, takes_part, track_at, turn_ends, turn_of, with_ends}
use Rattle.af_normal.specs.State.{setup_of}
use Rattle.af_session.specs.Rounds as parties
use Rattle.af_play_law.specs.PlayRuns.{PlaysOn, SureRounds, meets_from, sure_marks}

-- ## What the normal mixer keeps

turn_by : (x n : NormalState) (b : Bool) → MatchBool b (n ≡ x) (TurnPlayed x n) → EndsHome (kept_of x) → EndsHome (kept_of n)
turn_by x n true is h = subst (λ (m : NormalState). EndsHome (kept_of m)) (sym is) h
turn_by x n false (o, legal, made) h = subst EndsHome (sym legal.leaves) (turn_ends (setup_of x) (learnt o) o (kept_of x) (turn_of n.entry) legal.legal h)

-- the rounds of a play keep EndsHome
pub plays_home : (s : Session) (marks : Marks) (rounds : List RoundSeen) (x t : SessionState) → PlaysOn s marks x rounds t → EndsHome (kept_of x.normal) → EndsHome (kept_of t.normal)
plays_home s marks [] x t same h = subst (λ (q : SessionState). EndsHome (kept_of q.normal)) (sym same) h
plays_home s marks (round ∷ rounds) x t (links, u, z, bytes, goes, free, w, rest) h =
    let now : EndsHome (kept_of u.normal) = turn_by x.normal u.normal x.normal.ended w.plays.normal h in
    let kept : kept_of (parties.with_ends z).normal ≡ kept_of u.normal = ap kept_of ((ends_keep z).normal ∙ w.meets.ends.normal) in
    plays_home s marks rounds (parties.with_ends z) t rest (subst EndsHome (sym kept) now)

-- ## The last meetings

pub after_normal : (s : Session) (run : Run) (round : RoundSeen) → (after_round s run round).normal ≡ (all_played s run round).normal
after_normal s run round = ends_normal (met s (all_played s run round)) ∙ met_normal s (all_played s run round)

-- all stream proxies of a mixer are home
abbrev pub AllHome : NormalKept → Type 0
AllHome m = (i : ℕ) → is_home (track_at m.tracks i).holder ≡ true

module _ (s : Session) where
  -- each stream proxy takes part in the meeting behind which it is home
  last_meets : (run : Run) (round : RoundSeen) → AllHome (after_round s run round).normal → (i : ℕ) → takes_part s (all_played s run round) i ≡ true
  last_meets run round home i =
      or_left (is_home (track_at (all_played s run round).normal.tracks i).holder) (observer_holds s (all_played s run round) i)
      (ap (λ (m : NormalKept). is_home (track_at m.tracks i).holder) (sym (after_normal s run round)) ∙ home i)

  all_meet : (run : Run) (round : RoundSeen) (rounds : List RoundSeen) → AllHome (run_from s run (round ∷ rounds)).normal → (i : ℕ) → meets_from s run (round ∷ rounds) i ≡ true
  all_meet run round [] home i = or_left (takes_part s (all_played s run round) i) false (last_meets run round home i)
  all_meet run round (next ∷ rounds) home i = or_right (takes_part s (all_played s run round) i) (meets_from s (after_round s run round) (next ∷ rounds) i) (all_meet (after_round s run round) next rounds home i)

  -- what is legal up to the last meetings is legal
  pub all_legal : (marks : Marks) (rounds : List RoundSeen) (run : Run) → SureRounds s marks run rounds → AllHome (run_from s run rounds).normal → LegalRounds true s marks run rounds
  all_legal marks [] run sure home = tt
  all_legal marks (round ∷ rounds) run sure home =
      let fewer : AreFewer (sure_marks s marks run (round ∷ rounds)) marks = record {
        streams = (λ i on. and_from (marks.streams i) (meets_from s run (round ∷ rounds) i) on (all_meet run round rounds home i));
        commands = (λ i on. on);
      } in
      (legal_for_less true s (sure_marks s marks run (round ∷ rounds)) marks run round fewer sure.0, all_legal marks rounds (after_round s run round) sure.1 home)

pub all_at_home : (m : NormalKept) → EndsHome m → m.ended ≡ true → AllHome m
all_at_home m h ended = all_home m h ended
