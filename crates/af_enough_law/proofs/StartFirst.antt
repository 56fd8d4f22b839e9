-- After seven rounds of a run of a script with enough cycles the middle begins.
use Rattle.std.proofs.Common.{◌≡◌, ℕ, ◌+◌, ◌≤◌, ◌<◌, true, false, List, [], ◌∷◌, length, take, drop, sym, ap, ◌∙◌, subst, arith}
use Rattle.af_enough_law.proofs.Common.{Frame, IsScript, LegalRounds, Marks, Op, RoundSeen, Run, ScriptData, Session, after_round, all_play_through, new_run, run_from, session_of, spec_of}
use Rattle.af_enough_law.proofs.Carried.{SessionCarried}
use Rattle.af_enough_law.proofs.Ends.{AllOver}
use Rattle.af_enough_law.proofs.Playing.{way_ops, way_frames}
use Rattle.af_enough_law.proofs.Carrying.{TrackIs}
use Rattle.af_enough_law.proofs.CarryBegins.{Begun}
use Rattle.af_enough_law.proofs.MiddleNever.{Starts}
use Rattle.af_enough_law.proofs.StartAll.{FirstRounds, begun_track, start_track}
use Rattle.af_enough_law.proofs.StartDone.{most_of, total_of, start_done}
use Rattle.af_enough_law.proofs.Starting.{Begins, not_over, begins_all, session_then, begins_round}
use Rattle.af_enough_law.proofs.TrackAble.{AllAble}

module _ (script : ScriptData) (files : List (List Frame)) (marks : Marks) (form : IsScript script) (through : all_play_through script ≡ true) (lawful : (i : ℕ) → i < length script.tracks → marks.commands i ≡ true) where
  abbrev s : Session
  s = session_of script files

  -- the first rounds, after none of which all lives have ended
  module _ (a b c d e f g h : RoundSeen) (rounds : List RoundSeen) (legal : LegalRounds false (session_of script files) marks (new_run (session_of script files)) (a ∷ b ∷ c ∷ d ∷ e ∷ f ∷ g ∷ h ∷ rounds))
      (never : (k : ℕ) → k ≤ 7 → AllOver (run_from (session_of script files) (new_run (session_of script files)) (take k (a ∷ b ∷ c ∷ d ∷ e ∷ f ∷ g ∷ h ∷ rounds))).normal.tracks → ⊥) where
    abbrev one : Run
    one = after_round s (new_run s) a

    abbrev two : Run
    two = after_round s one b

    abbrev three : Run
    three = after_round s two c

    abbrev four : Run
    four = after_round s three d

    abbrev seven : Run
    seven = after_round s (after_round s (after_round s four e) f) g

    b_one : Begins s one 49
    b_one = begins_round s marks form lawful (new_run s) a legal.0 49 (omega arith) (begins_all script files form through) (never 1 (omega arith))

    b_two : Begins s two 48
    b_two = begins_round s marks form lawful one b legal.1.0 48 (omega arith) b_one (never 2 (omega arith))

    b_three : Begins s three 47
    b_three = begins_round s marks form lawful two c legal.1.1.0 47 (omega arith) b_two (never 3 (omega arith))

    b_four : Begins s four 46
    b_four = begins_round s marks form lawful three d legal.1.1.1.0 46 (omega arith) b_three (never 4 (omega arith))

    c_four : SessionCarried s four
    c_four = session_then s marks form lawful three d legal.1.1.1.0 46 (omega arith) b_three (never 4 (omega arith))

    abbrev r : FirstRounds s marks
    r = record {
      first = a;
      second = b;
      third = c;
      fourth = d;
      fifth = e;
      legal = (legal.0, (legal.1.0, (legal.1.1.0, (legal.1.1.1.0, (legal.1.1.1.1.0, tt)))));
      over_one = not_over one.normal.tracks (never 1 (omega arith));
      over_two = not_over two.normal.tracks (never 2 (omega arith));
      over_three = not_over three.normal.tracks (never 3 (omega arith));
      over_four = not_over four.normal.tracks (never 4 (omega arith));
    }

    tracks_four : (i : ℕ) → i < length script.tracks → TrackIs s four i (most_of s i) (total_of s i)
    tracks_four i named =
        let begun : Begun s i = begun_track script files marks form through lawful r i named in
        let most : begun.most ≡ most_of s i = begun.most_is ∙ sym (ap (λ (ops : List Op). way_ops (drop 2 ops)) begun.plays.whole) in
        let total : begun.total ≡ total_of s i = begun.total_is ∙ sym (ap (λ (ops : List Op). (spec_of s i).base + way_frames (drop 2 ops)) begun.plays.whole) in
        subst (λ (m : ℕ). TrackIs s four i m (total_of s i)) most (subst (λ (n : ℕ). TrackIs s four i begun.most n) total (start_track script files marks form through lawful r i named))

    seven_done : Starts s seven (most_of s) (total_of s) (AllAble s)
    seven_done =
        start_done script files marks form through lawful four e f g h (legal.1.1.1.1.0, (legal.1.1.1.1.1.0, (legal.1.1.1.1.1.1.0, (legal.1.1.1.1.1.1.1.0, tt)))) b_four c_four tracks_four (never 5 (omega arith)) (never 6 (omega arith)) (never 7 (omega arith))

  -- The middle begins after seven rounds
  pub middle_begins : (rounds : List RoundSeen) → 8 ≤ length rounds → LegalRounds false s marks (new_run s) rounds → ((k : ℕ) → k ≤ 7 → AllOver (run_from s (new_run s) (take k rounds)).normal.tracks → ⊥)
      → Starts s (run_from s (new_run s) (take 7 rounds)) (most_of s) (total_of s) (AllAble s)
  middle_begins (a ∷ b ∷ c ∷ d ∷ e ∷ f ∷ g ∷ h ∷ rounds) few legal never = seven_done a b c d e f g h rounds legal never
  middle_begins (a ∷ b ∷ c ∷ d ∷ e ∷ f ∷ g ∷ []) few legal never = absurd (let z : ⊥ = omega (arith, few) in z)
  middle_begins (a ∷ b ∷ c ∷ d ∷ e ∷ f ∷ []) few legal never = absurd (let z : ⊥ = omega (arith, few) in z)
  middle_begins (a ∷ b ∷ c ∷ d ∷ e ∷ []) few legal never = absurd (let z : ⊥ = omega (arith, few) in z)
  middle_begins (a ∷ b ∷ c ∷ d ∷ []) few legal never = absurd (let z : ⊥ = omega (arith, few) in z)
  middle_begins (a ∷ b ∷ c ∷ []) few legal never = absurd (let z : ⊥ = omega (arith, few) in z)
  middle_begins (a ∷ b ∷ []) few legal never = absurd (let z : ⊥ = omega (arith, few) in z)
  middle_begins (a ∷ []) few legal never = absurd (let z : ⊥ = omega (arith, few) in z)
  middle_begins [] few legal never = absurd (let z : ⊥ = omega (arith, few) in z)
