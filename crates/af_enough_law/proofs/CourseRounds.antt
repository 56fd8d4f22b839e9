-- A legal round leaves a track on its course.
use Rattle.std.proofs.Common.{◌≡◌, ◌⊎◌, inl, inr, ℕ, ◌+◌, ◌*◌, ◌≤◌, ◌<◌, ◌&&◌, ◌||◌, Bool, true, false, None, List, length, ap, ◌∙◌, arith}
use Rattle.af_enough_law.proofs.Common.{GoesOn, IsServed, Learnt, Life, Marks, NormalKept, Outside, RoundSeen, Run, Session, Setup, TrackKept, Turn, by_false, heard, commands_exit, learnt, most_looks, nothing_seen, ready, track_at, track_in, words_taken}
use Rattle.af_enough_law.proofs.Basics.{course_long}
use Rattle.af_enough_law.proofs.Courses.{none_shut, is_ended, starts_at_once, course, Follows}
use Rattle.af_enough_law.proofs.NormalRounds.{TurnMade}
use Rattle.af_enough_law.proofs.TrackTurns.{TrackTurned}
use Rattle.af_enough_law.proofs.Following.{greeted_in, greeted_alike, legal_greeted}
use Rattle.af_enough_law.proofs.Coursing.{course_starts}
use Rattle.af_enough_law.proofs.Served.{track_turned}
use Rattle.af_enough_law.proofs.Told.{served_ends}

-- the looks of a turn at a track for which no START waits end with one that shows no command, if they take commands of a course
pub looks_end : (count j more : ℕ) (c : Setup) (o : Outside) (m : NormalKept) (e : Turn) (i : ℕ) → i < length m.tracks → e.ended ≡ false → GoesOn c o m e → (track_at m.tracks i).awaits ≡ None → (track_at m.tracks i).life.ended ≡ false → j + more ≤ 4
    → none_shut (track_in e i).looks ≡ true → words_taken (track_in e i).looks ≡ course count j more → is_ended (track_in e i).looks ≡ true
looks_end count j more c o m e i lt runs goes idle alive le open_is words =
    let k : Learnt = learnt o in
    let t : TrackTurned c k m e i = track_turned c k m e i lt runs in
    let g : TrackKept = greeted_in m e i in
    let same = greeted_alike e.ack m.last (track_at m.tracks i) in
    let served : IsServed t.given (heard k i g) (track_in e i) (ready k i g) = by_false (track_in e i ≡ nothing_seen) (IsServed t.given (heard k i g) (track_in e i) (ready k i g)) g.life.ended (ap (λ (l : Life). l.ended) same.life ∙ alive) (legal_greeted c o m e i lt goes t) in
    let long : length (words_taken (track_in e i).looks) ≡ 2 * more = ap (λ (ws : List ℕ). length ws) words ∙ course_long count j more in
    few (is_ended (track_in e i).looks) (length (words_taken (track_in e i).looks)) more long le (served_ends t.given k i (track_in e i) g (same.awaits ∙ idle) open_is (ap starts_at_once words ∙ course_starts count j more) served)
  where
    few : (b : Bool) (n more : ℕ) → n ≡ 2 * more → j + more ≤ 4 → (b ≡ true) ⊎ (2 * most_looks ≤ n) → b ≡ true
    few b n more e le (inl h) = h
    few b n more e le (inr h) = absurd (omega arith)

-- the looks of a turn at a track on its course end with one that shows no command
pub course_ends : (count j more : ℕ) (c : Setup) (o : Outside) (m : NormalKept) (e : Turn) (i : ℕ) → i < length m.tracks → e.ended ≡ false → GoesOn c o m e → Follows count j (track_at m.tracks i) → (track_at m.tracks i).life.ended ≡ false → j + more ≤ 4
    → none_shut (track_in e i).looks ≡ true → words_taken (track_in e i).looks ≡ course count j more → is_ended (track_in e i).looks ≡ true
course_ends count j more c o m e i lt runs goes f alive le open_is words = looks_end count j more c o m e i lt runs goes f.awaits alive le open_is words

-- while its turn follows, the mixer hasn't ended: it ends only if an Exit is acknowledged
pub goes_unless_exit : (s : Session) (marks : Marks) (run : Run) (round : RoundSeen) (t : TurnMade s marks run round) → run.normal.ended ≡ false → commands_exit run.normal.last ≡ false → t.turn.ended ≡ false
goes_unless_exit s marks run round t runs going = t.by.legal.ends ∙ (λ i. runs i || (going i && t.turn.ack))
