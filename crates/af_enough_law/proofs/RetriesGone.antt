-- How many retries a round leaves a track, whatever it hears.
use Rattle.std.proofs.Common.{◌≡◌, ℕ, ◌+◌, ◌≤◌, ◌||◌, nat_lt, if◌then◌else◌, Bool, true, false, None, sym, ap, ◌∙◌, subst, arith}
use Rattle.af_enough_law.proofs.Common.{Heard, Life, Marks, RoundSeen, Run, Session, TrackKept, after_round, by_report, heard, learnt, track_at}
use Rattle.af_enough_law.proofs.Courses.{course, Course, told_words}
use Rattle.af_enough_law.proofs.NormalRounds.{TurnMade}
use Rattle.af_enough_law.proofs.Able.{words_keep, report_leaves}
use Rattle.af_enough_law.proofs.CommandsGo.{OpenTurn}
use Rattle.af_enough_law.proofs.CourseGoes.{OnCourse, CourseGone}
use Rattle.af_enough_law.proofs.Coursing.{course_all}
use Rattle.af_enough_law.proofs.Following.{greeted_in, greeted_alike, told_life}
use Rattle.af_enough_law.proofs.Retries.{retries_left, course_alive}
use Rattle.af_enough_law.proofs.SentCourse.{follows_any}

-- a round takes one retry at most
pub retries_gone : (s : Session) (marks : Marks) (run : Run) (round : RoundSeen) (i told n : ℕ) (t : TurnMade s marks run round) → CourseGone s marks run round i t told → n + 1 ≤ (track_at run.normal.tracks i).life.retries → n + 1 ≤ 50 → n ≤ (track_at (after_round s run round).normal.tracks i).life.retries
retries_gone s marks run round i told n t gone some few =
    let l : Life = (track_at run.normal.tracks i).life in
    let h : Heard = heard (learnt t.by.outside) i (greeted_in run.normal t.turn i) in
    let words = course gone.after.count told gone.more in
    let kept : n + 1 ≤ (told_words words l).retries = words_keep (n + 1) few words l some in
    let left : n ≤ (by_report h.known (told_words words l)).retries = report_leaves n h.known (told_words words l) kept few in
    subst (λ (x : Life). n ≤ x.retries) (sym gone.life) (by l.ended left)
  where
    by : (b : Bool) → n ≤ (by_report (heard (learnt t.by.outside) i (greeted_in run.normal t.turn i)).known (told_words (course gone.after.count told gone.more) (track_at run.normal.tracks i).life)).retries
        → n ≤ (if b then (track_at run.normal.tracks i).life else by_report (heard (learnt t.by.outside) i (greeted_in run.normal t.turn i)).known (told_words (course gone.after.count told gone.more) (track_at run.normal.tracks i).life)).retries
    by true left = omega (arith, some)
    by false left = left

-- the round leaves 49 or 50 retries of a track that plays, if frames were heard of
pub fresh_gone : (s : Session) (marks : Marks) (run : Run) (round : RoundSeen) (i : ℕ) (t : TurnMade s marks run round) (on : OnCourse run i) → OpenTurn s marks run round i t → (gone : CourseGone s marks run round i t on.told) → gone.after.told ≡ 2 → 2 ≤ (track_at run.normal.tracks i).life.retries
    → (let h = heard (learnt t.by.outside) i (greeted_in run.normal t.turn i) in nat_lt 0 h.known.fulls || nat_lt 0 h.known.partials) ≡ true → 49 ≤ (track_at (after_round s run round).normal.tracks i).life.retries
fresh_gone s marks run round i t on turn gone at two fresh =
    let s0 : TrackKept = track_at run.normal.tracks i in
    let g : TrackKept = greeted_in run.normal t.turn i in
    let h : Heard = heard (learnt t.by.outside) i g in
    let count = gone.after.count in
    let more = gone.more in
    let sum : on.told + more ≡ 2 = sym gone.next ∙ at in
    let f = follows_any on.count count on.told s0 (omega (arith, sum)) on.follows in
    let x : Life = told_words (course count on.told more) s0.life in
    let there : Course count 2 x = subst (λ (n : ℕ). Course count n x) sum (subst (Course count (on.told + more)) (told_life None (course count on.told more) s0) (course_all count None more on.told s0 (omega (arith, sum)) f.course)) in
    let alive : s0.life.ended ≡ false = course_alive count on.told s0.life f.course (omega (arith, sum)) in
    let open_is = turn.unshut (ap (λ (l : Life). l.ended) (greeted_alike t.turn.ack run.normal.last s0).life ∙ alive) in
    let life : (track_at (after_round s run round).normal.tracks i).life ≡ by_report h.known x = gone.life ∙ ap (λ (b : Bool). if b then s0.life else by_report h.known x) alive in
    let left = (retries_left count h.known x there open_is (words_keep 2 (omega arith) (course count on.told more) s0.life two)).1 fresh in
    subst (λ (l : Life). 49 ≤ l.retries) (sym life) left
