-- The client of a track that was stopped before a round sends its REMOVE in it.
use Rattle.std.proofs.Common.{◌≡◌, ℕ, zero, suc, ◌+◌, ◌*◌, ◌≤◌, Bool, true, false, true≢false, MatchBool, List, [], length, refl, sym, ap, ◌∙◌, subst, arith, if◌then◌else◌}
use Rattle.af_enough_law.proofs.Common.{AreCalls, Heard, Known, LegalRound, Life, Marks, RoundSeen, Run, ServerEvent, Session, TrackKept, TrackTold, after_round, by_report, calls_in, heard, learnt, sides_of, status_word, told_at, track_at}
use Rattle.af_life.specs.State.{life_code}
use Rattle.af_enough_law.proofs.Courses.{course, Course, absent, idle, playing, stopping, drained, stopped, over, stage, told_words}
use Rattle.af_enough_law.proofs.NormalRounds.{TurnMade}
use Rattle.af_enough_law.proofs.Playing.{AreFair}
use Rattle.af_enough_law.proofs.CalmTracks.{round_released}
use Rattle.af_enough_law.proofs.CommandsGo.{CalmCommands, OpenTurn}
use Rattle.af_enough_law.proofs.CourseGoes.{OnCourse, CourseGone}
use Rattle.af_enough_law.proofs.Coursing.{stopped_code, over_out}
use Rattle.af_enough_law.proofs.Following.{greeted_in, greeted_alike}
use Rattle.af_enough_law.proofs.Lives.{removed_by, stopped_stays}
use Rattle.af_enough_law.proofs.SeesStopped.{SaysStopped, remove_sent}
use Rattle.af_enough_law.proofs.StatusSaid.{look_says}
use Rattle.af_enough_law.proofs.TakesAll.{CommandsMet}
use Rattle.af_enough_law.proofs.Turning.{Stands}
use Rattle.std.specs.Prelude.{◌%◌}

-- ## The words of a stopped track

says_word : (s : TrackKept) → life_code s.life.state ≡ 8 → s.life.drained ≡ true → 3 ≤ s.settled → s.settled ≤ 4 → SaysStopped (status_word false s)
unfolding status_word
says_word s code dry some few =
    let word : status_word false s ≡ 8 + 16 + 256 * (s.settled % 16777216) = λ j. code j + (if dry j then 16 else 0) + 256 * (s.settled % 16777216) in
    subst SaysStopped (sym word) (record { state = omega arith; settled = omega (arith, some, few) })

-- a stopped life stays stopped, whether or not it is removed
stopped_on : (count c more : ℕ) (known : Known) (l : Life) → Course count 3 l → stage l ≡ 3 → 3 + more ≤ 4 → known.shut ≡ false
    → (life_code (by_report known (told_words (course c 3 more) l)).state ≡ 8) × ((by_report known (told_words (course c 3 more) l)).drained ≡ true)
stopped_on count c more known l (stopping retries) is few open_is = absurd (let z : ⊥ = omega (arith, is) in z)
stopped_on count c more known l (drained retries) is few open_is = absurd (let z : ⊥ = omega (arith, is) in z)
stopped_on count c zero known l (stopped retries) is few open_is = let e = stopped_stays known retries count open_is in (ap (λ (x : Life). life_code x.state) e, ap (λ (x : Life). x.drained) e)
stopped_on count c (suc zero) known l (stopped retries) is few open_is =
    let e = removed_by 0 retries count in
    let f = ap (by_report known) e ∙ over_out known _ open_is refl in
    (ap (λ (x : Life). life_code x.state) f, ap (λ (x : Life). x.drained) f)
stopped_on count c (suc (suc more)) known l (stopped retries) is few open_is = absurd (let z : ⊥ = omega (arith, few) in z)

-- a life that is on its way to a stop took three commands
pub told_three : (count k : ℕ) (l : Life) → Course count k l → l.ended ≡ false → 1 ≤ stage l → k ≡ 3
told_three count k l absent alive some = absurd (let z : ⊥ = omega (arith, some) in z)
told_three count k l idle alive some = absurd (let z : ⊥ = omega (arith, some) in z)
told_three count k l (playing retries more few) alive some = absurd (let z : ⊥ = omega (arith, some) in z)
told_three count k l (stopping retries) alive some = refl
told_three count k l (drained retries) alive some = refl
told_three count k l (stopped retries) alive some = refl
told_three count k l (over life e) alive some = absurd (true≢false (sym e ∙ alive))

-- ## The round

module _ (cut : Bool) (s : Session) (marks : Marks) (run : Run) (round : RoundSeen) (i : ℕ) (t : TurnMade s marks run round) (legal : LegalRound cut s marks run round) (known : List ServerEvent) (calm : CalmCommands run i known) (turn : OpenTurn s marks run round i t)
    (met : CommandsMet run i) (on : OnCourse run i) (gone : CourseGone s marks run round i t on.told) (alive : (track_at run.normal.tracks i).life.ended ≡ false) (still : stage (track_at run.normal.tracks i).life ≡ 3) where
  abbrev b : TrackTold
  b = told_at run i

  abbrev u : TrackTold
  u = told_at (after_round s run round) i

  abbrev before : TrackKept
  before = track_at run.normal.tracks i

  abbrev after : TrackKept
  after = track_at (after_round s run round).normal.tracks i

  three : on.told ≡ 3
  three = told_three on.count on.told before.life on.follows.course alive (omega (arith, still))

  there : Course on.count 3 before.life
  there = subst (λ (n : ℕ). Course on.count n before.life) three on.follows.course

  -- the status words before and after
  says_before : SaysStopped before.status
  says_before = let code = stopped_code on.count before.life there still in let settled = on.follows.settled in
      subst SaysStopped (sym on.follows.status) (says_word before code.0 code.1 (let e = three in omega (arith, settled, e)) (let e = three in omega (arith, settled, e)))

  says_after : SaysStopped after.status
  says_after =
      let h : Heard = heard (learnt t.by.outside) i (greeted_in run.normal t.turn i) in
      let open_is : h.known.shut ≡ false = turn.unshut (ap (λ (l : Life). l.ended) (greeted_alike t.turn.ack run.normal.last before).life ∙ alive) in
      let next = gone.next in
      let within = gone.after.within in
      let few = gone.after.few in
      let e = three in
      let words : course gone.after.count on.told gone.more ≡ course gone.after.count 3 gone.more = ap (λ (n : ℕ). course gone.after.count n gone.more) e in
      let life : after.life ≡ by_report h.known (told_words (course gone.after.count 3 gone.more) before.life) =
      gone.life ∙ ap (λ (d : Bool). if d then before.life else by_report h.known (told_words (course gone.after.count on.told gone.more) before.life)) alive ∙ ap (λ (ws : List ℕ). by_report h.known (told_words ws before.life)) words in
      let stays = stopped_on on.count gone.after.count gone.more h.known before.life there still (omega (arith, next, within, few, e)) open_is in
      let settled = gone.after.follows.settled in
      subst SaysStopped (sym gone.after.follows.status) (says_word after (ap (λ (l : Life). life_code l.state) life ∙ stays.0) (ap (λ (l : Life). l.drained) life ∙ stays.1) (omega (arith, settled, next, e)) (omega (arith, settled, within, few)))

  -- After the round the REMOVE was sent
  pub removes_round : (most total : ℕ) → Stands (sides_of b) most total → 6 ≤ length b.commands.released → AreFair (calls_in round i) → 8 ≤ length u.commands.released
  removes_round most total stands some fair =
      let made : b.client.ended ≡ false → AreCalls 64 (sides_of b) (calls_in round i) = λ going. subst (λ (d : Bool). MatchBool d (calls_in round i ≡ []) (AreCalls 64 (sides_of b) (calls_in round i))) going (legal.turns.clients i turn.named) in
      let now = remove_sent (sides_of b) (calls_in round i) most total stands some made fair (look_says SaysStopped cut s marks run round i t legal known calm turn met on.status says_before says_after) in
      let same = ap (λ (ws : List ℕ). length ws) (round_released s run round i turn.low) in
      omega (arith, now, same)
