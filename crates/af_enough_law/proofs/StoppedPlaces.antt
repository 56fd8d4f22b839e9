-- Where the proxy of a stopped track is, from round to round: the turn never hears that its stream is shut.
use Rattle.std.proofs.Common.{◌≡◌, ◌⊎◌, inl, inr, ℕ, zero, suc, ◌+◌, ◌≤◌, ◌==◌, ◌&&◌, ◌||◌, not, if◌then◌else◌, Bool, true, false, true≢false, length, refl, sym, ap, ◌∙◌, subst, arith}
use Rattle.af_enough_law.proofs.Common.{FastState, FastTrack, Holder, Home, Lent, Life, Marks, Returning, RoundSeen, Run, Session, TrackKept, after_round, by_report, carries, comes_home, heard, is_home, is_returning, learnt, plays, slot_number, track_at, welcomed}
use Rattle.af_enough_law.proofs.Acks.{KnowsAcked}
use Rattle.af_enough_law.proofs.Courses.{course, Course, stage, life_after}
use Rattle.af_enough_law.proofs.FastWords.{Plays, IsTold, slot_told}
use Rattle.af_enough_law.proofs.NormalRounds.{TurnMade}
use Rattle.af_enough_law.proofs.TrackTurns.{greeted}
use Rattle.af_enough_law.proofs.CommandsGo.{OpenTurn}
use Rattle.af_enough_law.proofs.CourseGoes.{OnCourse, CourseGone}
use Rattle.af_enough_law.proofs.Coursing.{course_plays, stage_reported}
use Rattle.af_enough_law.proofs.Following.{greeted_in, greeted_alike}
use Rattle.af_enough_law.proofs.LeftEntries.{IsOut, SaysOpen}
use Rattle.af_enough_law.proofs.Lookahead.{Coming}
use Rattle.af_enough_law.proofs.Retries.{course_alive}
use Rattle.af_enough_law.proofs.StoppedTracks.{StoppedCarried}

-- ## A stopped life

heard_not : (b : Bool) → (false || (true && not b)) ≡ false → b ≡ true
heard_not true e = refl
heard_not false e = absurd (true≢false e)

stage_back : (n : ℕ) → n ≡ 3 → (false || (true && not (n == 3))) ≡ false
stage_back n e = ap (λ (m : ℕ). false || (true && not (m == 3))) e

-- a life that isn't to be heard isn't to be heard after a report either
still_out : (count last told more : ℕ) (l after : Life) → 3 ≤ told → told + more ≤ 4 → Course count told l → plays l ≡ false → Course last (told + more) after → (told ≡ 3 → more ≡ 0 → stage l ≡ 3 → stage after ≡ 3) → plays after ≡ false
still_out count last (suc (suc (suc zero))) zero l after some few there out then_there open_is = course_plays last 3 after then_there ∙ stage_back (stage after) (open_is refl refl (let t = heard_not (stage l == 3) (sym (course_plays count 3 l there) ∙ out) in search (arith, t)))
still_out count last (suc (suc (suc zero))) (suc zero) l after some few there out then_there open_is = course_plays last 4 after then_there
still_out count last (suc (suc (suc (suc zero)))) zero l after some few there out then_there open_is = course_plays last 4 after then_there
still_out count last zero more l after some few there out then_there open_is = absurd (let z : ⊥ = omega (arith, some) in z)
still_out count last (suc zero) more l after some few there out then_there open_is = absurd (let z : ⊥ = omega (arith, some) in z)
still_out count last (suc (suc zero)) more l after some few there out then_there open_is = absurd (let z : ⊥ = omega (arith, some) in z)
still_out count last (suc (suc (suc zero))) (suc (suc more)) l after some few there out then_there open_is = absurd (let z : ⊥ = omega (arith, few) in z)
still_out count last (suc (suc (suc (suc told)))) (suc more) l after some few there out then_there open_is = absurd (let z : ⊥ = omega (arith, few) in z)
still_out count last (suc (suc (suc (suc (suc told))))) more l after some few there out then_there open_is = absurd (let z : ⊥ = omega (arith, few) in z)

-- a round leaves a track that took its STOP and has left the mix out of it
pub out_round : (s : Session) (marks : Marks) (run : Run) (round : RoundSeen) (i : ℕ) (t : TurnMade s marks run round) (on : OnCourse run i) → 3 ≤ on.told → plays (track_at run.normal.tracks i).life ≡ false → OpenTurn s marks run round i t → CourseGone s marks run round i t on.told
    → plays (track_at (after_round s run round).normal.tracks i).life ≡ false
out_round s marks run round i t on three_told out turn gone =
    let l : Life = (track_at run.normal.tracks i).life in
    let u : Life = (track_at (after_round s run round).normal.tracks i).life in
    let g : TrackKept = greeted_in run.normal t.turn i in
    let first = greeted_alike t.turn.ack run.normal.last (track_at run.normal.tracks i) in
    let a = gone.next in
    let b = gone.after.within in
    let d = gone.after.few in
    still_out on.count gone.after.count on.told gone.more l u three_told (omega (arith, a, b, d)) on.follows.course out (subst (λ (n : ℕ). Course gone.after.count n u) gone.next gone.after.follows.course)
    (λ three none at.
    let there : Course on.count 3 l = subst (λ (n : ℕ). Course on.count n l) three on.follows.course in
    let alive : l.ended ≡ false = course_alive on.count 3 l there (omega arith) in
    let open_is = turn.unshut (ap (λ (x : Life). x.ended) first.life ∙ alive) in
    let life : u ≡ by_report (heard (learnt t.by.outside) i g).known l = gone.life ∙ ap (λ (n : ℕ). life_after (heard (learnt t.by.outside) i g) (course gone.after.count on.told n) l) none ∙ ap (λ (b : Bool). if b then l else by_report (heard (learnt t.by.outside) i g).known l) alive in
    ap stage life ∙ (stage_reported on.count (heard (learnt t.by.outside) i g).known l open_is there).2 (omega (arith, at)))

-- a round leaves a stopped track out of the mix
pub stopped_out : (s : Session) (marks : Marks) (run : Run) (round : RoundSeen) (i most total : ℕ) (t : TurnMade s marks run round) (z : StoppedCarried run i most total) → OpenTurn s marks run round i t → CourseGone s marks run round i t z.on.told → plays (track_at (after_round s run round).normal.tracks i).life ≡ false
stopped_out s marks run round i most total t z turn gone = out_round s marks run round i t z.on z.told z.out turn gone

-- ## Places

-- Where the proxy of a stopped track is: home; on its way, so that it is home in the next turn; on its way, if the last state has nothing of it and the last report says that its server is open; or still with the fast mixer by the last state, which is known to be acknowledged
pub data Place (s : Session) (run : Run) (i slot : ℕ) (item : FastTrack) : Type 0 where
  at_home : (track_at run.normal.tracks i).holder ≡ Home → Place s run i slot item
  comes : (track_at run.normal.tracks i).holder ≡ Returning → Coming run slot → Place s run i slot item
  waits : (track_at run.normal.tracks i).holder ≡ Returning → item.generation ≡ (track_at run.normal.tracks i).generation → 1 ≤ length run.states → IsOut slot i run.normal.last → SaysOpen (slot_told run slot) item → Place s run i slot item
  unpushed : (track_at run.normal.tracks i).holder ≡ Returning → item.generation ≡ (track_at run.normal.tracks i).generation → KnowsAcked run → 1 ≤ length run.states → Plays slot item run.normal.last → IsTold run i slot item → Place s run i slot item

pub home_is : (h : Holder) → is_home h ≡ true → h ≡ Home
home_is Home e = refl
home_is Lent e = absurd (true≢false (sym e))
home_is Returning e = absurd (true≢false (sym e))

-- a proxy on its way comes home when its track is greeted, or stays on its way
pub greeted_or : (ack : Bool) (last : FastState) (s : TrackKept) → s.holder ≡ Returning → ((greeted ack last s).holder ≡ Home) ⊎ ((greeted ack last s).holder ≡ Returning)
unfolding welcomed
greeted_or false last s back = inr back
greeted_or true last s back = by (comes_home last s)
  where
    by : (b : Bool) → ((if b then record s { holder = Home } else s).holder ≡ Home) ⊎ ((if b then record s { holder = Home } else s).holder ≡ Returning)
    by true = inl refl
    by false = inr back

-- the holder of a proxy stays if the last state still carries its slot
pub greeted_stays : (ack : Bool) (last : FastState) (s : TrackKept) → carries last (slot_number s) ≡ true → (greeted ack last s).holder ≡ s.holder
unfolding welcomed
greeted_stays false last s carried = refl
greeted_stays true last s carried = ap (λ (b : Bool). (if is_returning s.holder && not b then record s { holder = Home } else s).holder) carried ∙ by (is_returning s.holder)
  where
    by : (b : Bool) → (if b && false then record s { holder = Home } else s).holder ≡ s.holder
    by true = refl
    by false = refl
