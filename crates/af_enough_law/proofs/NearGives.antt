-- What the rounds of a track give that comes nearer to its end, by what is carried of it: while its proxy takes part in the meetings, in the round in which it leaves, and once it has stopped.
use Rattle.std.proofs.Common.{◌≡◌, ℕ, zero, suc, ◌+◌, ◌≤◌, ◌==◌, ◌&&◌, ◌||◌, not, nat_le, Bool, true, false, true≢false, refl, sym, ap, ◌∙◌, subst, arith, if◌then◌else◌}
use Rattle.af_enough_law.proofs.Common.{Heard, Known, LegalRound, Life, Marks, RoundSeen, Run, Session, Stopping1, after_round, by_report, calls_in, heard, learnt, met_after, plays, sides_of, takes_part, told_at, track_at}
use Rattle.af_enough_law.proofs.Courses.{course, Course, absent, idle, playing, stopping, drained, stopped, over, life_in, stage, told_words}
use Rattle.af_enough_law.proofs.NearWords.{RoundFlows}
use Rattle.af_enough_law.proofs.NormalRounds.{TurnMade}
use Rattle.af_enough_law.proofs.Playing.{AreFair}
use Rattle.af_enough_law.proofs.CommandsGo.{OpenTurn, commands_of}
use Rattle.af_enough_law.proofs.CourseGoes.{CourseGone}
use Rattle.af_enough_law.proofs.Coursing.{course_plays}
use Rattle.af_enough_law.proofs.Following.{greeted_in, greeted_alike}
use Rattle.af_enough_law.proofs.Lives.{stopped_by, stopping_done, stopping_stays}
use Rattle.af_enough_law.proofs.Nearing.{RoundHears, TrackRound, course_over}
use Rattle.af_enough_law.proofs.StoppedTracks.{StoppedCarried}
use Rattle.af_enough_law.proofs.TrackCarried.{TrackCarried, TrackGone, able, fair}
use Rattle.af_enough_law.proofs.Turning.{Stands}

-- ## Which lives are to be heard

-- a report brings a stopping life no further than to Stopping2
stage_low : (count retries : ℕ) (known : Known) → known.shut ≡ false → stage (by_report known (life_in Stopping1 true false retries count)) ≤ 2
stage_low count retries known open_is = by (nat_le count known.consumed) refl
  where
    by : (b : Bool) → nat_le count known.consumed ≡ b → stage (by_report known (life_in Stopping1 true false retries count)) ≤ 2
    by true done = let e = ap stage (stopping_done known retries count open_is done) in omega (arith, e)
    by false more = let e = ap stage (stopping_stays known retries count open_is more) in omega (arith, e)

heard_low : (n : ℕ) → n ≤ 2 → ((3 == 2) || ((3 == 3) && not (n == 3))) ≡ true
heard_low zero low = refl
heard_low (suc zero) low = refl
heard_low (suc (suc zero)) low = refl
heard_low (suc (suc (suc n))) low = absurd (let z : ⊥ = omega (arith, low) in z)

-- a started life that is not stopped, and is none of those that have ended, is still to be heard after a turn
still_heard : (count last told more : ℕ) (known : Known) (l after : Life) → known.shut ≡ false → 2 ≤ told → Course count told l → stage l ≤ 1 → l.ended ≡ false → Course last (told + more) after → after.ended ≡ false → after ≡ by_report known (told_words (course last told more) l) → told + more ≤ 4
    → plays after ≡ true
still_heard count last told more known l after open_is some absent low alive next_one going is few = absurd (let z : ⊥ = omega (arith, some) in z)
still_heard count last told more known l after open_is some idle low alive next_one going is few = absurd (let z : ⊥ = omega (arith, some) in z)
still_heard count last told zero known l after open_is some (playing retries a b) low alive next_one going is few = course_plays last 2 after next_one
still_heard count last told (suc zero) known l after open_is some (playing retries a b) low alive next_one going is few =
    let e = is ∙ ap (by_report known) (stopped_by last retries 0) in
    let s = stage_low last retries known open_is in
    let t = ap stage e in
    course_plays last 3 after next_one ∙ heard_low (stage after) (omega (arith, s, t))
still_heard count last told (suc (suc zero)) known l after open_is some (playing retries a b) low alive next_one going is few = absurd (true≢false (sym (course_over last 4 after refl next_one) ∙ going))
still_heard count last told (suc (suc (suc more))) known l after open_is some (playing retries a b) low alive next_one going is few = absurd (let z : ⊥ = omega (arith, few) in z)
still_heard count last told zero known l after open_is some (stopping retries) low alive next_one going is few =
    let s = stage_low count retries known open_is in
    let t = ap stage is in
    course_plays last 3 after next_one ∙ heard_low (stage after) (omega (arith, s, t))
still_heard count last told (suc zero) known l after open_is some (stopping retries) low alive next_one going is few = absurd (true≢false (sym (course_over last 4 after refl next_one) ∙ going))
still_heard count last told (suc (suc more)) known l after open_is some (stopping retries) low alive next_one going is few = absurd (let z : ⊥ = omega (arith, few) in z)
still_heard count last told more known l after open_is some (drained retries) low alive next_one going is few = absurd (let z : ⊥ = omega (arith, low) in z)
still_heard count last told more known l after open_is some (stopped retries) low alive next_one going is few = absurd (let z : ⊥ = omega (arith, low) in z)
still_heard count last told more known l after open_is some (over life e) low alive next_one going is few = absurd (true≢false (sym e ∙ alive))

-- a started life that is not stopped, and has not ended, is to be heard
pub heard_now : (count told : ℕ) (l : Life) → 2 ≤ told → Course count told l → stage l ≤ 1 → l.ended ≡ false → plays l ≡ true
heard_now count told l some absent low alive = absurd (let z : ⊥ = omega (arith, some) in z)
heard_now count told l some idle low alive = absurd (let z : ⊥ = omega (arith, some) in z)
heard_now count told l some (playing retries a b) low alive = refl
heard_now count told l some (stopping retries) low alive = refl
heard_now count told l some (drained retries) low alive = refl
heard_now count told l some (stopped retries) low alive = absurd (let z : ⊥ = omega (arith, low) in z)
heard_now count told l some (over life e) low alive = absurd (true≢false (sym e ∙ alive))

-- a started life that isn't to be heard has stopped, or has ended
pub out_stopped : (count told : ℕ) (l : Life) → 2 ≤ told → Course count told l → plays l ≡ false → l.ended ≡ false → stage l ≡ 3
out_stopped count told l some absent out alive = absurd (let z : ⊥ = omega (arith, some) in z)
out_stopped count told l some idle out alive = absurd (let z : ⊥ = omega (arith, some) in z)
out_stopped count told l some (playing retries a b) out alive = absurd (true≢false out)
out_stopped count told l some (stopping retries) out alive = absurd (true≢false out)
out_stopped count told l some (drained retries) out alive = absurd (true≢false out)
out_stopped count told l some (stopped retries) out alive = refl
out_stopped count told l some (over life e) out alive = absurd (true≢false (sym e ∙ alive))

-- a life that took its STOP and isn't to be heard has stopped
stopped_out : (count told : ℕ) (l : Life) → 3 ≤ told → Course count told l → plays l ≡ false → l.ended ≡ false → stage l ≤ 1 → ⊥
stopped_out count told l some absent out alive low = omega (arith, some)
stopped_out count told l some idle out alive low = omega (arith, some)
stopped_out count told l some (playing retries a b) out alive low = omega (arith, some)
stopped_out count told l some (stopping retries) out alive low = true≢false out
stopped_out count told l some (drained retries) out alive low = true≢false out
stopped_out count told l some (stopped retries) out alive low = omega (arith, low)
stopped_out count told l some (over life e) out alive low = true≢false (sym e ∙ alive)

-- ## A round in which the proxy takes part

module _ (cut : Bool) (s : Session) (marks : Marks) (run : Run) (round : RoundSeen) (i most total : ℕ) (t : TurnMade s marks run round) (turn : OpenTurn s marks run round i t) (c : TrackCarried run i most total) where
  -- what a round gives if what is carried goes on, and the track flows and is heard
  pub part_gives : (legal : LegalRound cut s marks run round) → takes_part s (met_after s run round) i ≡ true → 2 ≤ (track_at run.normal.tracks i).life.retries → TrackGone s marks run round i most total t c.on.told
      → ((track_at run.normal.tracks i).life.ended ≡ false → (track_at (after_round s run round).normal.tracks i).life.ended ≡ false → stage (track_at run.normal.tracks i).life ≤ 1 → RoundFlows s run round i) → RoundHears s marks run round i t → TrackRound s marks run round i t
  part_gives legal part two g flows hears = record {
    turn = turn;
    on = c.on;
    gone = g.gone;
    known_commands = c.known_commands;
    commands = commands_of run i c.known_stream c.known_commands c.calm;
    most = most;
    total = total;
    stands = c.stands;
    stands_then = g.carried.stands;
    fair = fair cut s marks run round i most total t legal turn part c two;
    stream = λ alive going low. record {
      part = part;
      able = able cut s marks run round i most total t legal turn part c two;
      known_stream = c.known_stream;
      known_commands = c.known_commands;
      calm = c.calm;
      flows = flows alive going low;
      hears = hears;
    };
  }

  -- while it is started, not yet stopped and has not ended it is still to be heard after the round
  pub heard_then : CourseGone s marks run round i t c.on.told → 2 ≤ c.on.told → (track_at run.normal.tracks i).life.ended ≡ false → (track_at (after_round s run round).normal.tracks i).life.ended ≡ false → stage (track_at run.normal.tracks i).life ≤ 1
      → plays (track_at (after_round s run round).normal.tracks i).life ≡ true
  heard_then gone some alive going low =
      let h : Heard = heard (learnt t.by.outside) i (greeted_in run.normal t.turn i) in
      let life : Life = (track_at run.normal.tracks i).life in
      let next_one : Life = (track_at (after_round s run round).normal.tracks i).life in
      let next = gone.next in
      let within = gone.after.within in
      let few = gone.after.few in
      still_heard c.on.count gone.after.count c.on.told gone.more h.known life next_one (turn.unshut (ap (λ (l : Life). l.ended) (greeted_alike t.turn.ack run.normal.last (track_at run.normal.tracks i)).life ∙ alive)) some c.on.follows.course low alive
      (subst (λ (n : ℕ). Course gone.after.count n next_one) next gone.after.follows.course) going
      (gone.life ∙ ap (λ (d : Bool). if d then life else by_report h.known (told_words (course gone.after.count c.on.told gone.more) life)) alive) (omega (arith, next, within, few))

  -- the round in which it leaves, since it isn't to be heard after it
  pub left_gives : (gone : CourseGone s marks run round i t c.on.told) → Stands (sides_of (told_at (after_round s run round) i)) most total → AreFair (calls_in round i) → 2 ≤ c.on.told → plays (track_at (after_round s run round).normal.tracks i).life ≡ false → TrackRound s marks run round i t
  left_gives gone next_one answers some out = record {
    turn = turn;
    on = c.on;
    gone = gone;
    known_commands = c.known_commands;
    commands = commands_of run i c.known_stream c.known_commands c.calm;
    most = most;
    total = total;
    stands = c.stands;
    stands_then = next_one;
    fair = answers;
    stream = λ alive going low. absurd (true≢false (sym (heard_then gone some alive going low) ∙ out));
  }

-- a round of a track that has stopped
pub stopped_gives : (s : Session) (marks : Marks) (run : Run) (round : RoundSeen) (i most total : ℕ) (t : TurnMade s marks run round) → OpenTurn s marks run round i t → (z : StoppedCarried run i most total) → CourseGone s marks run round i t z.on.told
    → Stands (sides_of (told_at (after_round s run round) i)) most total → AreFair (calls_in round i) → TrackRound s marks run round i t
stopped_gives s marks run round i most total t turn z gone next_one answers = record {
  turn = turn;
  on = z.on;
  gone = gone;
  known_commands = z.known;
  commands = z.commands;
  most = most;
  total = total;
  stands = z.stands;
  stands_then = next_one;
  fair = answers;
  stream = λ alive going low. absurd (stopped_out z.on.count z.on.told (track_at run.normal.tracks i).life z.told z.on.follows.course z.out alive low);
}
