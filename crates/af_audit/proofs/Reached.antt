-- In a legal round each track that is reported drained has reached its STOP's count by the round's end.
use Rattle.std.proofs.Common.{◌≡◌, ℕ, ◌<◌, ◌≤◌, if◌then◌else◌, is_some, Bool, true, false, List, [], ◌∷◌, ◌++◌, Option, Some, None, refl, arith}
use Rattle.af_audit.proofs.Common.{CommandLook, Heard, IsRound, IsScript, Learnt, LegalRound, LifeStep, Marks, NormalKept, RoundSeen, Run, Session, Setup, StoppedAt, TrackKept, Turn, after_look, after_round, all_played, cut, found_in, goes_on, heard, heard_of, is_shut, learnt, look_steps, looks_steps, max_le, most_heard, new_run, outside_of, ready, setup_of, shows_command, told, track_at, track_count, track_in, track_steps, tracks_at}
use Rattle.af_life.specs.Obeys.{slot_for}
use Rattle.af_audit.specs.Drained.{consumed_of, says_drained, round_steps}
use Rattle.af_audit.proofs.Consumed.{consumed}
use Rattle.af_audit.proofs.Growing.{run_told}
use Rattle.af_audit.proofs.Heard.{TellsSo, from_played, heard_told, new_tells, tells_round, to_played}
use Rattle.af_audit.proofs.Stopped.{AreTurns, Reaches, new_turns, round_drained, round_turns}

-- ## What the steps heard

either_heard : (b : Bool) (n : ℕ) (xs ys : List LifeStep) → most_heard xs ≤ n → most_heard ys ≤ n → most_heard (if b then xs else ys) ≤ n
either_heard true n xs ys h g = h
either_heard false n xs ys h g = g

look_heard : (n : ℕ) (look : CommandLook) (before : List LifeStep) → most_heard before ≤ n → most_heard (look_steps look ++ before) ≤ n
look_heard n look before h = by (shows_command look.seen) (is_shut look.seen)
  where
    by : (b d : Bool) → most_heard ((if b then told look.code look.argument ∷ [] else if d then cut ∷ [] else []) ++ before) ≤ n
    by true d = h
    by false true = h
    by false false = h

looks_heard : (n : ℕ) (given : Option ℕ) (flush_seen : ℕ) (looks : List CommandLook) (s : TrackKept) (before : List LifeStep) → most_heard before ≤ n → most_heard (looks_steps given flush_seen looks s before) ≤ n
looks_heard n given flush_seen [] s before h = h
looks_heard n given flush_seen (look ∷ looks) s before h =
    let t : TrackKept = after_look given flush_seen look s in
    let steps : List LifeStep = look_steps look ++ before in
    either_heard (goes_on look t) n (looks_steps given flush_seen looks t steps) steps (looks_heard n given flush_seen looks t steps (look_heard n look before h)) (look_heard n look before h)

pub steps_heard : (c : Setup) (k : Learnt) (m : NormalKept) (e : Turn) (i n : ℕ) (before : List LifeStep) → (heard k i (track_at (tracks_at c k m e i) i)).known.consumed ≤ n → most_heard before ≤ n → most_heard (track_steps c k m e i before) ≤ n
unfolding track_steps
steps_heard c k m e i n before now h =
    let tracks = tracks_at c k m e i in
    let s : TrackKept = track_at tracks i in
    let x : Heard = heard k i s in
    let r : TrackKept = ready k i s in
    let looks : List LifeStep = looks_steps (slot_for c tracks i) x.flush_seen (track_in e i).looks r before in
    let rest : List LifeStep = if is_some r.awaits then before else looks in
    either_heard e.ended n before (if s.life.ended then before else heard_of x.known ∷ rest) h
    (either_heard s.life.ended n before (heard_of x.known ∷ rest) h
    (max_le x.known.consumed (most_heard rest) n now (either_heard (is_some r.awaits) n before looks h (looks_heard n (slot_for c tracks i) x.flush_seen (track_in e i).looks r before h))))

-- ## A round

-- what is kept of a run and of the steps of a track
pub record Keeps (s : Session) (n : ℕ) (run : Run) (steps : List LifeStep) : Type 0 where
  pub tells : TellsSo consumed s n run
  pub turns : AreTurns s n run steps
  pub heard_so : most_heard steps ≤ consumed_of run n

module _ (cut : Bool) (s : Session) (form : IsScript s.script) (marks : Marks) (run : Run) (round : RoundSeen) (tracks n : ℕ) (steps : List LifeStep) (is_round : IsRound tracks round) (legal : LegalRound cut s marks run round) (h : Keeps s n run steps) where
  abbrev after : Run
  after = after_round s run round

  played_more : consumed_of (all_played s run round) n ≤ consumed_of after n
  played_more = run_told consumed (all_played s run round) after (from_played s run round) n

  before_more : most_heard steps ≤ consumed_of after n
  before_more = let a = h.heard_so in let b = run_told consumed run (all_played s run round) (to_played s run round) n in let c = played_more in omega (arith, a, b, c)

  -- what the turn heard is consumed by the round's end
  heard_consumed : (e : Turn) → round.turn ≡ Some e → (let k = learnt (outside_of (setup_of s) (found_in s run round e) e) in (heard k n (track_at (tracks_at (setup_of s) k run.normal e n) n)).known.consumed ≤ consumed_of after n)
  heard_consumed e is = let a = heard_told consumed cut s form marks run round tracks n is_round legal h.tells e is in let b = played_more in omega (arith, a, b)

  round_heard : most_heard (round_steps s run round round.turn n steps) ≤ consumed_of after n
  round_heard = by round.turn refl
    where
      by : (o : Option Turn) → round.turn ≡ o → most_heard (round_steps s run round o n steps) ≤ consumed_of after n
      by None is = before_more
      by (Some e) is = steps_heard (setup_of s) (learnt (outside_of (setup_of s) (found_in s run round e) e)) run.normal e n (consumed_of after n) steps (heard_consumed e is) before_more

  pub keeps_round : Keeps s n after (round_steps s run round round.turn n steps)
  keeps_round = record {
    tells = tells_round consumed cut s form marks run round tracks n is_round legal h.tells;
    turns = round_turns cut s marks run round legal n steps h.turns;
    heard_so = round_heard;
  }

  -- if the track is reported drained, its STOP's count is consumed
  pub reached_round : Reaches → n < track_count s → says_drained round.turn n ≡ true → (count : ℕ) × StoppedAt count (round_steps s run round round.turn n steps) × (count ≤ consumed_of after n)
  reached_round reached low says = let d = round_drained cut s marks run round legal n steps h.turns reached low says in
      (d.0, d.1, (let a = d.2 in let b = round_heard in omega (arith, a, b)))

-- ## Before the first round

pub new_keeps : (s : Session) (n : ℕ) → n < track_count s → Keeps s n (new_run s) []
new_keeps s n low = record { tells = new_tells consumed s n low; turns = new_turns s n; heard_so = omega arith }
