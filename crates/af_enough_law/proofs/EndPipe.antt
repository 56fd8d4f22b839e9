-- A resting mixer puts nothing into the pipe, which drains.
use Rattle.std.proofs.Common.{Some, ◌≡◌, ◌-◌, ◌*◌, ◌≤◌, Bool, false, sym, subst, arith}
use Rattle.af_enough_law.proofs.Common.{LegalRound, Marks, NormalKept, RoundSeen, Run, Session, Turn, after_round, cycle_frames, learnt, pipe_size, setup_of}
use Rattle.af_enough_law.proofs.Ends.{AllOver, Rests, over_turn}
use Rattle.af_enough_law.proofs.FastWords.{MixesAll}
use Rattle.af_enough_law.proofs.NormalRounds.{TurnMade}
use Rattle.af_enough_law.proofs.PipeFlows.{KnowsPipe, pipe_put, pipe_taken, in_pipe, put_in, PipeFlowed}
use Rattle.af_enough_law.proofs.PipeRounds.{pipe_flowed, pipe_puts, whole_room}
use Rattle.af_enough_law.proofs.Unheard.{over_unheard, unheard_puts}

-- a resting mixer puts nothing
pub rests_puts : (s : Session) (marks : Marks) (run : Run) (round : RoundSeen) (t : TurnMade s marks run round) → Rests run.normal → put_in s round.turn ≡ 0
rests_puts s marks run round t rests =
    unheard_puts s marks run round t (λ goes. over_unheard (after_round s run round).normal.tracks (subst (λ (m : NormalKept). AllOver m.tracks) (sym t.after) (over_turn (setup_of s) (learnt t.by.outside) run.normal t.turn goes rests.over)))

-- a round in which the fast mixer mixes takes 16 cycles of what is left in the pipe
pub drains : (s : Session) (run : Run) (round : RoundSeen) → PipeFlowed s run round → MixesAll round → put_in s round.turn ≡ 0 → in_pipe (after_round s run round) ≤ in_pipe run - 16 * cycle_frames s
drains s run round flowed mixes none =
    let put = flowed.put in let taken = flowed.taken mixes in let grows = flowed.grows in
    omega arith

-- a drained pipe stays so
pub stays_drained : (s : Session) (run : Run) (round : RoundSeen) → put_in s round.turn ≡ 0 → in_pipe run ≡ 0 → in_pipe (after_round s run round) ≡ 0
stays_drained s run round none empty = let puts = pipe_puts s run round in let put = puts.0 in let grows = puts.1 in omega (arith, put, grows, none, empty)

-- if a turn sees the whole room and puts nothing, the pipe is empty after its round
pub drained_by : (cut : Bool) (s : Session) (marks : Marks) (run : Run) (round : RoundSeen) (e : Turn) → LegalRound cut s marks run round → KnowsPipe run → pipe_size (setup_of s) ≤ 65536 → pipe_taken run ≤ pipe_put run → round.turn ≡ Some e → e.ended ≡ false
    → e.room ≡ pipe_size (setup_of s) → put_in s round.turn ≡ 0 → in_pipe (after_round s run round) ≡ 0
drained_by cut s marks run round e legal knows few low is going room none =
    let flowed = pipe_flowed cut s marks run round legal knows few in
    let put = flowed.put in let taken = whole_room cut s marks run round e legal knows few low is going room in
    omega arith
