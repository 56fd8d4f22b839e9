-- While some track is to be heard the pipe has room for a buffer in each turn.
use Rattle.std.proofs.Common.{◌≡◌, ℕ, ◌*◌, ◌≤◌, true, false, All, length, sym, ap, ◌∙◌, arith}
use Rattle.af_enough_law.proofs.Common.{FastState, IsScript, LegalRound, Marks, MixWrite, NormalKept, RoundSeen, Run, Session, Setting, after_round, asked, cycle_frames, learnt, mul-le-mul_left, pipe_size, plays, setup_of, track_at, track_count, turn_after}
use Rattle.af_enough_law.proofs.Carried.{SessionCarried}
use Rattle.af_enough_law.proofs.FastWords.{MixesAll}
use Rattle.af_enough_law.proofs.NearWords.{buffer_of}
use Rattle.af_enough_law.proofs.NormalRounds.{TurnMade}
use Rattle.af_enough_law.proofs.PipeFlows.{pipe_put, pipe_taken, in_pipe, KnowsPipe}
use Rattle.af_enough_law.proofs.FastMixes.{mixes_all}
use Rattle.af_enough_law.proofs.Orders.{mix_is, orders_mix}
use Rattle.af_enough_law.proofs.PipeRounds.{pipe_flowed, knows_pipe, room_of_turn, two_buffers, puts_buffer, pipe_within}
use Rattle.af_enough_law.proofs.StatesHold.{last_holds, some_after, states_hold}
use Rattle.af_enough_law.proofs.SessionRounds.{turn_of, turn_runs}

-- both ends of the pipe know what the other did, at most two buffers are in it, and the last state pushed mixes
pub record PipeKept (s : Session) (run : Run) : Type 0 where
  pub knows : KnowsPipe run
  pub within : pipe_taken run ≤ pipe_put run
  pub few : in_pipe run ≤ 2 * asked (setup_of s)
  pub some : 1 ≤ length run.states
  pub mixes : run.normal.last.command ≡ MixWrite

-- the sizes of an accepted script
pub record IsSized (s : Session) : Type 0 where
  pub pipe : pipe_size (setup_of s) ≤ 65536
  pub wide : asked (setup_of s) ≤ 16 * cycle_frames s

pub sized : (s : Session) → IsScript s.script → IsSized s
sized s is =
    let few = is.normal.1 in
    let small = is.frames.1 in
    let a : s.script.frames * s.script.normal ≤ s.script.frames * 16 = mul-le-mul_left s.script.frames few in
    let b : s.script.normal * s.script.frames ≡ s.script.frames * s.script.normal = search arith in
    let c : s.script.frames * 16 ≡ 16 * s.script.frames = search arith in
    record { pipe = omega (arith, a, b, c, small); wide = omega (arith, a, b, c) }

module _ (s : Session) (marks : Marks) (scales : All (λ (x : Setting). x.scale ≤ 4096) (setup_of s).settings) (long : length (setup_of s).settings ≡ track_count s) (run : Run) (round : RoundSeen) (legal : LegalRound false s marks run round) (c : SessionCarried s run)
    (sizes : IsSized s) (p : PipeKept s run) where
  abbrev t : TurnMade s marks run round
  t = turn_of s marks scales long run round legal c.stands

  abbrev after : Run
  after = after_round s run round

  -- the turn has room for a buffer
  pub room_kept : buffer_of s ≤ t.turn.room
  room_kept =
      let seen = (room_of_turn false s marks run round t.turn legal p.knows sizes.pipe p.within t.is (turn_runs s marks scales long run round legal c.stands)).least in
      let few = p.few in
      omega (arith, seen, few)

  module _ (i : ℕ) (heard : plays (track_at after.normal.tracks i).life ≡ true) where
    draft_mixes : (turn_after (setup_of s) (learnt t.by.outside) run.normal t.turn).draft.command ≡ MixWrite
    draft_mixes = mix_is (turn_after (setup_of s) (learnt t.by.outside) run.normal t.turn).draft.command
        (orders_mix (setup_of s) (learnt t.by.outside) run.normal t.turn (turn_runs s marks scales long run round legal c.stands) c.stands.draft_goes i (ap (λ (m : NormalKept). plays (track_at m.tracks i).life) (sym t.after) ∙ heard))

    -- the round keeps all that is kept of the pipe
    pub pipe_round : PipeKept s after
    pipe_round =
        let mixes : MixesAll round = mixes_all s marks run round legal c.stands.going c.states (states_hold s marks scales long run round legal c (λ (x : FastState). x.command ≡ MixWrite) p.some p.mixes draft_mixes) in
        let flowed = pipe_flowed false s marks run round legal p.knows sizes.pipe in
        record {
          knows = knows_pipe false s marks run round legal;
          within = (pipe_within false s marks run round legal).0;
          few = two_buffers s run round flowed mixes sizes.wide (puts_buffer s round.turn) p.few;
          some = some_after s marks scales long run round legal c (λ (x : FastState). x.command ≡ MixWrite) p.some p.mixes draft_mixes;
          mixes = last_holds s marks scales long run round legal c (λ (x : FastState). x.command ≡ MixWrite) p.some p.mixes draft_mixes;
        }
