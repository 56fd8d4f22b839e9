-- The pipe from the first round on: it is empty, or a mix waits to be pushed and at most a buffer is in it, or the last state mixes and at most two are.
use Rattle.std.proofs.Common.{◌≡◌, ◌⊎◌, inl, inr, ℕ, ◌+◌, ◌*◌, ◌≤◌, Bool, true, false, true≢false, All, List, [], ◌∷◌, length, refl, sym, ap, ◌∙◌, subst, arith}
use Rattle.af_enough_law.proofs.Common.{ColdIdle, FastState, LegalRound, Marks, MixWrite, NormalKept, RoundSeen, Run, Session, Setting, after_round, asked, code_of, cycle_frames, learnt, plays, setup_of, state_at, track_at, track_count, turn_after}
use Rattle.af_enough_law.proofs.Acks.{KnowsAcked, turn_sees_ack}
use Rattle.af_enough_law.proofs.Carried.{SessionStands, SessionCarried}
use Rattle.af_enough_law.proofs.Drafts.{is_busy, PushMade}
use Rattle.af_enough_law.proofs.FastWords.{MixesAll}
use Rattle.af_enough_law.proofs.NormalRounds.{TurnMade}
use Rattle.af_enough_law.proofs.PipeFlows.{KnowsPipe, in_pipe, pipe_put}
use Rattle.af_enough_law.proofs.EndWords.{Underway, IsIdle}
use Rattle.af_enough_law.proofs.EndPhases.{known_unless}
use Rattle.af_enough_law.proofs.EndRounds.{unpushed}
use Rattle.af_enough_law.proofs.FastMixes.{mixes_all}
use Rattle.af_enough_law.proofs.LastStates.{round_last}
use Rattle.af_enough_law.proofs.Orders.{mix_is, orders_mix}
use Rattle.af_enough_law.proofs.PipeKept.{PipeKept, IsSized}
use Rattle.af_enough_law.proofs.PipeRounds.{pipe_flowed, knows_pipe, two_buffers, puts_buffer, pipe_within, pipe_puts}
use Rattle.af_enough_law.proofs.SessionRounds.{turn_of, turn_runs, push_of}
use Rattle.af_enough_law.proofs.StatesHold.{last_holds, some_after, states_hold}

-- the last state mixes, and at most two buffers are in the pipe
pub record PipeMixes (s : Session) (run : Run) : Type 0 where
  pub some : 1 ≤ length run.states
  pub mixes : run.normal.last.command ≡ MixWrite
  pub few : in_pipe run ≤ 2 * asked (setup_of s)

-- the pipe mixes so, or the last state is known to be acknowledged and at most one buffer is in the pipe
abbrev pub PipeReady : Session → Run → Type 0
PipeReady s run = (KnowsAcked run × (in_pipe run ≤ asked (setup_of s))) ⊎ PipeMixes s run

-- the pipe is ready, or it is empty
abbrev pub PipeCase : Session → Run → Type 0
PipeCase s run = (in_pipe run ≡ 0) ⊎ PipeReady s run

-- a state that mixes was pushed
some_mixing : (frames : ℕ) (xs : List FastState) (last : FastState) → state_at frames xs (length xs) ≡ last → last.command ≡ MixWrite → 1 ≤ length xs
some_mixing frames [] last is mixes = absurd (let e : code_of ColdIdle ≡ code_of MixWrite = ap (λ (x : FastState). code_of x.command) is ∙ ap code_of mixes in let z : ⊥ = omega (arith, e) in z)
some_mixing frames (x ∷ xs) last is mixes = omega arith

module _ (s : Session) (marks : Marks) (scales : All (λ (x : Setting). x.scale ≤ 4096) (setup_of s).settings) (long : length (setup_of s).settings ≡ track_count s) (run : Run) (round : RoundSeen) (legal : LegalRound false s marks run round) (c : SessionStands s run) (u : Underway s run) where
  abbrev t : TurnMade s marks run round
  t = turn_of s marks scales long run round legal c

  abbrev after : Run
  after = after_round s run round

  goes : t.turn.ended ≡ false
  goes = turn_runs s marks scales long run round legal c

  made : PushMade run.normal after.normal t.turn.push
  made = push_of s marks scales long run round legal c

  -- a busy push leaves the last state known to be acknowledged
  busy_known : is_busy t.turn.push ≡ true → KnowsAcked after
  busy_known busy = known_unless s marks scales run round legal u t goes (unpushed t.turn.push busy)

  -- if the last state was known to be acknowledged before, the push isn't busy
  known_free : KnowsAcked run → is_busy t.turn.push ≡ false
  known_free knows = (turn_sees_ack false s marks run round legal c.runs knows t).1 goes

  -- a round puts a buffer at most
  puts_one : in_pipe after ≤ in_pipe run + asked (setup_of s)
  puts_one = let p = pipe_puts s run round in let put = p.0 in let taken = p.1 in let one = puts_buffer s round.turn in omega (arith, put, taken, one)

  -- while some track is to be heard a mix is ordered
  pub mix_ordered : (i : ℕ) → plays (track_at after.normal.tracks i).life ≡ true → code_of after.normal.draft.command ≡ code_of MixWrite
  mix_ordered i heard =
      ap (λ (m : NormalKept). code_of m.draft.command) t.after
      ∙ orders_mix (setup_of s) (learnt t.by.outside) run.normal t.turn goes c.draft_goes i (ap (λ (m : NormalKept). plays (track_at m.tracks i).life) (sym t.after) ∙ heard)

  module _ (orders : code_of after.normal.draft.command ≡ code_of MixWrite) where
    draft_is : after.normal.draft.command ≡ MixWrite
    draft_is = mix_is after.normal.draft.command orders

    -- the pipe mixes after a push that wasn't busy
    free_mixes : is_busy t.turn.push ≡ false → in_pipe run ≤ asked (setup_of s) → PipeMixes s after
    free_mixes free low =
        let last : after.normal.last.command ≡ MixWrite = ap (λ (x : FastState). x.command) (made.done free).1 ∙ draft_is in
        record {
          some = some_mixing (cycle_frames s) after.states after.normal.last (round_last s marks run round legal c.last) last;
          mixes = last;
          few = let more = puts_one in omega (arith, more, low);
        }

    -- A round that orders a mix and finds the pipe ready mixes
    pub mixes_round : (sizes : IsSized s) → (1 ≤ length run.states → SessionCarried s run) → PipeReady s run → PipeMixes s after
    mixes_round sizes carried (inl known) = free_mixes (known_free known.0) known.1
    mixes_round sizes carried (inr p) =
        let k : SessionCarried s run = carried p.some in
        let draft_turned : (turn_after (setup_of s) (learnt (turn_of s marks scales long run round legal k.stands).by.outside) run.normal (turn_of s marks scales long run round legal k.stands).turn).draft.command ≡ MixWrite =
        ap (λ (m : NormalKept). m.draft.command) (sym (turn_of s marks scales long run round legal k.stands).after) ∙ draft_is in
        let mixes : MixesAll round = mixes_all s marks run round legal c.going k.states (states_hold s marks scales long run round legal k (λ (x : FastState). x.command ≡ MixWrite) p.some p.mixes draft_turned) in
        record {
          some = some_after s marks scales long run round legal k (λ (x : FastState). x.command ≡ MixWrite) p.some p.mixes draft_turned;
          mixes = last_holds s marks scales long run round legal k (λ (x : FastState). x.command ≡ MixWrite) p.some p.mixes draft_turned;
          few = by mixes u.pipe;
        }
      where
        by : MixesAll round → (pipe_put run ≡ 0) ⊎ KnowsPipe run → in_pipe (after_round s run round) ≤ 2 * asked (setup_of s)
        by mixes (inl none) = let more = puts_one in omega (arith, more, none)
        by mixes (inr knows) = let few = p.few in two_buffers s run round (pipe_flowed false s marks run round legal knows sizes.pipe) mixes sizes.wide (puts_buffer s round.turn) few

    -- each round that orders a mix makes the pipe ready
    pub ready_round : (sizes : IsSized s) → (1 ≤ length run.states → SessionCarried s run) → PipeCase s run → PipeReady s after
    ready_round sizes carried (inl none) = by (is_busy t.turn.push) refl
      where
        by : (b : Bool) → is_busy t.turn.push ≡ b → PipeReady s (after_round s run round)
        by true busy = inl (busy_known busy, (let more = puts_one in omega (arith, more, none)))
        by false free = inr (free_mixes free (omega (arith, none)))
    ready_round sizes carried (inr ready) = inr (mixes_round sizes carried ready)

  -- Each round leaves the pipe in one of these cases, while no Exit is ordered
  pub case_round : (sizes : IsSized s) → (1 ≤ length run.states → SessionCarried s run) → Underway s after → PipeCase s run → PipeCase s after
  case_round sizes carried later case = by later.command
    where
      by : (code_of (after_round s run round).normal.draft.command ≡ code_of MixWrite) ⊎ IsIdle (after_round s run round) → PipeCase s (after_round s run round)
      by (inl orders) = inr (ready_round orders sizes carried case)
      by (inr idle) = inl idle.1

  -- what is kept of the pipe in the middle
  pub pipe_kept : PipeMixes s after → PipeKept s after
  pipe_kept p = record { knows = knows_pipe false s marks run round legal; within = (pipe_within false s marks run round legal).0; few = p.few; some = p.some; mixes = p.mixes }

  -- What holds of the drafts of two rounds holds of the last state then
  pub drafts_last : (P : FastState → Type 0) (next : RoundSeen) (legal_next : LegalRound false s marks after next) (c_then : SessionStands s after) → P after.normal.draft → P (after_round s after next).normal.draft → P (after_round s after next).normal.last
  drafts_last P next legal_next c_then first second = by (is_busy t.turn.push) refl (is_busy then_turn.turn.push) refl
    where
      then_turn : TurnMade s marks (after_round s run round) next
      then_turn = turn_of s marks scales long (after_round s run round) next legal_next c_then

      then_made : PushMade (after_round s run round).normal (after_round s (after_round s run round) next).normal (turn_of s marks scales long (after_round s run round) next legal_next c_then).turn.push
      then_made = push_of s marks scales long (after_round s run round) next legal_next c_then

      by : (a : Bool) → is_busy t.turn.push ≡ a → (b : Bool) → is_busy (turn_of s marks scales long (after_round s run round) next legal_next c_then).turn.push ≡ b → P (after_round s (after_round s run round) next).normal.last
      by a is false free = subst P (sym (then_made.done free).1) second
      by false free true busy = subst P (sym ((then_made.busy busy).3 ∙ (made.done free).1)) first
      by true is true busy = absurd (true≢false (sym busy ∙ (turn_sees_ack false s marks (after_round s run round) next legal_next c_then.runs (busy_known is) (turn_of s marks scales long (after_round s run round) next legal_next c_then)).1 (turn_runs s marks scales long (after_round s run round) next legal_next c_then)))
