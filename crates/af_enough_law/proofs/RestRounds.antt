-- A round of a resting mixer that orders no Exit: what was lent comes nearer to home, and the pipe drains.
use Rattle.std.proofs.Common.{◌≡◌, ◌⊎◌, inl, inr, ℕ, zero, suc, ◌-◌, ◌*◌, ◌<◌, ◌≤◌, ◌==◌, ◌||◌, not, unwrap_or, Bool, true, false, true≢false, All, Option, Some, List, length, is_some, refl, sym, ap, ◌∙◌, arith, eq-eqb}
use Rattle.af_enough_law.proofs.Common.{ColdIdle, Command, FastState, LegalRound, Marks, MixWrite, NormalKept, RoundSeen, Run, Session, Setting, after_round, below_or_not, code_of, cycle_frames, initial, commands_exit, is_pushed, learnt, pipe_size, setup_of, state_at, state_beyond, state_of, turn_after}
use Rattle.af_enough_law.proofs.Acks.{KnowsAcked, turn_sees_ack}
use Rattle.af_enough_law.proofs.Drafts.{is_busy, PushMade}
use Rattle.af_enough_law.proofs.Ends.{AllHome, CarriesNone, Rests}
use Rattle.af_enough_law.proofs.FastWords.{KnowsStates, AllStates}
use Rattle.af_enough_law.proofs.NormalRounds.{TurnMade}
use Rattle.af_enough_law.proofs.PipeFlows.{KnowsPipe, in_pipe, put_in, RoomSeen}
use Rattle.af_enough_law.proofs.EndWords.{IsIdle, Underway}
use Rattle.af_enough_law.proofs.EndPhases.{known_unless}
use Rattle.af_enough_law.proofs.EndPipe.{drains, rests_puts, stays_drained}
use Rattle.af_enough_law.proofs.EndRounds.{home_on, home_round, orders_round, rests_on, same_states, unpushed}
use Rattle.af_enough_law.proofs.FastMixes.{mixes_all}
use Rattle.af_enough_law.proofs.LastStates.{LastIs}
use Rattle.af_enough_law.proofs.Orders.{mix_is}
use Rattle.af_enough_law.proofs.PipeRounds.{pipe_flowed, room_of_turn}
use Rattle.af_enough_law.proofs.RestTurns.{rests_free, rests_still}
use Rattle.af_enough_law.proofs.Underway.{Idles, Mixes, goes, made, ordered_as, orders, t}
use Rattle.af_enough_law.proofs.Unheard.{over_unheard}

-- no Exit is ordered, the mixer rests, and all is known
pub record Resting (s : Session) (run : Run) : Type 0 where
  pub under : Underway s run
  pub rests : Rests run.normal
  pub knows : KnowsStates s run
  pub pipe : KnowsPipe run

-- nothing is left to be pushed
abbrev pub IsClean : Run → Type 0
IsClean run = run.normal.dirty ≡ false

-- within so many rounds all proxies are home: they are; or the last state is known to be acknowledged; or nothing is left to be pushed, and a cold idle is ordered; or nothing is left to be pushed; or whatever is
abbrev pub HomeWithin : ℕ → Run → Type 0
HomeWithin zero run = AllHome run.normal.tracks
HomeWithin (suc zero) run = KnowsAcked run ⊎ AllHome run.normal.tracks
HomeWithin (suc (suc zero)) run = (IsClean run × IsIdle run) ⊎ (KnowsAcked run ⊎ AllHome run.normal.tracks)
HomeWithin (suc (suc (suc zero))) run = IsClean run ⊎ (KnowsAcked run ⊎ AllHome run.normal.tracks)
HomeWithin (suc (suc (suc (suc n)))) run = Unit {0}

-- ## The states

state_within : (states : List FastState) (k : ℕ) (x : FastState) → state_of states k ≡ Some x → k ≤ length states
state_within states k x is = by (below_or_not (length states) k)
  where
    by : (length states < k) ⊎ (k ≤ length states) → k ≤ length states
    by (inl far) = absurd (true≢false (sym (ap is_some is) ∙ ap is_some (state_beyond states k far)))
    by (inr low) = low

cold_is_not : ColdIdle ≡ MixWrite → ⊥
cold_is_not is = let n : code_of ColdIdle ≡ code_of MixWrite = ap (λ (x : Command). code_of x) is in omega (arith, n)

-- no state is pushed, and the last one mixes
mixing_states : (s : Session) (run after : Run) → length after.states ≡ length run.states → LastIs s after → after.normal.last.command ≡ MixWrite → AllStates run after (λ x. x.command ≡ MixWrite)
mixing_states s run after same last mixes = (some (length run.states) refl, at_end)
  where
    some : (n : ℕ) → length run.states ≡ n → 1 ≤ n
    some (suc n) is = omega arith
    some zero is =
        let first : initial (cycle_frames s) ≡ after.normal.last = ap (state_at (cycle_frames s) after.states) (sym (same ∙ is)) ∙ last in
        absurd (cold_is_not (ap (λ (x : FastState). x.command) first ∙ mixes))

    at_end : (k : ℕ) (x : FastState) → length run.states ≤ k → state_of after.states k ≡ Some x → x.command ≡ MixWrite
    at_end k x low is =
        let high = state_within after.states k x is in
        let end : k ≡ length after.states = omega (arith, low, high, same) in
        let here : x ≡ after.normal.last = ap (λ (o : Option FastState). unwrap_or o (initial (cycle_frames s))) (sym is) ∙ ap (state_at (cycle_frames s) after.states) end ∙ last in
        ap (λ (y : FastState). y.command) here ∙ mixes

-- ## A round

module _ (s : Session) (marks : Marks) (scales : All (λ (x : Setting). x.scale ≤ 4096) (setup_of s).settings) (small : pipe_size (setup_of s) ≤ 65536) (run : Run) (round : RoundSeen) (legal : LegalRound false s marks run round) (r : Resting s run) where
  abbrev u : Underway s run
  u = r.under

  abbrev turn : TurnMade s marks run round
  turn = t s marks scales small run round legal u

  abbrev open_is : turn.turn.ended ≡ false
  open_is = goes s marks scales small run round legal u

  abbrev after : Run
  after = after_round s run round

  push : PushMade run.normal (turn_after (setup_of s) (learnt turn.by.outside) run.normal turn.turn) turn.turn.push
  push = made s marks scales small run round legal u

  unpushed_known : is_pushed turn.turn.push ≡ false → KnowsAcked after
  unpushed_known none = known_unless s marks scales run round legal u turn open_is none

  clean_by : is_busy turn.turn.push ≡ false → IsClean after
  clean_by free = ap (λ (m : NormalKept). m.dirty) turn.after ∙ (push.done free).0

  -- nothing is left to be pushed, or the push was busy
  pub clean_or_known : IsClean after ⊎ KnowsAcked after
  clean_or_known = by (is_busy turn.turn.push) refl
    where
      by : (b : Bool) → is_busy turn.turn.push ≡ b → IsClean after ⊎ KnowsAcked after
      by true is = inr (unpushed_known (unpushed turn.turn.push is))
      by false is = inl (clean_by is)

  -- a push of which the one before is known to be acknowledged isn't busy
  pub known_clean : KnowsAcked run → IsClean after
  known_clean knows = clean_by ((turn_sees_ack false s marks run round legal u.runs knows turn).1 open_is)

  -- if nothing was left to be pushed and the command stays, nothing is left to be pushed
  record Still : Type 0 where
    unpushed_is : is_pushed turn.turn.push ≡ false
    clean : IsClean after

  stays_still : IsClean run → code_of after.normal.draft.command ≡ code_of run.normal.draft.command → Still
  stays_still clean same =
      let stays = ap (λ (m : NormalKept). code_of m.draft.command) (sym turn.after) ∙ same in
      let goes_on = turn.by.legal.goes_on open_is in
      record {
        unpushed_is = rests_still (setup_of s) turn.by.outside run.normal turn.turn open_is goes_on r.rests clean stays;
        clean = clean_by (rests_free (setup_of s) turn.by.outside run.normal turn.turn open_is goes_on r.rests clean stays);
      }

  home_known : CarriesNone run.normal.last → KnowsAcked run → AllHome after.normal.tracks
  home_known empty knows = home_round s marks scales run round legal u.runs turn open_is r.rests empty knows

  home_stays : AllHome run.normal.tracks → AllHome after.normal.tracks
  home_stays home = home_on s marks scales run round legal u.runs turn open_is r.rests home

  -- a round of a resting mixer puts nothing
  puts_none : put_in s round.turn ≡ 0
  puts_none = rests_puts s marks run round turn r.rests

  -- the mixer goes on resting
  pub rests_after : Rests after.normal
  rests_after = rests_on s marks scales run round legal u.runs turn open_is u.few r.rests

  seen : RoomSeen s run turn.turn
  seen = room_of_turn false s marks run round turn.turn legal r.pipe small u.within turn.is open_is

  -- an idle one that had nothing to push pushes nothing
  idle_known : commands_exit after.normal.draft ≡ false → IsClean run → IsIdle run → KnowsAcked after
  idle_known off clean idle = unpushed_known (stays_still clean (cold ∙ sym idle.0)).unpushed_is
    where
      size : ℕ
      size = pipe_size (setup_of s)

      code : ℕ
      code = code_of after.normal.draft.command

      whole : (turn.turn.room == size) ≡ true
      whole = eq-eqb turn.turn.room size (let a = seen.least in let b = seen.most in let c = idle.1 in omega (arith, a, b, c))

      by : Mixes after.normal.tracks turn.turn.room size code ⊎ Idles after.normal.tracks turn.turn.room size code → code ≡ code_of ColdIdle
      by (inl mixes) = absurd (true≢false (sym mixes.needed ∙ (λ i. over_unheard after.normal.tracks rests_after.over i || not (whole i))))
      by (inr idles) = idles.code_is

      cold : code ≡ code_of ColdIdle
      cold = by (ordered_as after.normal.tracks turn.turn.room size code (orders s marks scales small run round legal u) off)

  -- what is lent comes nearer to home
  pub home_next : Underway s after → CarriesNone run.normal.last → (n : ℕ) → HomeWithin (suc n) run → HomeWithin n after
  home_next later empty zero (inl knows) = home_known empty knows
  home_next later empty zero (inr home) = home_stays home
  home_next later empty (suc zero) (inl idle) = inl (idle_known later.draft idle.0 idle.1)
  home_next later empty (suc zero) (inr (inl knows)) = inr (home_known empty knows)
  home_next later empty (suc zero) (inr (inr home)) = inr (home_stays home)
  home_next later empty (suc (suc zero)) (inl clean) = once u.command later.command
    where
      once : (code_of run.normal.draft.command ≡ code_of MixWrite) ⊎ IsIdle run → (code_of after.normal.draft.command ≡ code_of MixWrite) ⊎ IsIdle after → HomeWithin 2 after
      once (inr idle) h = inr (inl (idle_known later.draft clean idle))
      once (inl mixes) (inl still) = inr (inl (unpushed_known (stays_still clean (still ∙ sym mixes)).unpushed_is))
      once (inl mixes) (inr idle) = known_or clean_or_known
        where
          known_or : IsClean after ⊎ KnowsAcked after → HomeWithin 2 after
          known_or (inl clean) = inl (clean, idle)
          known_or (inr knows) = inr (inl knows)
  home_next later empty (suc (suc zero)) (inr (inl knows)) = inr (inr (home_known empty knows))
  home_next later empty (suc (suc zero)) (inr (inr home)) = inr (inr (home_stays home))
  home_next later empty (suc (suc (suc zero))) any = known_or clean_or_known
    where
      known_or : IsClean after ⊎ KnowsAcked after → HomeWithin 3 after
      known_or (inl clean) = inl clean
      known_or (inr knows) = inr (inl knows)
  home_next later empty (suc (suc (suc (suc n)))) any = tt

  -- ## The pipe

  -- nothing lies in the pipe, or nothing is left to be pushed: then the pipe drains
  drained_round : in_pipe run ≡ 0 → in_pipe after ≡ 0
  drained_round = stays_drained s run round puts_none

  mixed_round : IsClean run → code_of run.normal.draft.command ≡ code_of MixWrite → Underway s after → code_of after.normal.draft.command ≡ code_of MixWrite → (in_pipe after ≤ in_pipe run - 16 * cycle_frames s) × IsClean after
  mixed_round clean before later still =
      let kept = stays_still clean (still ∙ sym before) in
      let same : length after.states ≡ length run.states = same_states s marks scales run round legal u.runs turn open_is kept.unpushed_is in
      let last : after.normal.last.command ≡ MixWrite = mix_is after.normal.last.command (ap (λ (x : FastState). code_of x.command) (later.order.latest kept.clean) ∙ still) in
      let mixes = mixes_all s marks run round legal u.going r.knows (mixing_states s run after same later.last last) in
      (drains s run round (pipe_flowed false s marks run round legal r.pipe small) mixes puts_none, kept.clean)

  pub drain_next : Underway s after → (in_pipe run ≡ 0) ⊎ IsClean run → (in_pipe after ≤ in_pipe run - 16 * cycle_frames s) × ((in_pipe after ≡ 0) ⊎ IsClean after)
  drain_next later h = by h u.command later.command
    where
      none : in_pipe after ≡ 0 → (in_pipe after ≤ in_pipe run - 16 * cycle_frames s) × ((in_pipe after ≡ 0) ⊎ IsClean after)
      none drained = (omega (arith, drained), inl drained)

      by : (in_pipe run ≡ 0) ⊎ IsClean run → (code_of run.normal.draft.command ≡ code_of MixWrite) ⊎ IsIdle run → (code_of after.normal.draft.command ≡ code_of MixWrite) ⊎ IsIdle after → (in_pipe after ≤ in_pipe run - 16 * cycle_frames s) × ((in_pipe after ≡ 0) ⊎ IsClean after)
      by (inl drained) before now = none (drained_round drained)
      by (inr clean) (inr idle) now = none (drained_round idle.1)
      by (inr clean) (inl before) (inr idle) = none idle.1
      by (inr clean) (inl before) (inl still) = let m = mixed_round clean before later still in (m.0, inr m.1)

  -- if all is home and the pipe is empty, the Exit is ordered
  pub orders_now : AllHome run.normal.tracks → in_pipe run ≡ 0 → commands_exit after.normal.draft ≡ true
  orders_now home drained = orders_round s marks scales run round legal u.runs turn open_is rests_after (home_stays home) drained seen
