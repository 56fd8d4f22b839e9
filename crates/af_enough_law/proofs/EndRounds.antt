-- The rounds once every life has ended: what was lent comes home.
use Rattle.std.proofs.Common.{◌≡◌, ◌⊎◌, inl, inr, ◌≤◌, Bool, true, false, true≢false, All, [], ◌∷◌, ◌++◌, length, if◌then◌else◌, refl, sym, ap, ◌∙◌, subst, arith, append-nil, eq-eqb}
use Rattle.af_enough_law.proofs.Common.{Busy, Clean, GoesOn, LegalRound, Marks, NormalKept, Push, Pushed, RoundSeen, Run, Session, Setting, after_round, after_turn, before_turn, draft_after, fast_ended, found_in, commands_exit, is_over, is_pushed, learnt, outside_of, pipe_size, setup_of, turn_after}
use Rattle.af_enough_law.proofs.Acks.{KnowsAcked, turn_sees_ack}
use Rattle.af_enough_law.proofs.Drafts.{is_busy, PushMade, turn_pushes}
use Rattle.af_enough_law.proofs.Ends.{AllHome, CarriesNone, IsInOrder, Rests, ExitSent, over_turn, order_turn, rests_turn, last_empty, stays_empty, all_home, home_stays, is_over_by}
use Rattle.af_enough_law.proofs.FastWords.{KnowsStates}
use Rattle.af_enough_law.proofs.NormalRounds.{TurnMade}
use Rattle.af_enough_law.proofs.QueueRounds.{QueueStands, states_turned, knows_acked}
use Rattle.af_enough_law.proofs.Exits.{exit_code, exit_stays, exit_still, exit_free, ends_turn}
use Rattle.af_enough_law.proofs.Orders.{orders_exit}
use Rattle.af_enough_law.proofs.PipeFlows.{in_pipe, RoomSeen}
use Rattle.af_enough_law.proofs.FastPolls.{before_states, round_states}

-- a push that was busy, or had nothing to push, pushes no state
pub unpushed : (push : Push) → is_busy push ≡ true → is_pushed push ≡ false
unpushed (Pushed number) busy = absurd (true≢false (sym busy))
unpushed Clean busy = refl
unpushed (Busy seen expected) busy = refl

module _ (s : Session) (marks : Marks) (scales : All (λ (x : Setting). x.scale ≤ 4096) (setup_of s).settings) (run : Run) (round : RoundSeen) (legal : LegalRound false s marks run round) (runs : run.normal.ended ≡ false) (t : TurnMade s marks run round) (goes : t.turn.ended ≡ false) where
  abbrev after : Run
  after = after_round s run round

  abbrev next : NormalKept
  next = turn_after (setup_of s) (learnt t.by.outside) run.normal t.turn

  goes_on : GoesOn (setup_of s) t.by.outside run.normal t.turn
  goes_on = t.by.legal.goes_on goes

  pushes : IsInOrder run.normal → PushMade run.normal next t.turn.push
  pushes order = turn_pushes (setup_of s) t.by.outside run.normal t.turn goes goes_on order.latest

  -- a turn that pushes no state leaves as many as there were
  pub same_states : is_pushed t.turn.push ≡ false → length after.states ≡ length run.states
  same_states none =
      ap length (round_states s run round ∙ states_turned s (found_in s run round) round.turn t.turn (before_turn s run round) t.is)
      ∙ ap (λ (b : Bool). length ((before_turn s run round).states ++ (if b then draft_after (setup_of s) (outside_of (setup_of s) (found_in s run round t.turn) t.turn) (before_turn s run round).normal t.turn ∷ [] else []))) none ∙ ap length (append-nil (before_turn s run round).states ∙ before_states s run round)

  -- what holds between two turns
  pub order_round : length run.normal.tracks ≤ length (setup_of s).settings → IsInOrder run.normal → IsInOrder after.normal
  order_round few order = subst IsInOrder (sym t.after) (order_turn (setup_of s) scales t.by.outside run.normal t.turn few goes goes_on order)

  -- a resting mixer goes on resting
  pub rests_on : length run.normal.tracks ≤ length (setup_of s).settings → Rests run.normal → Rests after.normal
  rests_on few rests = subst Rests (sym t.after) (rests_turn (setup_of s) scales t.by.outside run.normal t.turn few goes goes_on rests.order (over_turn (setup_of s) (learnt t.by.outside) run.normal t.turn goes rests.over))

  -- if the last state is known to be acknowledged, the next turn pushes the draft
  pub then_empty : length run.normal.tracks ≤ length (setup_of s).settings → Rests run.normal → CarriesNone run.normal.last ⊎ KnowsAcked run → CarriesNone after.normal.last
  then_empty few rests h = subst (λ (m : NormalKept). CarriesNone m.last) (sym t.after) (by h (subst Rests t.after (rests_on few rests)))
    where
      by : CarriesNone run.normal.last ⊎ KnowsAcked run → Rests next → CarriesNone next.last
      by (inl empty) later = stays_empty run.normal next t.turn (pushes rests.order) later empty
      by (inr knows) later = last_empty run.normal next t.turn (pushes rests.order) later ((turn_sees_ack false s marks run round legal runs knows t).1 goes)

  -- all proxies of a resting mixer come home
  pub home_round : Rests run.normal → CarriesNone run.normal.last → KnowsAcked run → AllHome after.normal.tracks
  home_round rests empty knows = subst (λ (m : NormalKept). AllHome m.tracks) (sym t.after) (all_home (setup_of s) (learnt t.by.outside) run.normal t.turn goes rests empty (turn_sees_ack false s marks run round legal runs knows t).0)

  pub home_on : Rests run.normal → AllHome run.normal.tracks → AllHome after.normal.tracks
  home_on rests home = subst (λ (m : NormalKept). AllHome m.tracks) (sym t.after) (home_stays (setup_of s) (learnt t.by.outside) run.normal t.turn goes rests home)

  -- ## The Exit

  -- once all lives have ended, all proxies are home and the pipe was empty, the Exit is ordered
  pub orders_round : Rests after.normal → AllHome after.normal.tracks → in_pipe run ≡ 0 → RoomSeen s run t.turn → commands_exit after.normal.draft ≡ true
  orders_round rests home empty room =
      let over : is_over next.tracks ≡ true = ap (λ (m : NormalKept). is_over m.tracks) (sym t.after) ∙ is_over_by after.normal.tracks rests.over home in
      let whole : t.turn.room ≡ pipe_size (setup_of s) = (let a = room.least in let b = room.most in omega (arith, a, b, empty)) in
      ap (λ (m : NormalKept). commands_exit m.draft) t.after ∙ exit_code next.draft (orders_exit (setup_of s) (learnt t.by.outside) run.normal t.turn goes over (eq-eqb t.turn.room (pipe_size (setup_of s)) whole))

  sent_by : commands_exit next.draft ≡ true → PushMade run.normal next t.turn.push → is_busy t.turn.push ≡ false → ExitSent next
  sent_by is made free = let d = made.done free in record { draft = is; last = ap commands_exit d.1 ∙ is; clean = d.0 }

  -- a push that isn't busy sends it
  pub exit_pushed : IsInOrder run.normal → commands_exit after.normal.draft ≡ true → is_busy t.turn.push ≡ false → ExitSent after.normal
  exit_pushed order is free = subst ExitSent (sym t.after) (sent_by (ap (λ (m : NormalKept). commands_exit m.draft) (sym t.after) ∙ is) (pushes order) free)

  -- a busy push leaves the states and the last of them
  pub busy_leaves : IsInOrder run.normal → is_busy t.turn.push ≡ true → (after.states ≡ run.states) × (after.normal.last ≡ run.normal.last)
  busy_leaves order busy =
      let none : is_pushed t.turn.push ≡ false = unpushed t.turn.push busy in (
        round_states s run round ∙ states_turned s (found_in s run round) round.turn t.turn (before_turn s run round) t.is
            ∙ ap (λ (b : Bool). (before_turn s run round).states ++ (if b then draft_after (setup_of s) (outside_of (setup_of s) (found_in s run round t.turn) t.turn) (before_turn s run round).normal t.turn ∷ [] else [])) none ∙ append-nil (before_turn s run round).states ∙ before_states s run round,
        ap (λ (m : NormalKept). m.last) t.after ∙ ((pushes order).busy busy).3,
      )

  -- the Exit is pushed by the next turn
  pub exit_then : Rests run.normal → commands_exit run.normal.draft ≡ true → ExitSent run.normal ⊎ KnowsAcked run → ExitSent after.normal
  exit_then rests is h = subst ExitSent (sym t.after) (sent_by (exit_stays (setup_of s) (learnt t.by.outside) run.normal t.turn goes is) (pushes rests.order) (free h))
    where
      free : ExitSent run.normal ⊎ KnowsAcked run → is_busy t.turn.push ≡ false
      free (inl sent) = exit_free (setup_of s) t.by.outside run.normal t.turn goes_on rests is sent.clean
      free (inr knows) = (turn_sees_ack false s marks run round legal runs knows t).1 goes

  -- once the Exit is pushed, no more is pushed
  pub exit_last : Rests run.normal → ExitSent run.normal → length after.states ≡ length run.states
  exit_last rests sent = same_states (exit_still (setup_of s) t.by.outside run.normal t.turn goes_on rests sent.draft sent.clean)

  -- the mixer knows after the round that the Exit is acknowledged
  pub exit_known : Rests run.normal → ExitSent run.normal → fast_ended run ≡ false → KnowsStates s run → QueueStands run → KnowsAcked after
  exit_known rests sent going knows stands = knows_acked s marks run round legal going knows stands (exit_last rests sent)

-- the mixer ends once the Exit is acknowledged
pub exit_ends : (s : Session) (marks : Marks) (run : Run) (round : RoundSeen) → LegalRound false s marks run round → (runs : run.normal.ended ≡ false) → (t : TurnMade s marks run round) → commands_exit run.normal.last ≡ true → KnowsAcked run → (after_round s run round).normal.ended ≡ true
exit_ends s marks run round legal runs t is knows =
    ap (λ (m : NormalKept). m.ended) t.after ∙ ends_turn (setup_of s) (learnt t.by.outside) run.normal t.turn t.by.legal.ends is (turn_sees_ack false s marks run round legal runs knows t).0

-- a turn that pushes nothing leaves as many states, also if it ends
pub pushed_none : (s : Session) (marks : Marks) (run : Run) (round : RoundSeen) (t : TurnMade s marks run round) → is_pushed t.turn.push ≡ false → length (after_turn s run round).states ≡ length run.states
pushed_none s marks run round t none =
    ap length (states_turned s (found_in s run round) round.turn t.turn (before_turn s run round) t.is)
    ∙ ap (λ (b : Bool). length ((before_turn s run round).states ++ (if b then draft_after (setup_of s) (outside_of (setup_of s) (found_in s run round t.turn) t.turn) (before_turn s run round).normal t.turn ∷ [] else []))) none ∙ ap length (append-nil (before_turn s run round).states ∙ before_states s run round)
