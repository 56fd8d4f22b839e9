-- From the moment that every life has ended both mixers end within ten rounds.
use Rattle.std.proofs.Common.{◌≡◌, ◌⊎◌, inl, inr, ℕ, zero, suc, ◌+◌, ◌-◌, ◌*◌, ◌<◌, ◌≤◌, Bool, true, false, All, List, [], ◌∷◌, ◌++◌, length, refl, sym, ap, ◌∙◌, subst, arith, length-append}
use Rattle.af_enough_law.proofs.Common.{IsScript, LegalRound, LegalRounds, Marks, NormalKept, RoundSeen, Run, Session, Setting, TrackKept, after_round, asked, cycle_frames, commands_exit, learnt, mul-le-mul, new_run, pipe_size, run_from, scales_of, setup_of, track_at, turn_after}
use Rattle.af_enough_law.proofs.Acks.{KnowsAcked}
use Rattle.af_enough_law.proofs.Drafts.{is_busy}
use Rattle.af_enough_law.proofs.EndWords.{BothEnded, Underway, EndBegins, EndWithin}
use Rattle.af_enough_law.proofs.Ends.{AllOver, CarriesNone, Rests, last_empty, over_turn, rests_turn}
use Rattle.af_enough_law.proofs.NormalRounds.{TurnMade}
use Rattle.af_enough_law.proofs.PipeFlows.{in_pipe}
use Rattle.af_enough_law.proofs.EndPhases.{known_unless, more_within, next_within, ordered_within, ordering_next}
use Rattle.af_enough_law.proofs.EndRounds.{then_empty, unpushed}
use Rattle.af_enough_law.proofs.FastLearns.{learns_states}
use Rattle.af_enough_law.proofs.PipeRounds.{knows_pipe, pipe_within}
use Rattle.af_enough_law.proofs.RestRounds.{Resting, IsClean, HomeWithin, drain_next, home_next, known_clean, orders_now, rests_after}
use Rattle.af_enough_law.proofs.Underway.{goes, made, new_underway, t, underway_alive, underway_round}

-- ## Numbers

-- a turn of the fast mixer takes a whole buffer, and the pipe has few frames
pub wide_turn : (s : Session) → IsScript s.script → asked (setup_of s) ≤ 16 * cycle_frames s
wide_turn s is = let m : s.script.normal ≤ 16 = is.normal.1 in let f : s.script.frames ≤ s.script.frames = omega arith in mul-le-mul m f

pub small_pipe : (s : Session) → IsScript s.script → pipe_size (setup_of s) ≤ 65536
small_pipe s is =
    let m : s.script.normal ≤ 16 = is.normal.1 in
    let f : s.script.frames ≤ 1024 = is.frames.1 in
    let product : s.script.normal * s.script.frames ≤ 16 * 1024 = mul-le-mul m f in
    omega (arith, product)

four_turns : (left size buffer turn : ℕ) → left ≤ size → size ≡ 4 * buffer → buffer ≤ turn → left ≤ 4 * turn
four_turns left size buffer turn low is wide = omega (arith, low, is, wide)

one_less : (now left turn n : ℕ) → now ≤ suc n * turn → left ≤ now - turn → left ≤ n * turn
one_less now left turn n low less = let e : suc n * turn ≡ turn + n * turn = grind arith in omega (arith, low, less, e)

-- some life hasn't ended, or all have
over_or : (tracks : List TrackKept) → AllOver tracks ⊎ ((i : ℕ) × (i < length tracks) × ((track_at tracks i).life.ended ≡ false))
over_or [] = inl (λ i lt. absurd (let z : ⊥ = omega (arith, lt) in z))
over_or (s ∷ tracks) = by s.life.ended refl (over_or tracks)
  where
    at : s.life.ended ≡ true → AllOver tracks → AllOver (s ∷ tracks)
    at is over zero lt = is
    at is over (suc i) lt = over i (omega (arith, lt))

    by : (b : Bool) → s.life.ended ≡ b → AllOver tracks ⊎ ((i : ℕ) × (i < length tracks) × ((track_at tracks i).life.ended ≡ false)) → AllOver (s ∷ tracks) ⊎ ((i : ℕ) × (i < suc (length tracks)) × ((track_at (s ∷ tracks) i).life.ended ≡ false))
    by false is h = inr (0, omega arith, is)
    by true is (inl over) = inl (at is over)
    by true is (inr alive) = inr (suc alive.0, (let lt = alive.1 in omega (arith, lt)), alive.2)

module _ (s : Session) (marks : Marks) (scales : All (λ (x : Setting). x.scale ≤ 4096) (setup_of s).settings) (small : pipe_size (setup_of s) ≤ 65536) (wide : asked (setup_of s) ≤ 16 * cycle_frames s) where
  abbrev turn : ℕ
  turn = 16 * cycle_frames s

  -- after a round that orders no Exit a resting mixer rests, and all is known
  rested : (run : Run) (round : RoundSeen) → LegalRound false s marks run round → Underway s run → Underway s (after_round s run round) → Rests (after_round s run round).normal → Resting s (after_round s run round)
  rested run round legal u later rests = record {
    under = later;
    rests = rests;
    knows = (learns_states false s marks run round legal u.counts).knows;
    pipe = knows_pipe false s marks run round legal;
  }

  -- ## Once the last state carries nothing

  -- a resting mixer whose last state carries nothing: within so many rounds all is home, and the pipe is empty
  record Draining (n : ℕ) (run : Run) : Type 0 where
    resting : Resting s run
    empty : CarriesNone run.normal.last
    home : HomeWithin n run
    clean : (in_pipe run ≡ 0) ⊎ IsClean run
    low : in_pipe run ≤ n * turn

  ordering : (run : Run) (round : RoundSeen) → LegalRound false s marks run round → Resting s run → commands_exit (after_round s run round).normal.draft ≡ true → EndWithin s marks 3 (after_round s run round)
  ordering run round legal r is = ordered_within s marks scales (after_round s run round) (ordering_next s marks scales run round legal r.under (rests_after s marks scales small run round legal r) is)

  -- a round brings it one nearer, or orders the Exit
  drains_on : (n : ℕ) (run : Run) (round : RoundSeen) → LegalRound false s marks run round → Draining (suc n) run → Draining n (after_round s run round) ⊎ EndWithin s marks 3 (after_round s run round)
  drains_on n run round legal d = by (commands_exit (after_round s run round).normal.draft) refl
    where
      by : (b : Bool) → commands_exit (after_round s run round).normal.draft ≡ b → Draining n (after_round s run round) ⊎ EndWithin s marks 3 (after_round s run round)
      by true is = inr (ordering run round legal d.resting is)
      by false is =
          let r = d.resting in
          let u = r.under in
          let later = underway_round s marks scales small run round legal u is in
          let drained = drain_next s marks scales small run round legal r later d.clean in
          inl (record {
            resting = rested run round legal u later (rests_after s marks scales small run round legal r);
            empty = then_empty s marks scales run round legal u.runs (t s marks scales small run round legal u) (goes s marks scales small run round legal u) u.few r.rests (inl d.empty);
            home = home_next s marks scales small run round legal r later d.empty n d.home;
            clean = drained.1;
            low = one_less (in_pipe run) (in_pipe (after_round s run round)) turn n d.low drained.0;
          })

  draining_within : (n : ℕ) (run : Run) → Draining n run → EndWithin s marks (n + 4) run
  draining_within zero run d = next_within s marks 3 run (λ round legal. ordering run round legal d.resting (orders_now s marks scales small run round legal d.resting d.home (let low = d.low in omega (arith, low))))
  draining_within (suc n) run d = more_within s marks (suc (n + 4)) (suc n + 4) run (omega arith) (next_within s marks (n + 4) run (λ round legal. either n (after_round s run round) (draining_within n (after_round s run round)) (drains_on n run round legal d)))
    where
      either : (n : ℕ) (after : Run) → (Draining n after → EndWithin s marks (n + 4) after) → Draining n after ⊎ EndWithin s marks 3 after → EndWithin s marks (n + 4) after
      either n after next (inl d) = next d
      either n after next (inr within) = more_within s marks 3 (n + 4) after (omega arith) within

  -- ## Once the mixer rests

  -- the last state carries nothing and nothing is left to be pushed, or it is known to be acknowledged
  abbrev Sent : Run → Type 0
  Sent run = (CarriesNone run.normal.last × IsClean run) ⊎ KnowsAcked run

  resting : (run : Run) → Resting s run → Sent run → EndWithin s marks 9 run
  resting run r sent = next_within s marks 8 run (λ round legal. by round legal (commands_exit (after_round s run round).normal.draft) refl)
    where
      empty : Sent run → CarriesNone run.normal.last ⊎ KnowsAcked run
      empty (inl h) = inl h.0
      empty (inr knows) = inr knows

      by : (round : RoundSeen) → LegalRound false s marks run round → (b : Bool) → commands_exit (after_round s run round).normal.draft ≡ b → EndWithin s marks 8 (after_round s run round)
      by round legal true is = more_within s marks 3 8 (after_round s run round) (omega arith) (ordering run round legal r is)
      by round legal false is =
          let u = r.under in
          let later = underway_round s marks scales small run round legal u is in
          draining_within 4 (after_round s run round) (record {
            resting = rested run round legal u later (rests_after s marks scales small run round legal r);
            empty = then_empty s marks scales run round legal u.runs (t s marks scales small run round legal u) (goes s marks scales small run round legal u) u.few r.rests (empty sent);
            home = tt;
            clean = clean later sent;
            low = four_turns (in_pipe (after_round s run round)) (pipe_size (setup_of s)) (asked (setup_of s)) turn (pipe_within false s marks run round legal).1 refl wide;
          })
        where
          clean : Underway s (after_round s run round) → Sent run → (in_pipe (after_round s run round) ≡ 0) ⊎ IsClean (after_round s run round)
          clean later (inl h) = (drain_next s marks scales small run round legal r later (inr h.1)).1
          clean later (inr knows) = inr (known_clean s marks scales small run round legal r knows)

  -- ## Once every life has ended

  module _ (run : Run) (round : RoundSeen) (legal : LegalRound false s marks run round) (u : Underway s run) where
    abbrev after : Run
    after = after_round s run round

    abbrev made_turn : TurnMade s marks run round
    made_turn = t s marks scales small run round legal u

    abbrev going : made_turn.turn.ended ≡ false
    going = goes s marks scales small run round legal u

    abbrev next : NormalKept
    next = turn_after (setup_of s) (learnt made_turn.by.outside) run.normal made_turn.turn

    rests_next : AllOver after.normal.tracks → Rests next
    rests_next over = rests_turn (setup_of s) scales made_turn.by.outside run.normal made_turn.turn u.few going (made_turn.by.legal.goes_on going) u.order (subst (λ (m : NormalKept). AllOver m.tracks) made_turn.after over)

    sent_after : Rests next → Sent after
    sent_after rests = by (is_busy made_turn.turn.push) refl
      where
        by : (b : Bool) → is_busy made_turn.turn.push ≡ b → Sent after
        by true is = inr (known_unless s marks scales run round legal u made_turn going (unpushed made_turn.turn.push is))
        by false is =
            let push = made s marks scales small run round legal u in
            inl (subst (λ (m : NormalKept). CarriesNone m.last) (sym made_turn.after) (last_empty run.normal next made_turn.turn push rests is), ap (λ (m : NormalKept). m.dirty) made_turn.after ∙ (push.done is).0)

    -- after a round that leaves every life ended, both mixers end within nine rounds
    pub over_within : AllOver after.normal.tracks → EndWithin s marks 9 after
    over_within over = by (commands_exit after.normal.draft) refl (rests_next over)
      where
        by : (b : Bool) → commands_exit after.normal.draft ≡ b → Rests next → EndWithin s marks 9 after
        by true is rests = more_within s marks 3 9 after (omega arith) (ordered_within s marks scales after (ordering_next s marks scales run round legal u (subst Rests (sym made_turn.after) rests) is))
        by false is rests = resting after (rested run round legal u (underway_round s marks scales small run round legal u is) (subst Rests (sym made_turn.after) rests)) (sent_after rests)

    -- both mixers end within one round more, if every life had ended before it
    pub then_within : AllOver run.normal.tracks → EndWithin s marks 9 after
    then_within over = over_within (subst (λ (m : NormalKept). AllOver m.tracks) (sym made_turn.after) (over_turn (setup_of s) (learnt made_turn.by.outside) run.normal made_turn.turn going over))

  -- From the moment that every life has ended both mixers end within ten rounds
  pub ends_within : (run : Run) → EndBegins s run → EndWithin s marks 10 run
  ends_within run begins = next_within s marks 9 run (λ round legal. then_within run round legal begins.under begins.over)

  -- a round of a run that is under way leaves it so, or leaves every life ended
  pub still_or_over : (run : Run) (round : RoundSeen) → LegalRound false s marks run round → Underway s run → Underway s (after_round s run round) ⊎ AllOver (after_round s run round).normal.tracks
  still_or_over run round legal u = by (over_or (after_round s run round).normal.tracks)
    where
      by : (let tracks = (after_round s run round).normal.tracks in AllOver tracks ⊎ ((i : ℕ) × (i < length tracks) × ((track_at tracks i).life.ended ≡ false))) → Underway s (after_round s run round) ⊎ AllOver (after_round s run round).normal.tracks
      by (inl over) = inr over
      by (inr alive) = inl (underway_alive s marks scales small run round legal u alive.0 alive.1 alive.2)

  -- whatever came before, since no round that leaves a life that hasn't ended orders the Exit
  pub ends_from : (run : Run) → Underway s run → (rounds more : List RoundSeen) → LegalRounds false s marks run (rounds ++ more) → AllOver (run_from s run rounds).normal.tracks → 10 ≤ length more → BothEnded (run_from s run (rounds ++ more))
  ends_from run u [] more legal over few = ends_within run (record { under = u; over = over }) more legal few
  ends_from run u (round ∷ rounds) more legal over few = by (λ later. ends_from (after_round s run round) later rounds more legal.1 over few) (still_or_over run round legal.0 u)
    where
      by : (Underway s (after_round s run round) → BothEnded (run_from s run ((round ∷ rounds) ++ more))) → Underway s (after_round s run round) ⊎ AllOver (after_round s run round).normal.tracks → BothEnded (run_from s run ((round ∷ rounds) ++ more))
      by next (inl later) = next later
      by next (inr now) = over_within run round legal.0 u now (rounds ++ more) legal.1 (let long = length-append rounds more in omega (arith, long, few))

-- In a run of a script, ten rounds after every life has ended both mixers have ended
pub both_end : (s : Session) (marks : Marks) → IsScript s.script → (rounds more : List RoundSeen) → LegalRounds false s marks (new_run s) (rounds ++ more) → AllOver (run_from s (new_run s) rounds).normal.tracks → 10 ≤ length more → BothEnded (run_from s (new_run s) (rounds ++ more))
both_end s marks is = ends_from s marks (scales_of s is) (small_pipe s is) (wide_turn s is) (new_run s) (new_underway s)
