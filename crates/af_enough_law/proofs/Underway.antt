-- Until the Exit is ordered both mixers go on: it holds before the first round, and after each legal round that leaves no Exit in the draft; and none is ordered before all is over.
use Rattle.std.proofs.Common.{◌≡◌, ◌⊎◌, inl, inr, ℕ, zero, suc, ◌+◌, ◌<◌, ◌≤◌, ◌==◌, ◌&&◌, ◌||◌, not, if◌then◌else◌, Bool, true, false, true≢false, All, List, [], ◌∷◌, length, refl, sym, ap, ◌∙◌, subst, arith, eqb-true}
use Rattle.af_enough_law.proofs.Common.{ColdIdle, Exit, LegalRound, Marks, MixWrite, NormalKept, RoundSeen, Run, Session, Setting, TrackKept, after_round, and_none, code_of, cycle_frames, initial_none, commands_exit, is_home, is_over, learnt, length-replicate, new_run, new_track, next_command, pipe_size, setup_of, sound_new, track_at, turn_after, turn_len}
use Rattle.af_enough_law.proofs.Basics.{none_exit}
use Rattle.af_enough_law.proofs.Drafts.{is_busy, PushMade, command_turned, turn_pushes}
use Rattle.af_enough_law.proofs.EndWords.{NoExits, IsIdle, Underway}
use Rattle.af_enough_law.proofs.NormalRounds.{TurnMade, turn_made}
use Rattle.af_enough_law.proofs.PipeFlows.{KnowsPipe, in_pipe, pipe_put, put_in}
use Rattle.af_enough_law.proofs.CourseRounds.{goes_unless_exit}
use Rattle.af_enough_law.proofs.EndPhases.{ended_after}
use Rattle.af_enough_law.proofs.EndPipe.{drained_by}
use Rattle.af_enough_law.proofs.EndRounds.{order_round}
use Rattle.af_enough_law.proofs.FastLearns.{learns_states, new_counts}
use Rattle.af_enough_law.proofs.LastStates.{new_last, round_going, round_last}
use Rattle.af_enough_law.proofs.PipeRounds.{knows_pipe, pipe_puts, pipe_within}
use Rattle.af_enough_law.proofs.QueueRounds.{new_stands, queue_stands}
use Rattle.af_enough_law.proofs.RestTurns.{no_exits_round}
use Rattle.af_enough_law.proofs.Unheard.{some_heard, unheard_puts}

-- ## Before the first round

pub new_underway : (s : Session) → Underway s (new_run s)
new_underway s = record {
  order = record {
    sound = sound_new (setup_of s);
    owned = λ slot lt carried. absurd (true≢false (sym carried ∙ initial_none (cycle_frames s) slot));
    latest = λ clean. refl;
  };
  few = (let long : length (new_run s).normal.tracks ≡ length (setup_of s).settings = length-replicate (length (setup_of s).settings) new_track in omega (arith, long));
  stands = new_stands s;
  counts = new_counts s;
  last = new_last s;
  known = inl refl;
  runs = refl;
  going = refl;
  draft = refl;
  none = refl;
  exits = λ k x is. absurd (none_exit k x is);
  within = omega arith;
  pipe = inl refl;
  command = inr (refl, refl);
}

-- ## The command of the draft

exit_is_not : (code : ℕ) → code ≡ code_of Exit → (code == code_of Exit) ≡ false → ⊥
exit_is_not code is off = true≢false (ap (λ (n : ℕ). n == code_of Exit) (sym is) ∙ off)

-- a mix is ordered, as some track is to be heard or less than the whole room was seen
pub record Mixes (tracks : List TrackKept) (room size code : ℕ) : Type 0 where
  pub code_is : code ≡ code_of MixWrite
  pub needed : (some_heard tracks || not (room == size)) ≡ true

-- a cold idle is ordered, as no track is to be heard and the whole room was seen
pub record Idles (tracks : List TrackKept) (room size code : ℕ) : Type 0 where
  pub code_is : code ≡ code_of ColdIdle
  pub unheard : some_heard tracks ≡ false
  pub whole : (room == size) ≡ true

pub ordered_as : (tracks : List TrackKept) (room size code : ℕ) → code ≡ code_of (next_command false tracks room size) → (code == code_of Exit) ≡ false → Mixes tracks room size code ⊎ Idles tracks room size code
unfolding next_command
ordered_as tracks room size code is off = by (is_over tracks) (some_heard tracks) (room == size) is refl refl
  where
    by : (over heard whole : Bool) → code ≡ code_of (if false || (over && whole) then Exit else if heard || not whole then MixWrite else ColdIdle) → some_heard tracks ≡ heard → (room == size) ≡ whole → Mixes tracks room size code ⊎ Idles tracks room size code
    by true heard true is h w = absurd (exit_is_not code is off)
    by true true false is h w = inl (record { code_is = is; needed = λ i. h i || not (w i) })
    by true false false is h w = inl (record { code_is = is; needed = λ i. h i || not (w i) })
    by false true whole is h w = inl (record { code_is = is; needed = λ i. h i || not (w i) })
    by false false false is h w = inl (record { code_is = is; needed = λ i. h i || not (w i) })
    by false false true is h w = inr (record { code_is = is; unheard = h; whole = w })

-- no Exit is ordered before all is over and the whole room is seen
pub no_exit_yet : (tracks : List TrackKept) (room size : ℕ) → (is_over tracks && (room == size)) ≡ false → (code_of (next_command false tracks room size) == code_of Exit) ≡ false
unfolding next_command
no_exit_yet tracks room size off = by (is_over tracks && (room == size)) (some_heard tracks || not (room == size)) off
  where
    by : (b heard : Bool) → b ≡ false → (code_of (if false || b then Exit else if heard then MixWrite else ColdIdle) == code_of Exit) ≡ false
    by true heard is = absurd (true≢false is)
    by false true is = refl
    by false false is = refl

-- not all is over while some life hasn't ended
pub alive_over : (tracks : List TrackKept) (i : ℕ) → i < length tracks → (track_at tracks i).life.ended ≡ false → is_over tracks ≡ false
alive_over [] i lt is = absurd (let z : ⊥ = omega (arith, lt) in z)
alive_over (s ∷ tracks) zero lt is = ap (λ (b : Bool). (b && is_home s.holder) && is_over tracks) is
alive_over (s ∷ tracks) (suc i) lt is = and_none (s.life.ended && is_home s.holder) (is_over tracks) (alive_over tracks i (omega (arith, lt)) is)

-- ## A round

module _ (s : Session) (marks : Marks) (scales : All (λ (x : Setting). x.scale ≤ 4096) (setup_of s).settings) (small : pipe_size (setup_of s) ≤ 65536) (run : Run) (round : RoundSeen) (legal : LegalRound false s marks run round) (u : Underway s run) where
  abbrev after : Run
  after = after_round s run round

  -- the turn of the round
  abbrev pub t : TurnMade s marks run round
  t = turn_made false s marks run round legal u.runs

  pub goes : t.turn.ended ≡ false
  goes = goes_unless_exit s marks run round t u.runs u.none

  abbrev next : NormalKept
  next = turn_after (setup_of s) (learnt t.by.outside) run.normal t.turn

  pub made : PushMade run.normal next t.turn.push
  made = turn_pushes (setup_of s) t.by.outside run.normal t.turn goes (t.by.legal.goes_on goes) u.order.latest

  -- the command that the turn orders
  pub orders : code_of after.normal.draft.command ≡ code_of (next_command false after.normal.tracks t.turn.room (pipe_size (setup_of s)))
  orders =
      ap (λ (m : NormalKept). code_of m.draft.command) t.after ∙ command_turned (setup_of s) (learnt t.by.outside) run.normal t.turn goes
      ∙ ap (λ (b : Bool). code_of (next_command b next.tracks t.turn.room (pipe_size (setup_of s)))) u.draft
      ∙ ap (λ (m : NormalKept). code_of (next_command false m.tracks t.turn.room (pipe_size (setup_of s)))) (sym t.after)

  -- no Exit before all is over and the whole room is seen
  pub unordered : (is_over after.normal.tracks && (t.turn.room == pipe_size (setup_of s))) ≡ false → commands_exit after.normal.draft ≡ false
  unordered off = ap (λ (n : ℕ). n == code_of Exit) orders ∙ no_exit_yet after.normal.tracks t.turn.room (pipe_size (setup_of s)) off

  few_more : length after.states ≤ length run.states + 1
  few_more =
      let number : next.pushed ≤ run.normal.pushed + 1 = by made.number in
      let same = ap (λ (m : NormalKept). m.pushed) t.after in
      let p0 = u.stands.pushed in
      let later = queue_stands s marks run round legal u.stands in
      let p1 = later.pushed in
      omega (arith, number, same, p0, p1)
    where
      by : {a b : ℕ} → (a ≡ b) ⊎ (a ≡ b + 1) → a ≤ b + 1
      by (inl h) = omega (arith, h)
      by (inr h) = omega (arith, h)

  last_none : commands_exit after.normal.draft ≡ false → commands_exit after.normal.last ≡ false
  last_none draft = subst (λ (m : NormalKept). commands_exit m.last ≡ false) (sym t.after) (by (is_busy t.turn.push) refl)
    where
      by : (b : Bool) → is_busy t.turn.push ≡ b → commands_exit next.last ≡ false
      by true is = ap commands_exit (made.busy is).3 ∙ u.none
      by false is = ap commands_exit (made.done is).1 ∙ ap (λ (m : NormalKept). commands_exit m.draft) (sym t.after) ∙ draft

  -- a cold idle is ordered if the pipe is empty after the round
  idle_round : Idles after.normal.tracks t.turn.room (pipe_size (setup_of s)) (code_of after.normal.draft.command) → IsIdle after
  idle_round idles = (idles.code_is, by u.pipe)
    where
      none : put_in s round.turn ≡ 0
      none = unheard_puts s marks run round t (λ runs. idles.unheard)

      by : (pipe_put run ≡ 0) ⊎ KnowsPipe run → in_pipe after ≡ 0
      by (inl none_put) = let puts = pipe_puts s run round in let put = puts.0 in omega (arith, put, none_put, none)
      by (inr knows) = drained_by false s marks run round t.turn legal knows small u.within t.is goes (eqb-true t.turn.room (pipe_size (setup_of s)) idles.whole) none

  mixes_or_idles : commands_exit after.normal.draft ≡ false → (code_of after.normal.draft.command ≡ code_of MixWrite) ⊎ IsIdle after
  mixes_or_idles off = by (ordered_as after.normal.tracks t.turn.room (pipe_size (setup_of s)) (code_of after.normal.draft.command) orders off)
    where
      by : Mixes after.normal.tracks t.turn.room (pipe_size (setup_of s)) (code_of after.normal.draft.command) ⊎ Idles after.normal.tracks t.turn.room (pipe_size (setup_of s)) (code_of after.normal.draft.command) → (code_of after.normal.draft.command ≡ code_of MixWrite) ⊎ IsIdle after
      by (inl mixes) = inl mixes.code_is
      by (inr idles) = inr (idle_round idles)

  -- A round that leaves no Exit in the draft keeps it
  pub underway_round : commands_exit after.normal.draft ≡ false → Underway s after
  underway_round draft =
      let learns = learns_states false s marks run round legal u.counts in
      let last = round_last s marks run round legal u.last in
      let none = last_none draft in
      let exits : NoExits after.states = no_exits_round s run round u.exits last none few_more in
      record {
        order = order_round s marks scales run round legal u.runs t goes u.few u.order;
        few = (let a = ap (λ (m : NormalKept). length m.tracks) t.after in let c = turn_len (setup_of s) (learnt t.by.outside) run.normal t.turn in let d = u.few in omega (arith, a, c, d));
        stands = queue_stands s marks run round legal u.stands;
        counts = learns.counts;
        last = last;
        known = inr learns.knows;
        runs = ended_after s marks run round t false goes u.runs;
        going = round_going s marks run round legal u.exits exits u.going;
        draft = draft;
        none = none;
        exits = exits;
        within = (pipe_within false s marks run round legal).0;
        pipe = inr (knows_pipe false s marks run round legal);
        command = mixes_or_idles draft;
      }

  -- a round that leaves a life that hasn't ended orders no Exit
  pub underway_alive : (i : ℕ) → i < length after.normal.tracks → (track_at after.normal.tracks i).life.ended ≡ false → Underway s after
  underway_alive i lt alive = underway_round (unordered (ap (λ (b : Bool). b && (t.turn.room == pipe_size (setup_of s))) (alive_over after.normal.tracks i lt alive)))
