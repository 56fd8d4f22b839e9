-- What each legal round keeps of a command block without a poke.
use Rattle.std.proofs.Common.{◌≡◌, ℕ, ◌<◌, Bool, true, false, if◌then◌else◌, List, [], ◌++◌, length, Option, Some, None, refl, sym, ap, ◌∙◌, subst, append-nil, arith}
use Rattle.af_audit.proofs.Common.{BlockTold, ClientCall, HasBlockHistory, LegalRound, LifeStep, Marks, RoundSeen, Run, Session, Setup, Track, TrackTold, Turn, TurnFound, after_round, after_turn, all_played, before_turn, called_in_turn, calls_in, commands_turned, cycles_beside, each_at, each_track, early_of, ends, found_in, going, is_tame, late_of, learnt, loaded, meets, met_after, met_at, met_many, no_track, outside_of, setup_of, sides_of, told_at, told_each, track_count, track_in, turned, turned_track, with_calls, with_cycles, with_ends, with_load, with_turn, words_taken}
use Rattle.af_audit.proofs.CallsFollow.{told_called}
use Rattle.af_audit.proofs.SidesKept.{before-many, played_many}
use Rattle.af_audit.specs.Drained.{Sent, round_steps, sent_in}
use Rattle.af_audit.proofs.Sending.{right_join, turn_right, turn_sends, words_join, words_sent}
use Rattle.af_audit.proofs.StepsTaken.{steps_words, turn_told}
use Rattle.af_audit.proofs.MixerTurns.{before_normal, turn_legal}
use Rattle.af_audit.proofs.StopSent.{SentSo}
use Rattle.af_audit.proofs.TracksSeen.{track_legal}

-- the command block of a track
abbrev pub commands_at : ℕ → Run → BlockTold
commands_at n run = (told_at run n).commands

-- ## A block through a round

module _ (s : Session) (run : Run) (round : RoundSeen) (n : ℕ) (low : n < length run.tracks) where
  abbrev c : Setup
  c = setup_of s

  -- the command block once the calls were made
  abbrev start : BlockTold
  start = commands_at n (with_calls round run)

  -- the command block once the turn was made, if there was one
  abbrev with_its_turn : Option Turn → BlockTold
  with_its_turn o = elim o as (λ o. BlockTold) [ None ↦ start | Some e ↦ commands_turned c (outside_of c (found_in s run round e) e) run.normal e n start ]

  early_is : commands_at n (before_turn s run round) ≡ start
  early_is = (cycles_beside s (early_of run round) (with_calls round run)).commands n

  turn_is : (o : Option Turn) → commands_at n (turned s (found_in s run round) o (before_turn s run round)) ≡ with_its_turn o
  unfolding with_turn
  turn_is None = early_is
  turn_is (Some e) =
      let before : Run = before_turn s run round in
      ap (λ (t : TrackTold). t.commands) (each_at (turned_track c (outside_of c (found_in s run round e) e) before.normal e) 0 before.tracks n n no_track (let m = before-many s run round in omega (arith, m, low)) (omega arith))
      ∙ (λ i. commands_turned c (outside_of c (found_in s run round e) e) (before_normal s run round i) e n (early_is i))

  loaded_is : (o : Option Turn) (r : Run) → commands_at n (loaded o r) ≡ commands_at n r
  unfolding with_load
  loaded_is None r = refl
  loaded_is (Some e) r = refl

  played_low : n < length (all_played s run round).tracks
  played_low = let m = played_many s run round in omega (arith, m, low)

  met_is : commands_at n (met_after s run round) ≡ meets (with_its_turn round.turn)
  met_is =
      ap (λ (t : TrackTold). t.commands) (met_at s (all_played s run round) n played_low)
      ∙ ap meets (loaded_is round.turn (with_cycles s (late_of run round) (after_turn s run round)) ∙ (cycles_beside s (late_of run round) (after_turn s run round)).commands n ∙ turn_is round.turn)

  ends_is : (r : Run) → n < length r.tracks → commands_at n (with_ends r) ≡ commands_at n r
  unfolding with_ends
  ends_is r there = by_end r.normal.ended
    where
      by_end : (b : Bool) → commands_at n (if b then each_track (λ track t. record t { client = ends t.client }) r else r) ≡ commands_at n r
      by_end true = ap (λ (t : TrackTold). t.commands) (told_each (λ track t. record t { client = ends t.client }) r n there)
      by_end false = refl

  pub after_is : commands_at n (after_round s run round) ≡ commands_at n (met_after s run round)
  after_is = ends_is (met_after s run round) (let m = met_many s (all_played s run round) in let l = played_low in omega (arith, m, l))

  -- ## The calls

  abbrev t : Track
  t = sides_of (told_at run n)

  abbrev calls : List ClientCall
  calls = calls_in round n

  abbrev b : BlockTold
  b = commands_at n run

  start_block : start ≡ (called_in_turn calls (told_at run n)).commands
  start_block = ap (λ (x : TrackTold). x.commands) (told_called round run n low)

  start_released : start.released ≡ b.released ++ words_sent (sent_in run round n)
  start_released = ap (λ (x : BlockTold). x.released) start_block ∙ turn_sends t calls

  start_taken : start.taken ≡ b.taken
  start_taken = ap (λ (x : BlockTold). x.taken) start_block

  -- ## The turn

  -- the words taken in the turn
  abbrev turn_words : Option Turn → List ℕ
  turn_words o = elim o as (λ o. List ℕ) [ None ↦ [] | Some e ↦ going e (words_taken (track_in e n).looks) ]

  turn_released : (o : Option Turn) → (with_its_turn o).released ≡ start.released
  turn_released None = refl
  turn_released (Some e) = refl

  turn_taken : (o : Option Turn) → (with_its_turn o).taken ≡ start.taken ++ turn_words o
  turn_taken None = sym (append-nil start.taken)
  turn_taken (Some e) = refl

  -- ## A legal round

  module _ (cut : Bool) (marks : Marks) (legal : LegalRound cut s marks run round) (track : n < track_count s) (steps : List LifeStep) (sent : List Sent) (h : SentSo (commands_at n run) steps sent) where
    abbrev last : BlockTold
    last = commands_at n (after_round s run round)

    abbrev o : Option Turn
    o = round.turn

    last_is : last ≡ meets (with_its_turn o)
    last_is = after_is ∙ met_is

    -- the words of the turn's commands are those among its steps
    words_told_so : (x : Option Turn) → round.turn ≡ x → steps_words (round_steps s run round x n steps) ≡ steps_words steps ++ turn_words x
    words_told_so None is = sym (append-nil (steps_words steps))
    words_told_so (Some e) is =
        let by = turn_legal cut s marks run round legal e is in
        let f : TurnFound = found_in s run round e in
        turn_told c (learnt (outside_of c f e)) run.normal e n steps (track_legal c f run.normal e by.outside n by.found by.legal)

    -- what is kept of the block is kept of it after the round
    pub sent_round : SentSo last (round_steps s run round o n steps) (sent ++ sent_in run round n)
    sent_round = record {
      released = ap (λ (x : BlockTold). x.released) last_is ∙ turn_released o ∙ start_released ∙ ap (λ (l : List ℕ). l ++ words_sent (sent_in run round n)) h.released ∙ sym (words_join sent (sent_in run round n));
      right = right_join sent (sent_in run round n) h.right (turn_right t calls (legal.turns.clients n track));
      taken = ap (λ (x : BlockTold). x.taken) last_is ∙ turn_taken o ∙ ap (λ (l : List ℕ). l ++ turn_words o) (start_taken ∙ h.taken) ∙ sym (words_told_so o refl);
    }

    -- the block has a history, if it is tame
    pub sent_history : is_tame last ≡ true → HasBlockHistory last
    sent_history tame = subst HasBlockHistory (sym after_is) ((legal.histories.blocks n track).commands refl (ap is_tame (sym after_is) ∙ tame))
