-- What each step of a turn run adds to a track: its blocks only grow, its client flushes no more than it has ops for, and its command block is kept.
use Rattle.std.proofs.Common.{◌≡◌, ℕ, ◌<◌, ◌≤◌, ◌==◌, Bool, true, false, if◌then◌else◌, length, Option, Some, None, refl, sym, ap, subst, eqb-true, arith, []}
use Rattle.af_journal_laws.proofs.Common.{CommandsAt, CommandsSo, EntrySeen, FastState, HasFew, LegalClientTurn, Marks, RoundSeen, Run, RunGrows, Session, TrackGrows, TrackTold, Turn, called_in_turn, called_grows, called_so, calls_alone, calls_in, cycle_frames, each_few, each_grows, each_long, ends_grow, ends_have, found_before, grows_turned, load_grows, load_has, meet_grows, met, met_has, mix_grows, mix_has, mixed_track, played, run_twice, sides_called, sides_of, slot_playing, state_for, told_at, told_each, told_flushes, track_at, track_none, turn_grows, turn_has, with_ends, with_load, with_mix, with_poll, with_turn}
use Rattle.af_audit.proofs.FewFlushes.{all_flushes, turn_few}
use Rattle.af_audit.proofs.Growing.{RunGrows as AllGrow}
use Rattle.af_journal_laws.proofs.Walk.{IsKept}

-- what the calls of one client change of a track
abbrev pub changed : ℕ → RoundSeen → ℕ → TrackTold → TrackTold
changed track round number t = if number == track then called_in_turn (calls_in round track) t else t

-- a client's calls are legal by its own number too
pub legal_own : (track n : ℕ) (round : RoundSeen) (run : Run) → (n == track) ≡ true → LegalClientTurn (sides_of (told_at run track)) (calls_in round track) → LegalClientTurn (sides_of (told_at run n)) (calls_in round track)
legal_own track n round run is legal = subst (λ (k : ℕ). LegalClientTurn (sides_of (told_at run k)) (calls_in round track)) (sym (eqb-true n track is)) legal

-- ## The blocks grow

grows_one : (n track : ℕ) (round : RoundSeen) (t : TrackTold) → TrackGrows t (changed track round n t)
grows_one n track round t = by (n == track)
  where
    by : (b : Bool) → TrackGrows t (if b then called_in_turn (calls_in round track) t else t)
    by true = called_grows (calls_in round track) t
    by false = track_none t

pub calls_grow_alone : (n track : ℕ) (round : RoundSeen) (run : Run) → n < length run.tracks → RunGrows n run (calls_alone track round run)
calls_grow_alone n track round run low = each_grows n (changed track round) run (calls_alone track round run) refl low (grows_one n track round (told_at run n))

pub grows_calls_alone : (track : ℕ) (round : RoundSeen) (run : Run) → AllGrow run (calls_alone track round run)
grows_calls_alone track round run = record { many = each_long (changed track round) 0 run.tracks; tracks = λ n low. calls_grow_alone n track round run low }

pub grows_polled : (s : Session) (k : ℕ) (run : Run) → AllGrow run (with_poll s k run)
unfolding with_poll
grows_polled s k run = record { many = refl; tracks = λ n low. record { there = low; track = track_none (told_at run n) } }

pub grows_turn : (s : Session) (e : Turn) (run : Run) → AllGrow run (with_turn s (found_before s run [] e) e run)
grows_turn s e run = grows_turned s (λ x. found_before s run [] x) (Some e) run

-- the blocks of a track grow from a start run on
module _ (s : Session) (marks : Marks) (tracks n : ℕ) (start : Run) where
  polled_more : (k : ℕ) (run : Run) → RunGrows n start run → RunGrows n start (with_poll s k run)
  unfolding with_poll
  polled_more k run h = record { there = h.there; track = h.track }

  pub grows_kept : IsKept s marks tracks (RunGrows n start)
  grows_kept = record {
    quiet = record {
      polled = polled_more;
      mixed = λ e run legal h. run_twice n start run (with_mix s e run) h (mix_grows n s e run h.there);
      loads = λ e run h. run_twice n start run (with_load e run) h (load_grows n (Some e) run h.there);
      meets = λ run h. run_twice n start run (met s run) h (meet_grows n s run h.there);
      ended = λ run h. run_twice n start run (with_ends run) h (ends_grow n run h.there);
    };
    calls = λ track round run legal h. run_twice n start run (calls_alone track round run) h (calls_grow_alone n track round run h.there);
    turn = λ e run form legal h. run_twice n start run (with_turn s (found_before s run [] e) e run) h (turn_grows n s (λ x. found_before s run [] x) (Some e) run h.there);
  }

-- ## Flushes

module _ (s : Session) (marks : Marks) (tracks most n : ℕ) where
  few_called : (track : ℕ) (round : RoundSeen) (run : Run) → LegalClientTurn (sides_of (told_at run track)) (calls_in round track) → HasFew most n run → HasFew most n (calls_alone track round run)
  few_called track round run legal h = each_few most n (changed track round) run h (by (n == track) refl)
    where
      by : (b : Bool) → (n == track) ≡ b → told_flushes (if b then called_in_turn (calls_in round track) (told_at run n) else told_at run n) ≤ told_flushes (told_at run n)
      by true is =
          let a = turn_few (sides_of (told_at run n)) (calls_in round track) (legal_own track n round run is legal) in
          let e = ap all_flushes (sides_called (told_at run n) (calls_in round track)) in
          omega (arith, a, e)
      by false is = omega arith

  few_polled : (k : ℕ) (run : Run) → HasFew most n run → HasFew most n (with_poll s k run)
  unfolding with_poll
  few_polled k run h = record { there = h.there; few = h.few }

  pub few_kept : IsKept s marks tracks (HasFew most n)
  few_kept = record {
    quiet = record {
      polled = few_polled;
      mixed = λ e run legal h. mix_has most n s e run h;
      loads = λ e run h. load_has most n (Some e) run h;
      meets = λ run h. met_has most n s run h;
      ended = λ run h. ends_have most n run h;
    };
    calls = few_called;
    turn = λ e run form legal h. turn_has most n s (λ x. found_before s run [] x) (Some e) run h;
  }

-- ## The command block

module _ (most n : ℕ) (s : Session) (marks : Marks) where
  pub polled_at : (k : ℕ) (run : Run) → CommandsAt most n run → CommandsAt most n (with_poll s k run)
  unfolding with_poll
  polled_at k run h = record { there = h.there; mixed = h.mixed; commands = h.commands }

  pub mixed_at : (e : EntrySeen) (run : Run) → CommandsAt most n run → CommandsAt most n (with_mix s e run)
  unfolding with_mix
  mixed_at e run h =
      let x : FastState = state_for s run e.entry.state in
      record {
        there = (let m = each_long (mixed_track s x e) 0 run.tracks in let t = h.there in omega (arith, m, t));
        mixed = h.mixed;
        commands = subst (λ (t : TrackTold). CommandsSo most t.commands t.client (track_at run.normal.tracks n)) (sym (told_each (mixed_track s x e) run n h.there)) (by_slot (slot_playing x e.entry n));
      }
    where
      by_slot : (o : Option ℕ) → (let t : TrackTold = elim o as (λ o. TrackTold) [ None ↦ told_at run n | Some i ↦ record (told_at run n) { stream = played (cycle_frames s) e i (told_at run n).stream } ] in CommandsSo most t.commands t.client (track_at run.normal.tracks n))
      by_slot None = h.commands
      by_slot (Some i) = h.commands

  pub called_at : (track : ℕ) (round : RoundSeen) (run : Run) → LegalClientTurn (sides_of (told_at run track)) (calls_in round track) → CommandsAt most n run → CommandsAt most n (calls_alone track round run)
  called_at track round run legal h = record {
    there = (let m = each_long (changed track round) 0 run.tracks in let t = h.there in omega (arith, m, t));
    mixed = h.mixed;
    commands = subst (λ (t : TrackTold). CommandsSo most t.commands t.client (track_at run.normal.tracks n)) (sym (told_each (changed track round) run n h.there)) (by (n == track) refl);
  }
    where
      by : (b : Bool) → (n == track) ≡ b → (let t : TrackTold = if b then called_in_turn (calls_in round track) (told_at run n) else told_at run n in CommandsSo most t.commands t.client (track_at run.normal.tracks n))
      by true is = called_so most (calls_in round track) (told_at run n) (track_at run.normal.tracks n) (legal_own track n round run is legal) h.commands
      by false is = h.commands
