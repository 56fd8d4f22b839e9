-- What is kept of a track through the legal rounds of a run: what its client sent, what its mixer settled, and which flush counts its stream's server had seen by then.
use Rattle.std.proofs.Common.{◌≡◌, inr, inl, ℕ, ◌<◌, ◌≤◌, true, false, List, [], ◌∷◌, ◌++◌, length, Some, refl, sym, subst, arith, Bool}
use Rattle.af_audit.proofs.Common.{All, All-get_or, All-head, All-tail, IsRound, IsScript, IsTrack, Learnt, LegalRound, LegalRounds, LegalTurnBy, Marks, NormalKept, RoundSeen, Run, Session, TrackKept, TrackTold, Turn, after_round, after_turn, all_played, at_new, before_turn, calls_in, cycles_beside, early_of, found_in, heard, is_poke_on, late_of, learnt, length-map, length-replicate, list_any, met_after, neither, new_normal, new_run, new_told_track, no_spec, outside_of, run_from, setup_of, spec_of, spec_setting, told_at, track_at, track_count, tracks_at, with_calls, with_cycles}
use Rattle.af_life.specs.Kept.{new_track as new_mixed}
use Rattle.af_audit.proofs.Words.{most_seen}
use Rattle.af_audit.proofs.CommandRounds.{CommandsAt, CommandsSo, at_more, calls_at, cycles_at, ends_at, loaded_at, met_at_so, turned_at}
use Rattle.af_audit.proofs.Drops.{most_grows}
use Rattle.af_audit.proofs.FatesTold.{new_there, told_new}
use Rattle.af_audit.proofs.KnownSeen.{noticed-seen}
use Rattle.af_audit.proofs.RunUnshut.{spares_round}
use Rattle.af_audit.proofs.SentWords.{open_first}
use Rattle.af_audit.proofs.SparedTold.{new_trim}
use Rattle.af_audit.proofs.Growing.{run_told}
use Rattle.af_audit.proofs.Heard.{TellsSo, from_played, heard_told, new_tells, tells_round, to_played}
use Rattle.af_audit.proofs.Measure.{Measure, of_run}
use Rattle.af_audit.proofs.MixerTurns.{before_normal, turn_legal}
use Rattle.af_audit.proofs.TrackUnshut.{IsTrim}

-- how many flushes a server has seen
abbrev pub flushes : Measure
flushes = record {
  of_list = most_seen;
  of_report = λ r. r.flush_seen;
  of_heard = λ h. h.flush_seen;
  grows = most_grows;
  none = refl;
  nothing = refl;
  reported = λ asked generation answer s before. noticed-seen s.shape s.events;
  own = λ s. noticed-seen s.shape s.events;
  home = λ h t. refl;
  away = λ r looks. refl;
}

-- what is kept of a run: what the mixer hears of a track, the commands, and that the block is trim
pub record SettlesSo (s : Session) (n : ℕ) (run : Run) : Type 0 where
  pub tells : TellsSo flushes s n run
  pub commands : CommandsAt (of_run flushes run n) n run
  pub trim : IsTrim true (told_at run n)

-- ## A round

module _ (cut : Bool) (s : Session) (form : IsScript s.script) (marks : Marks) (run : Run) (round : RoundSeen) (tracks n : ℕ) (low : n < track_count s) (is_round : IsRound tracks round) (legal : LegalRound cut s marks run round) (h : SettlesSo s n run) where
  abbrev played : Run
  played = all_played s run round

  abbrev most : ℕ
  most = of_run flushes played n

  found_commands : (e : Turn) → round.turn ≡ Some e → (found_in s run round e).commands n ≡ (told_at (before_turn s run round) n).commands
  found_commands e is = sym ((cycles_beside s (early_of run round) (with_calls round run)).commands n)

  found_legal : (e : Turn) → round.turn ≡ Some e → LegalTurnBy (setup_of s) marks (found_in s run round e) (before_turn s run round).normal e
  found_legal e is = subst (λ (m : NormalKept). LegalTurnBy (setup_of s) marks (found_in s run round e) m e) (sym (before_normal s run round)) (turn_legal cut s marks run round legal e is)

  found_heard : (e : Turn) → round.turn ≡ Some e → (let k = learnt (outside_of (setup_of s) (found_in s run round e) e) in (heard k n (track_at (tracks_at (setup_of s) k (before_turn s run round).normal e n) n)).flush_seen ≤ most)
  found_heard e is =
      let k : Learnt = learnt (outside_of (setup_of s) (found_in s run round e) e) in
      subst (λ (m : NormalKept). (heard k n (track_at (tracks_at (setup_of s) k m e n) n)).flush_seen ≤ most) (sym (before_normal s run round)) (heard_told flushes cut s form marks run round tracks n is_round legal h.tells e is)

  -- the commands of the track when the round's turns were made
  pub played_at : CommandsAt most n played
  played_at =
      let start : CommandsAt most n run = at_more (of_run flushes run n) most n run (run_told flushes run played (to_played s run round) n) h.commands in
      let a = calls_at most n round run (legal.turns.clients n low) start in
      let b = cycles_at most n s (early_of run round) (with_calls round run) a in
      let c = turned_at most n s marks (found_in s run round) round.turn (before_turn s run round) found_commands found_legal found_heard b in
      let d = cycles_at most n s (late_of run round) (after_turn s run round) c in
      loaded_at most n round.turn (with_cycles s (late_of run round) (after_turn s run round)) d

  -- what is kept of the run after the round
  pub round_settles : list_any (is_poke_on true) (calls_in round n) ≡ false → SettlesSo s n (after_round s run round)
  round_settles calm = record {
    tells = tells_round flushes cut s form marks run round tracks n is_round legal h.tells;
    commands = at_more most (of_run flushes (after_round s run round) n) n (after_round s run round) (run_told flushes played (after_round s run round) (from_played s run round) n)
        (ends_at most n (met_after s run round) (met_at_so most n s played played_at));
    trim = (spares_round true cut s marks run round tracks n is_round legal low h.tells.low (λ on. calm)).trim h.trim;
  }

-- ## Rounds, up to one of them

pub record AtRound (cut : Bool) (s : Session) (marks : Marks) (tracks n : ℕ) (run : Run) (round : RoundSeen) : Type 0 where
  pub settles : SettlesSo s n run
  pub form : IsRound tracks round
  pub legal : LegalRound cut s marks run round
  pub calm : list_any (is_poke_on true) (calls_in round n) ≡ false

pub at_round : (cut : Bool) (s : Session) (script : IsScript s.script) (marks : Marks) (tracks n : ℕ) → n < track_count s → (before : List RoundSeen) (round : RoundSeen) (later : List RoundSeen) (run : Run) → All (IsRound tracks) (before ++ round ∷ later) → LegalRounds cut s marks run (before ++ round ∷ later)
    → list_any (λ round. list_any (is_poke_on true) (calls_in round n)) (before ++ round ∷ later) ≡ false → SettlesSo s n run → AtRound cut s marks tracks n (run_from s run before) round
at_round cut s script marks tracks n low [] round later run forms legal calm h = record {
  settles = h;
  form = All-head (IsRound tracks) round later forms;
  legal = legal.0;
  calm = (neither (list_any (is_poke_on true) (calls_in round n)) (list_any (λ round. list_any (is_poke_on true) (calls_in round n)) later) calm).0;
}
at_round cut s script marks tracks n low (first ∷ before) round later run forms legal calm h =
    let two = neither (list_any (is_poke_on true) (calls_in first n)) (list_any (λ round. list_any (is_poke_on true) (calls_in round n)) (before ++ round ∷ later)) calm in
    at_round cut s script marks tracks n low before round later (after_round s run first) (All-tail (IsRound tracks) first (before ++ round ∷ later) forms) legal.1 two.1
    (round_settles cut s script marks run first tracks n low (All-head (IsRound tracks) first (before ++ round ∷ later) forms) legal.0 h two.0)

-- ## Before the first round

module _ (s : Session) (script : IsScript s.script) (n : ℕ) (low : n < track_count s) where
  new_commands : (most : ℕ) → CommandsSo most (new_told_track s n).commands (new_told_track s n).client new_mixed
  new_commands most = record {
    so = record { done = []; taken_are = refl; many = refl; up = omega arith; stands = λ order. record { seen = tt; none = λ absent. refl } };
    statuses = tt;
    drops = tt;
    shape = refl;
    sent = record { sent = []; words_are = refl; opens = tt; removes = tt; course = inr (inl (refl, open_first (spec_of s n).ops (All-get_or IsTrack s.script.tracks n no_spec low script.tracks).whole)) };
    calm = refl;
  }

  pub new_settles : SettlesSo s n (new_run s)
  new_settles =
      let most : ℕ = of_run flushes (new_run s) n in
      let mixed : track_at (new_normal (setup_of s)).tracks n ≡ new_mixed = at_new (length (setup_of s).settings) n in
      record {
        tells = new_tells flushes s n low;
        commands = record {
          there = new_there s n low;
          mixed = (let a = length-replicate (length (setup_of s).settings) new_mixed in let b : length (setup_of s).settings ≡ track_count s = length-map s.script.tracks spec_setting in omega (arith, a, b, low));
          commands = subst (λ (x : TrackTold × TrackKept). CommandsSo most x.0.commands x.0.client x.1) (λ i. (sym (told_new s n low) i, sym mixed i)) (new_commands most);
        };
        trim = new_trim s script n low true;
      }
