-- The states that the normal mixer of a run pushed fit after each step of a round: its turn alone changes them.
use Rattle.std.proofs.Common.{◌≡◌, ℕ, ◌≤◌, sym, Bool, true, false, if◌then◌else◌, refl, subst, ◌∙◌, List, All, Option, None, Some}
use Rattle.af_judge.proofs.Common.{All-map, All-weaker, EntrySeen, FastState, IsTurn, MatchOption, NormalKept, RoundSeen, Run, Session, Setting, Turn, TurnFound, after_round, after_turn, all_played, before_turn, early_of, found_in, late_of, learnt, loaded, met, met_after, new_run, outside_of, setup_of, spec_setting, turned, with_calls, with_cycles, with_ends, with_load, with_turn}
use Rattle.af_script.specs.declared.track.TrackSpec.{TrackSpec}
use Rattle.af_script.specs.Form.{IsScript, IsTrack}
use Rattle.af_judge.specs.Entries.{CarriesWithin}
use Rattle.af_judge.proofs.Words.{StatesFit}
use Rattle.af_judge.specs.StatesKept.{StatesKept}
use Rattle.af_judge.proofs.Carried.{carries_apart, carries_within}
use Rattle.af_judge.proofs.EntriesFollow.{cycles_beside}
use Rattle.af_judge.proofs.StatesKept.{states_new, states_turned}

-- ## What leaves the normal mixer and its states alone

-- the normal mixer and the states are as they were
pub record SameNormal (before after : Run) : Type 0 where
  pub normal : after.normal ≡ before.normal
  pub states : after.states ≡ before.states

same_then : (a b c : Run) → SameNormal a b → SameNormal b c → SameNormal a c
same_then a b c p q = record { normal = q.normal ∙ p.normal; states = q.states ∙ p.states }

pub calls_same : (round : RoundSeen) (run : Run) → SameNormal run (with_calls round run)
unfolding with_calls
calls_same round run = record { normal = refl; states = refl }

cycles_same : (s : Session) (entries : List EntrySeen) (run : Run) → SameNormal run (with_cycles s entries run)
cycles_same s entries run = let same = cycles_beside s entries run in record { normal = same.normal; states = same.states }

pub load_same : (e : Turn) (run : Run) → SameNormal run (with_load e run)
unfolding with_load
load_same e run = record { normal = refl; states = refl }

pub met_same : (s : Session) (run : Run) → SameNormal run (met s run)
unfolding met
met_same s run = record { normal = refl; states = refl }

either_same : (b : Bool) (run p q : Run) → SameNormal run p → SameNormal run q → SameNormal run (if b then p else q)
either_same true run p q h g = h
either_same false run p q h g = g

pub ends_same : (run : Run) → SameNormal run (with_ends run)
unfolding with_ends
ends_same run = either_same run.normal.ended run _ run (record { normal = refl; states = refl }) (record { normal = refl; states = refl })

loaded_same : (turn : Option Turn) (run : Run) → SameNormal run (loaded turn run)
loaded_same None run = record { normal = refl; states = refl }
loaded_same (Some e) run = load_same e run

-- what comes before the normal mixer's turn leaves it as it was
pub before_same : (s : Session) (run : Run) (round : RoundSeen) → SameNormal run (before_turn s run round)
before_same s run round = same_then run (with_calls round run) (before_turn s run round) (calls_same round run) (cycles_same s (early_of run round) (with_calls round run))

-- what comes after the normal mixer's turn leaves it as it was
pub after_same : (s : Session) (run : Run) (round : RoundSeen) → SameNormal (after_turn s run round) (after_round s run round)
after_same s run round =
    let a : Run = after_turn s run round in
    let b : Run = with_cycles s (late_of run round) a in
    let c : Run = all_played s run round in
    let d : Run = met_after s run round in
    same_then a b (after_round s run round) (cycles_same s (late_of run round) a)
    (same_then b c (after_round s run round) (loaded_same round.turn b) (same_then c d (after_round s run round) (met_same s c) (ends_same d)))

-- ## What is kept

abbrev pub RunKept : Session → Run → Type 0
RunKept s run = StatesKept s run.normal run.states

pub kept_beside : (s : Session) (before after : Run) → SameNormal before after → RunKept s before → RunKept s after
kept_beside s before after same h = subst (λ (p : NormalKept × List FastState). StatesKept s p.0 p.1) (λ i. (sym same.normal i, sym same.states i)) h

pub fits_of : (s : Session) (run : Run) → RunKept s run → StatesFit s run
fits_of s run h =
    let m : NormalKept = run.normal in
    record {
      pushed = λ k. record { apart = h.apart k; within = h.within k };
      draft = record { apart = carries_apart m.tracks m.draft h.carried.draft; within = subst (λ (n : ℕ). CarriesWithin n m.draft) h.many (carries_within m.tracks m.draft h.carried.draft) };
    }

pub kept_new : (s : Session) → RunKept s (new_run s)
kept_new s = states_new s

-- no scale of a script's track is above 1
pub scales_of : (s : Session) → IsScript s.script → All (λ (t : Setting). t.scale ≤ 4096) (setup_of s).settings
scales_of s form = All-map (λ (t : Setting). t.scale ≤ 4096) spec_setting s.script.tracks
    (All-weaker IsTrack (λ (t : TrackSpec). (spec_setting t).scale ≤ 4096) (λ t h. h.scale) s.script.tracks form.tracks)

module _ (s : Session) (form : IsScript s.script) where
  pub kept_turn : (f : TurnFound) (tracks : ℕ) (e : Turn) (run : Run) → IsTurn tracks e → RunKept s run → RunKept s (with_turn s f e run)
  unfolding with_turn
  kept_turn f tracks e run is h = states_turned s (scales_of s form) (learnt (outside_of (setup_of s) f e)) run.normal run.states h e tracks is

  kept_turned : (found : Turn → TurnFound) (tracks : ℕ) (turn : Option Turn) (run : Run) → MatchOption turn (Unit {0}) (IsTurn tracks) → RunKept s run → RunKept s (turned s found turn run)
  kept_turned found tracks None run is h = h
  kept_turned found tracks (Some e) run is h = kept_turn (found e) tracks e run is h

  pub kept_before : (run : Run) (round : RoundSeen) → RunKept s run → RunKept s (before_turn s run round)
  kept_before run round h = kept_beside s run (before_turn s run round) (before_same s run round) h

  pub kept_after_turn : (tracks : ℕ) (run : Run) (round : RoundSeen) → MatchOption round.turn (Unit {0}) (IsTurn tracks) → RunKept s run → RunKept s (after_turn s run round)
  kept_after_turn tracks run round is h = kept_turned (found_in s run round) tracks round.turn (before_turn s run round) is (kept_before run round h)

  pub kept_round : (tracks : ℕ) (run : Run) (round : RoundSeen) → MatchOption round.turn (Unit {0}) (IsTurn tracks) → RunKept s run → RunKept s (after_round s run round)
  kept_round tracks run round is h = kept_beside s (after_turn s run round) (after_round s run round) (after_same s run round) (kept_after_turn tracks run round is h)
