-- What is counted of a track's blocks from the first round on, wherever its proxy is.
use Rattle.std.proofs.Common.{◌≡◌, ℕ, ◌≤◌, ◌<◌, true, false, All, length, sym, ap, ◌∙◌, subst, arith}
use Rattle.af_enough_law.proofs.Common.{LegalRound, Marks, RoundSeen, Run, Session, Setting, Shape, after_round, setup_of, track_count}
use Rattle.af_enough_law.proofs.Carried.{SessionStands}
use Rattle.af_enough_law.proofs.NormalRounds.{TurnMade}
use Rattle.af_enough_law.proofs.AwayKeeps.{StaysOpen, open_then}
use Rattle.af_enough_law.proofs.HomeRounds.{IsNamed}
use Rattle.af_enough_law.proofs.Nearing.{BlockCounts}
use Rattle.af_enough_law.proofs.RunStreams.{round_grows}
use Rattle.af_enough_law.proofs.SessionRounds.{turn_of, turn_runs}
use Rattle.af_enough_law.proofs.StopCounts.{counts_round}
use Rattle.af_enough_law.proofs.TakenRounds.{counted_then, knows_sent}
use Rattle.af_enough_law.proofs.TakesAll.{CommandsKnown, commands_met}

-- a track's command block stays open, and its blocks are counted
pub record Counting (run : Run) (i N base : ℕ) : Type 0 where
  pub opens : StaysOpen run i
  pub block : BlockCounts run i N base

module _ (s : Session) (marks : Marks) (scales : All (λ (x : Setting). x.scale ≤ 4096) (setup_of s).settings) (long : length (setup_of s).settings ≡ track_count s) (run : Run) (round : RoundSeen) (legal : LegalRound false s marks run round) (c : SessionStands s run) (i : ℕ) (named : i < track_count s) (lawful : marks.commands i ≡ true) where
  abbrev t : TurnMade s marks run round
  t = turn_of s marks scales long run round legal c

  pub numbered : IsNamed s marks run i
  numbered = record { low = (let a = c.tracks in omega (arith, a, named)); named = named; there = (let a = c.kept in omega (arith, a, named)); lawful = lawful }

  runs : t.turn.ended ≡ false
  runs = turn_runs s marks scales long run round legal c

  -- A round keeps the counts
  pub counting_round : (N base : ℕ) → Counting run i N base → Counting (after_round s run round) i N base
  counting_round N base k =
      let shape = (round_grows s run round i numbered.low).shape in
      let b = k.block in
      record {
        opens = open_then false s marks run round i t legal numbered runs k.opens;
        block = record {
          size = ap (λ (k : Shape). k.frames) shape ∙ b.size;
          base_is = ap (λ (k : Shape). k.base) shape ∙ b.base_is;
          block = record { cells = subst (λ (k : Shape). 1 ≤ k.cells) (sym shape) b.block.cells; frames = subst (λ (k : Shape). k.frames ≤ k.cells) (sym shape) b.block.frames };
          counts = counts_round false s marks run round i legal numbered.low named k.opens.keeps.flushless b.counts;
          counted = counted_then false s marks run round i t legal numbered runs k.opens b.counted;
        };
      }

  -- a round leaves both ends of the command block knowing all that was done before its meeting
  pub known_start : StaysOpen run i → CommandsKnown (after_round s run round) i
  known_start o = record { met = commands_met s run round i numbered.low; knows = knows_sent false s marks run round i t legal numbered runs o }
