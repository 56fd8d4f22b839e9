-- A round in whose meeting a proxy may take no part is calm by what is known of a later history, whatever its client is answered.
use Rattle.std.proofs.Common.{◌≡◌, ℕ, ◌≤◌, ◌<◌, Bool, true, false, Option, unwrap_or, length, sym, ap, ◌∙◌, subst, arith}
use Rattle.af_enough_law.proofs.Common.{BlockTold, IsSpelled, LegalRound, Marks, RoundSeen, Run, Session, Shape, TrackTold, Turn, after_round, client_list, flushes_of, heard, is_tame, learnt, met_after, server_list, told_at, track_at, track_in}
use Rattle.af_enough_law.proofs.Courses.{none_shut}
use Rattle.af_enough_law.proofs.FastWords.{IsOpen}
use Rattle.af_enough_law.proofs.NormalRounds.{TurnMade}
use Rattle.af_enough_law.proofs.AwayRounds.{AwayTurn}
use Rattle.af_enough_law.proofs.CommandRounds.{commands_told, commands_open}
use Rattle.af_enough_law.proofs.Flushless.{unflushed_none}
use Rattle.af_enough_law.proofs.Following.{greeted_in}
use Rattle.af_enough_law.proofs.Foreseen.{Foreseen, KeepsTo, keeps_to, seen_earlier, quiet_after}
use Rattle.af_enough_law.proofs.HomeRounds.{IsNamed, keeps_of}
use Rattle.af_enough_law.proofs.Lookahead.{round_later}
use Rattle.af_enough_law.proofs.RunTracks.{round_blocks}
use Rattle.af_enough_law.proofs.StreamCalm.{IsQuiet}
use Rattle.af_enough_law.proofs.TrackCarried.{TrackCarried}

-- ## The command block

-- what is kept of a track whatever its client is answered: the client keeps to its calls, and its command block is open
pub record StaysOpen (run : Run) (i : ℕ) : Type 0 where
  pub keeps : KeepsTo run i
  pub few : (told_at run i).commands.shape.frames ≡ 128
  pub is_open : IsOpen (told_at run i).commands

-- a track that is carried stays so
pub open_of : (run : Run) (i most total : ℕ) → TrackCarried run i most total → StaysOpen run i
open_of run i most total c = record { keeps = keeps_of run i c.known_stream c.known_commands c.calm; few = c.calm.commands_few; is_open = c.calm.is_open }

module _ (cut : Bool) (s : Session) (marks : Marks) (run : Run) (round : RoundSeen) (i : ℕ) (t : TurnMade s marks run round) (legal : LegalRound cut s marks run round) (named : IsNamed s marks run i) (runs : t.turn.ended ≡ false) (o : StaysOpen run i) where
  abbrev u : TrackTold
  u = told_at (after_round s run round) i

  same_commands : u.commands ≡ (told_at (met_after s run round) i).commands
  same_commands = (round_blocks s run round i named.low).1

  keeps_then : KeepsTo (after_round s run round) i
  keeps_then = keeps_to cut s marks run round t i named.low named.named legal o.keeps

  few_then : (told_at (met_after s run round) i).commands.shape.frames ≡ 128
  few_then = ap (λ (k : Shape). k.frames) (commands_told s marks run round t i named.low).shape ∙ o.few

  opens : (none_shut (track_in t.turn i).looks ≡ true) × IsOpen (told_at (met_after s run round) i).commands
  opens =
      let size = few_then in
      commands_open s marks run round t i named.low cut legal runs named.lawful named.named named.there (ap is_tame (sym same_commands) ∙ keeps_then.pokeless.commands) (omega (arith, size))
      (subst (λ (b : BlockTold). IsSpelled b.shape (client_list b)) same_commands keeps_then.spelled.commands)
      (ap (λ (b : BlockTold). flushes_of (client_list b)) (sym same_commands) ∙ unflushed_none (client_list u.commands) keeps_then.flushless.commands) o.is_open

  -- no look of its turn finds the command block shut
  pub looks_open : none_shut (track_in t.turn i).looks ≡ true
  looks_open = opens.0

  -- the command block stays open
  pub open_then : StaysOpen (after_round s run round) i
  open_then = record { keeps = keeps_then; few = ap (λ (b : BlockTold). b.shape.frames) same_commands ∙ few_then; is_open = subst IsOpen (sym same_commands) opens.1 }

  -- the server of the track's stream stays calm, if its lists lie in a later history
  pub calm_then : Foreseen u.stream → IsQuiet (told_at run i).stream.shape (server_list (told_at run i).stream) → IsQuiet u.stream.shape (server_list u.stream)
  calm_then seen quiet = quiet_after cut s marks run round i named.low legal seen (λ e is. let same : t.turn ≡ e = ap (λ (x : Option Turn). unwrap_or x t.turn) (sym t.is ∙ is) in subst (λ (e : Turn). none_shut (track_in e i).looks ≡ true) same looks_open) quiet

  -- the round is one that is judged later, if its turn doesn't hear that the stream is shut
  pub away_turn : Foreseen u.stream → IsQuiet (told_at run i).stream.shape (server_list (told_at run i).stream) → 2 ≤ (track_at run.normal.tracks i).life.retries
      → ((greeted_in run.normal t.turn i).life.ended ≡ false → (heard (learnt t.by.outside) i (greeted_in run.normal t.turn i)).known.shut ≡ false) → AwayTurn s marks run round i t
  away_turn seen quiet two unshut = record {
    turn = record { low = named.low; named = named.named; there = named.there; lawful = named.lawful; runs = runs; unshut = unshut };
    two = two;
    quiet = calm_then seen quiet;
  }

-- ## Histories

-- what is foreseen after a round was so before it
pub seen_before : (s : Session) (run : Run) (round : RoundSeen) (i : ℕ) → i < length run.tracks → Foreseen (told_at (after_round s run round) i).stream → Foreseen (told_at run i).stream
seen_before s run round i low seen = seen_earlier (told_at run i).stream (told_at (after_round s run round) i).stream (round_later s run round i low) seen
