-- A track that starts to flow has ended its life within so many rounds.
use Rattle.std.proofs.Common.{◌≡◌, ℕ, suc, ◌+◌, ◌-◌, ◌*◌, ◌^◌, ◌≤◌, ◌<◌, Bool, true, false, List, refl, sym, subst, arith}
use Rattle.af_enough_law.proofs.Common.{LegalRound, Marks, Op, RoundSeen, Run, Session, after_round, client_list, server_list, sides_of, spec_of, told_at, track_at}
use Rattle.af_enough_law.proofs.NearWords.{IsPast}
use Rattle.af_enough_law.proofs.NormalRounds.{TurnMade}
use Rattle.af_enough_law.proofs.Playing.{IsWay, way_ops, way_frames}
use Rattle.af_enough_law.specs.Seen.{frames_put, frames_taken}
use Rattle.af_enough_law.proofs.Flows.{way_rounds, way_within}
use Rattle.af_enough_law.proofs.Nearing.{Nearing, over, removed, stopped, drained, emptied, stopping, flowing, TrackRound, BlockKept}
use Rattle.af_enough_law.proofs.NearRounds.{nearer, kept_round}
use Rattle.af_enough_law.proofs.NearSums.{IsPortion}
use Rattle.af_enough_law.proofs.Turning.{Stands}

-- ## The start

still_few : (q ops frames base put taken most rounds : ℕ) → 2 * frames + q * ops ≤ q * rounds → ((base + frames) - (base + put)) + ((base + frames) - (base + taken)) + q * ops ≤ q * rounds
still_few q ops frames base put taken most rounds within = omega (arith, within)

-- A track whose client is past its start, and which holds no more than its block may, is so far from its end
pub near_start : (s : Session) (run : Run) (i q full : ℕ) (rest : List Op) → IsPortion s i q full → IsWay 0 rest → BlockKept run i (spec_of s i).frames (spec_of s i).base
    → Stands (sides_of (told_at run i)) (way_ops rest) ((spec_of s i).base + way_frames rest) → IsPast (told_at run i).client → frames_put (client_list (told_at run i).stream) ≤ frames_taken (server_list (told_at run i).stream) + (spec_of s i).frames
    → Nearing run i q full ((spec_of s i).base + way_frames rest) (way_rounds q rest + full + 5)
near_start s run i q full rest p way kept stands past fits =
    let holds = p.holds in
    let within = way_within q 0 rest p.some way in
    flowing (way_ops rest) (q * way_rounds q rest) (way_rounds q rest)
    (record {
      stands = stands;
      past = past;
      left = subst (λ (base : ℕ). (((spec_of s i).base + way_frames rest) - (base + frames_put (client_list (told_at run i).stream))) + (((spec_of s i).base + way_frames rest) - (base + frames_taken (server_list (told_at run i).stream))) + q * way_ops rest ≤ q * way_rounds q rest)
          (sym kept.block.base_is) (still_few q (way_ops rest) (way_frames rest) (spec_of s i).base (frames_put (client_list (told_at run i).stream)) (frames_taken (server_list (told_at run i).stream)) 0 (way_rounds q rest) within);
    })
    (omega arith) (omega (arith, fits, holds)) (omega arith)

-- ## Some rounds

-- if no round is left, the life has ended
pub near_over : (run : Run) (i q full total : ℕ) → Nearing run i q full total 0 → (track_at run.normal.tracks i).life.ended ≡ true
near_over run i q full total (over ended) = ended
near_over run i q full total (removed eight le) = absurd (let z : ⊥ = omega (arith, le) in z)
near_over run i q full total (stopped six three le) = absurd (let z : ⊥ = omega (arith, le) in z)
near_over run i q full total (drained six two le) = absurd (let z : ⊥ = omega (arith, le) in z)
near_over run i q full total (emptied six one all le) = absurd (let z : ⊥ = omega (arith, le) in z)
near_over run i q full total (stopping six d one fits le) = absurd (let z : ⊥ = omega (arith, le) in z)
near_over run i q full total (flowing most due m f portions fits le) = absurd (let z : ⊥ = omega (arith, le) in z)

-- the life has ended, or so many rounds are left
pub data Near (s : Session) (run : Run) (i q full total n : ℕ) : Type 0 where
  ended : (track_at run.normal.tracks i).life.ended ≡ true → Near s run i q full total n
  living : BlockKept run i (spec_of s i).frames (spec_of s i).base → Nearing run i q full total n → Near s run i q full total n

-- what a round is to give of a track: a life that has ended stays so, and else it is brought on
pub record GivesRound (cut : Bool) (s : Session) (marks : Marks) (run : Run) (round : RoundSeen) (i : ℕ) : Type 0 where
  pub legal : LegalRound cut s marks run round
  pub stays : (track_at run.normal.tracks i).life.ended ≡ true → (track_at (after_round s run round).normal.tracks i).life.ended ≡ true
  pub made : TurnMade s marks run round
  pub goes : (track_at run.normal.tracks i).life.ended ≡ false → BlockKept run i (spec_of s i).frames (spec_of s i).base → TrackRound s marks run round i made

-- a round that gives this leaves one round less
pub near_round : (cut : Bool) (s : Session) (marks : Marks) (run : Run) (round : RoundSeen) (i q full total n : ℕ) → IsPortion s i q full → total < (spec_of s i).base + 2 ^ 32 → GivesRound cut s marks run round i → Near s run i q full total (suc n) → Near s (after_round s run round) i q full total n
near_round cut s marks run round i q full total n p under g (ended e) = ended (g.stays e)
near_round cut s marks run round i q full total n p under g (living kept near) = by (track_at run.normal.tracks i).life.ended refl
  where
    by : (d : Bool) → (track_at run.normal.tracks i).life.ended ≡ d → Near s (after_round s run round) i q full total n
    by true e = ended (g.stays e)
    by false alive =
        let r = g.goes alive kept in
        living (kept_round cut s marks run round i g.made g.legal (spec_of s i).frames (spec_of s i).base kept r)
        (nearer cut s marks run round i g.made g.legal (spec_of s i).frames (spec_of s i).base kept r q full total under p.least p.some p.full_some p.holds n near)
