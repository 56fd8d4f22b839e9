-- What makes each track have two retries, and that a round of the middle keeps it.
use Rattle.std.proofs.Common.{◌≡◌, ◌⊎◌, ℕ, ◌≤◌, ◌<◌, true, false, true≢false, Some, None, length, sym, ◌∙◌, arith}
use Rattle.af_enough_law.proofs.Common.{Run, Session, sides_of, told_at, track_at, track_count}
use Rattle.af_enough_law.proofs.NearWords.{IsPast}
use Rattle.af_enough_law.proofs.HomeKept.{HomeAble, home_three}
use Rattle.af_enough_law.proofs.HomeStill.{HasNone}
use Rattle.af_enough_law.proofs.LentAble.{LentAble, lent_three}
use Rattle.af_enough_law.proofs.LentRounds.{HeardOf}
use Rattle.af_enough_law.proofs.Nearing.{Nearing, over, removed, stopped, drained, emptied, stopping, flowing}
use Rattle.af_enough_law.proofs.Turning.{Stands}

-- what makes a track have two retries: it has ended or took its STOP, and keeps its retries; or it plays, and has what its mixer asks for
pub data TrackAble (run : Run) (i : ℕ) : Type 0 where
  gone : ((track_at run.normal.tracks i).life.ended ≡ true) ⊎ (3 ≤ (track_at run.normal.tracks i).settled) → 2 ≤ (track_at run.normal.tracks i).life.retries → TrackAble run i
  home : (track_at run.normal.tracks i).slot ≡ None → HasNone i run.normal.last → HomeAble run i → TrackAble run i
  lent : (slot : ℕ) → (track_at run.normal.tracks i).slot ≡ Some slot → HeardOf run i slot → LentAble run i slot → TrackAble run i

-- each track is able
abbrev pub AllAble : Session → Run → Type 0
AllAble s run = (i : ℕ) → i < track_count s → TrackAble run i

pub able_two : (run : Run) (i : ℕ) → TrackAble run i → 2 ≤ (track_at run.normal.tracks i).life.retries
able_two run i (gone why two) = two
able_two run i (home none out h) = let three = home_three run i h in omega (arith, three)
able_two run i (lent slot is heard_of h) = let three = lent_three run i slot h in omega (arith, three)

-- what is known of a client that flows
pub record InMiddle (run : Run) (i total : ℕ) : Type 0 where
  pub past : IsPast (told_at run i).client
  pub most : ℕ
  pub stands : Stands (sides_of (told_at run i)) most total

-- a track whose STOP was not sent flows
pub near_flows : (run : Run) (i q full total n : ℕ) → length (told_at run i).commands.released ≤ 5 → (track_at run.normal.tracks i).life.ended ≡ false → Nearing run i q full total n → InMiddle run i total
near_flows run i q full total n few alive (over e) = absurd (true≢false (sym e ∙ alive))
near_flows run i q full total n few alive (removed eight le) = absurd (let z : ⊥ = omega (arith, few, eight) in z)
near_flows run i q full total n few alive (stopped six three le) = absurd (let z : ⊥ = omega (arith, few, six) in z)
near_flows run i q full total n few alive (drained six two le) = absurd (let z : ⊥ = omega (arith, few, six) in z)
near_flows run i q full total n few alive (emptied six one all le) = absurd (let z : ⊥ = omega (arith, few, six) in z)
near_flows run i q full total n few alive (stopping six d one fits le) = absurd (let z : ⊥ = omega (arith, few, six) in z)
near_flows run i q full total n few alive (flowing most due m f portions fits le) = record { past = f.past; most = most; stands = f.stands }
