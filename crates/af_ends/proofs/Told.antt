-- The answer of an end, by what its proxy wrote.
use Rattle.std.proofs.Common.{◌≡◌, ℕ, ◌≤◌, arith, inl, inr, refl}
use Rattle.af_client.specs.declared.write.Wrote.{Wrote}
use Rattle.af_client.specs.declared.write.Wrote.TheVariants as wrote
use Rattle.af_client.specs.Calls.{wrote_call, put_by, Answers, Does, IsCorrupt}
use Rattle.af_client.specs.Order.{ClientState}
use Rattle.af_client.proofs.Kept.{IsPoke}
use Rattle.af_ends.specs.Streams.{told, count_in, MayWrite, Writes}

-- the call of a write is no poke
pub calm : (r : Wrote) → IsPoke (wrote_call r) → ⊥
calm (wrote.Put front count rest) e = e
calm _ e = e

-- the answer of an end fits the write that its proxy made, if that one isn't corrupt
pub told_writes : (c : ClientState) (asked : ℕ) (r : Wrote) (d : ClientState) → MayWrite c asked → Does c asked (wrote_call r) d → (IsCorrupt r → ⊥) → Writes c asked (told r) d
told_writes c asked (wrote.Put front count rest) d may does whole = inr (may, (front, inr does))
told_writes c asked (wrote.Full front) d may does whole = inr (may, (front, inl (refl, does)))
told_writes c asked (wrote.Dead flags) d may does whole = (may, (flags, does))
told_writes c asked (wrote.Corrupt front rear) d may does whole = absurd (whole tt)

-- the answer counts the frames that were put
pub told_count : (r : Wrote) → count_in (told r) ≡ put_by r
told_count (wrote.Put front count rest) = refl
told_count _ = refl

-- a write puts no more frames than were asked for
pub told_few : (c : ClientState) (asked : ℕ) (r : Wrote) → Answers c asked (wrote_call r) → put_by r ≤ asked
told_few c asked (wrote.Put front count rest) a = let e = a.2 in omega arith
told_few c asked _ a = omega arith
