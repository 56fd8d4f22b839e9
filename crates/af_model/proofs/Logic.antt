-- What other proofs use again and again: Booleans, tests of order, and words that lie near or outside a block.
use Rattle.std.proofs.Common.{◌≡◌, ℕ, ◌+◌, ◌-◌, ◌<◌, ◌≤◌, Bool, true, false, true≢false, ◌&&◌, if◌then◌else◌, Some, None, [], ◌∷◌, sym, ap, arith}
use Rattle.af_model.proofs.Common.{is_below, is_not_below}
use Rattle.af_model.specs.Point.{wrapped}
use Rattle.af_model.specs.Room.{ahead, outside}

-- ## Two tests at once

pub both_right : (a b : Bool) → (a && b) ≡ true → b ≡ true
both_right true b e = e
both_right false b e = absurd (true≢false (sym e))

-- ## Order

-- between two positions that are near, the words tell how far
pub ahead-between : (a b : ℕ) → a ≤ b → b ≤ a + 65536 → ahead (wrapped a) (wrapped b) ≡ b - a
ahead-between a b low high = omega arith

-- ## Words that do not fit a block

pub outside-none : (frames front rear : ℕ) → ahead front rear ≤ frames → outside frames front rear ≡ None
outside-none frames front rear le = ap (λ (b : Bool). if b then Some (front, rear) else None) (is_not_below frames (ahead front rear) le)

pub outside-some : (frames front rear : ℕ) → frames < ahead front rear → outside frames front rear ≡ Some (front, rear)
outside-some frames front rear lt = ap (λ (b : Bool). if b then Some (front, rear) else None) (is_below frames (ahead front rear) lt)
