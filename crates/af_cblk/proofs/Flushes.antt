-- Flush words, the positions that they carry, and what a server knows of flushes.
use Rattle.std.proofs.Common.{◌≡◌, ◌≢◌, ℕ, zero, suc, ◌+◌, ◌-◌, ◌*◌, ◌/◌, ◌%◌, ◌^◌, ◌<◌, ◌≤◌, max, Bool, true, false, true≢false, not, ◌||◌, ◌==◌, if◌then◌else◌, refl, sym, ap, ◌∙◌, arith, mod-lt, mod-eq_of_lt, eq-eqb, ne_eqb, lt_of_not-le}
use Rattle.af_cblk.proofs.Common.{Shape, add-mul, div-le_self, flush_number, flush_position, is_below, is_not_below, le-div_iff_mul-le, mod-add-mod, mul-add-mod_self_right, none_as, past_front, wrapped}
use mathlib.Core.Logic.{dite}
use native.Mathlib.Decide.{dec_le}
use Rattle.af_cblk.specs.declared.view.ClientPart.{ClientPart}
use Rattle.af_cblk.specs.Parts.{ahead, released, flush_amount}
use Rattle.af_cblk.specs.Shape.{most_flushes}
use Rattle.af_cblk.specs.Rule.{KnowsFlush}
use Rattle.af_cblk.proofs.Sized.{IsWrapped}
use Rattle.af_cblk.proofs.Numbers.{same_cell, ahead_is, back, between}

-- ## Flush words

-- on a positional block the word tells the place of the flush in a wrap
pub flush_placed : (w n at : ℕ) → w ≢ 0 → flush_number w n at ≡ wrapped (n * w + at % w)
flush_placed w n at placed = ap (λ (b : Bool). if b then n else wrapped (n * w + at % w)) (ne_eqb w 0 placed)

positive : (w : ℕ) → w ≢ 0 → 0 < w
positive zero placed = absurd (placed refl)
positive (suc w) placed = omega arith

pub flush_none : (w : ℕ) → 0 ≡ flush_number w 0 0
flush_none w = none_as w (w == 0) refl

-- one flush more
adds_as : (w n at to : ℕ) (b : Bool) → (w == 0) ≡ b → n < (if b then 4294967294 else 4294967296 / w - 1)
    → ((if b then n else wrapped (n * w + at % w)) + (if b then 1 else w + to % w - at % w)) % 2 ^ 64 ≡ (if b then n + 1 else wrapped ((n + 1) * w + to % w))
adds_as w n at to true e few = omega arith
adds_as w n at to false e few =
    let some : 0 < w = positive w (λ z. true≢false (sym (eq-eqb w 0 z) ∙ e)) in
    let most : n + 2 ≤ 4294967296 / w = omega arith in
    let room : (n + 2) * w ≤ 4294967296 = (le-div_iff_mul-le some).0 most in
    let two : (n + 2) * w ≡ n * w + 2 * w = add-mul n 2 w in
    let one : (n + 1) * w ≡ n * w + 1 * w = add-mul n 1 w in
    let p : ℕ = n * w in
    let a : at % w < w = mod-lt at some in
    let c : to % w < w = mod-lt to some in
    omega arith

pub flush_adds : (w n at to : ℕ) → n < most_flushes w
    → (flush_number w n at + (if w == 0 then 1 else w + to % w - at % w)) % 2 ^ 64 ≡ flush_number w (n + 1) to
flush_adds w n at to few = adds_as w n at to (w == 0) refl few

-- the word fits
fits_as : (w n at : ℕ) (b : Bool) → n < (if b then 4294967294 else 4294967296 / w - 1) → (if b then n + 1 else wrapped ((n + 1) * w + at % w)) < 2 ^ 32
fits_as w n at true few = omega arith
fits_as w n at false few = omega arith

pub word_fits : (w n at : ℕ) → n < most_flushes w → flush_number w (n + 1) at < 2 ^ 32
word_fits w n at few = fits_as w n at (w == 0) few

counts_as : (w n : ℕ) (b : Bool) → n < (if b then 4294967294 else 4294967296 / w - 1) → n + 1 < 2 ^ 32
counts_as w n true few = omega arith
counts_as w n false few = let most = div-le_self 4294967296 w in omega arith

-- so does the number of flushes
pub flushes_fit : (w n : ℕ) → n < most_flushes w → n + 1 < 2 ^ 32
flushes_fit w n few = counts_as w n (w == 0) few

-- ## The position of a flush

-- a flush lies at a position D, and a rear R less than a wrap past it was seen after it: the two words tell the position
pub flush_position-is : (w m n D R : ℕ) → m * w ≡ 2 ^ 32 → 0 < w → w ≤ 65536 → D ≤ R → R < D + w
    → flush_position w (wrapped (n * w + D % w)) (wrapped R) ≡ wrapped D
flush_position-is w m n D R turns some small low high =
    let f : ℕ = wrapped (n * w + D % w) in
    let X : ℕ = ahead f (wrapped R) in
    let x : ℕ = R - D in
    let place : f % w ≡ D % w = same_cell (n * w + D % w) m w turns ∙ mul-add-mod_self_right n w (D % w) ∙ mod-eq_of_lt (mod-lt D some) in
    let reach : (f + X) % w ≡ R % w =
    sym (same_cell (f + X) m w turns) ∙ ap (λ (z : ℕ). z % w) (ahead_is f (wrapped R) (let e : wrapped R < 2 ^ 32 = omega arith in e)) ∙ same_cell R m w turns in
    let turn : X % w + D ≡ D + X % w = omega arith in
    let swap : X + D ≡ D + X = omega arith in
    let gap : R ≡ D + x = omega arith in
    let there : (D + X % w) % w ≡ (D + x) % w =
    ap (λ (z : ℕ). z % w) (sym turn) ∙ mod-add-mod X w D ∙ ap (λ (z : ℕ). z % w) swap
    ∙ sym (mod-add-mod D w X) ∙ ap (λ (z : ℕ). (z + X) % w) (sym place) ∙ mod-add-mod f w X ∙ reach ∙ ap (λ (z : ℕ). z % w) gap in
    let near : x < w = omega arith in
    let is : X % w ≡ x = sym (back D (X % w) w (mod-lt X some)) ∙ ap (λ (z : ℕ). (z + (w - D % w)) % w) there ∙ back D x w near in
    ap (λ (z : ℕ). wrapped (wrapped R + (2 ^ 32 - z))) is ∙ less x near
  where
    less : (x : ℕ) → x < w → wrapped (wrapped R + (2 ^ 32 - (R - D))) ≡ wrapped D
    less x near = omega arith

past_later : (C D : ℕ) → C ≤ D → D ≤ C + 65536 → past_front (wrapped C) (wrapped D) ≡ D - C
past_later C D low high =
    let e : ahead (wrapped C) (wrapped D) ≡ D - C = between C D low high in
    ap (λ (b : Bool). if b then ahead (wrapped C) (wrapped D) else 0) (is_below (ahead (wrapped C) (wrapped D)) (2 ^ 31) (omega arith)) ∙ e

past_before : (C D : ℕ) → D < C → C ≤ D + 65536 → past_front (wrapped C) (wrapped D) ≡ 0
past_before C D low high =
    let far : 2 ^ 31 ≤ ahead (wrapped C) (wrapped D) = omega arith in
    ap (λ (b : Bool). if b then ahead (wrapped C) (wrapped D) else 0) (is_not_below (ahead (wrapped C) (wrapped D)) (2 ^ 31) far)

-- where a drop ends: at the position of the flush, or, if that lies before what is consumed, there
pub drop_word : (w m n D R C N : ℕ) → m * w ≡ 2 ^ 32 → 0 < w → w ≤ 65536 → N + N < w → D ≤ R → R ≤ C + N → C ≤ D + N
    → wrapped (wrapped C + past_front (wrapped C) (flush_position w (wrapped (n * w + D % w)) (wrapped R))) ≡ wrapped (max D C)
drop_word w m n D R C N turns some small room low high near =
    ap (λ (z : ℕ). wrapped (wrapped C + past_front (wrapped C) z)) (flush_position-is w m n D R turns some small low (omega arith))
    ∙ dite (dec_le C D)
    (λ (le : C ≤ D). ap (λ (z : ℕ). wrapped (wrapped C + z)) (past_later C D le (omega arith)) ∙ (let e : wrapped (wrapped C + (D - C)) ≡ wrapped (max D C) = omega arith in e))
    (λ not. let lt : D < C = lt_of_not-le not in ap (λ (z : ℕ). wrapped (wrapped C + z)) (past_before C D lt (omega arith)) ∙ (let e : wrapped (wrapped C + 0) ≡ wrapped (max D C) = omega arith in e))

-- ## What a server knows

module _ (k : Shape) (C R F S A D f : ℕ) (noticed flush_fresh rear_fresh : Bool) (y : KnowsFlush k C R F S A D f noticed flush_fresh rear_fresh) where
  no : {T : Type 0} → false ≡ true → T
  no e = absurd (true≢false (sym e))

  -- the client asks for a flush at its position
  pub flush_asked : (at : ℕ) → C ≤ at → KnowsFlush k C R (F + 1) S at D f noticed flush_fresh rear_fresh
  flush_asked at low =
      record {
        flush_is = y.flush_is;
        few = (let a = y.few in omega arith);
        mark = y.mark;
        mark_low = y.mark_low;
        mark_near = y.mark_near;
        mark_now = y.mark_now;
        later = (λ _. let a = y.mark_low in omega arith);
        same = (λ e. absurd (let a = y.few in omega arith));
        near = y.near;
        shows = y.shows;
      }

  noticed_near : (word : ℕ) → word ≡ flush_number k.wrap F A → D ≤ A → (b c : Bool) → noticed ≡ b → (word == f) ≡ c → (b || not c) ≡ true → C ≤ A + k.frames
  noticed_near word is low true c n e h = let a = y.near n in omega arith
  noticed_near word is low false true n e h = no h
  noticed_near word is low false false n e h =
      let differs : word ≢ f = (λ q. true≢false (sym (eq-eqb word f q) ∙ e)) in
      let new : F ≢ S = (λ q. differs (is ∙ ap (λ (z : ℕ). flush_number k.wrap F z) (y.same q) ∙ ap (λ (z : ℕ). flush_number k.wrap z D) q ∙ sym y.flush_is)) in
      let a = y.later new in
      let b = y.mark_near in
      omega arith

  -- the server loads the flush word
  pub flush_loaded : (word : ℕ) → word ≡ flush_number k.wrap F A → D ≤ A → KnowsFlush k C R F F A A word (noticed || not (word == f)) true false
  flush_loaded word is low =
      record {
        flush_is = is;
        few = omega arith;
        mark = C;
        mark_low = omega arith;
        mark_near = omega arith;
        mark_now = (λ _. refl);
        later = (λ e. absurd (e refl));
        same = (λ _. refl);
        near = (λ h. noticed_near word is low noticed (word == f) refl refl h);
        shows = no;
      }

  -- the server loads rear
  pub rear_loaded : (at : ℕ) → D ≤ at → C ≤ at → KnowsFlush k C at F S A D f noticed flush_fresh flush_fresh
  rear_loaded at low high =
      record {
        flush_is = y.flush_is;
        few = y.few;
        mark = y.mark;
        mark_low = y.mark_low;
        mark_near = y.mark_near;
        mark_now = y.mark_now;
        later = y.later;
        same = y.same;
        near = y.near;
        shows = (λ e. (low, high, e));
      }

  -- the server stores front, after it loaded the flush word and rear
  pub front_moves : (to : ℕ) → rear_fresh ≡ true → C ≤ to → to ≤ C + k.frames → KnowsFlush k to R F S A D f false false false
  front_moves to fresh low high =
      let now : y.mark ≡ C = y.mark_now (y.shows fresh).2 in
      record {
        flush_is = y.flush_is;
        few = y.few;
        mark = y.mark;
        mark_low = omega arith;
        mark_near = omega arith;
        mark_now = no;
        later = y.later;
        same = y.same;
        near = no;
        shows = no;
      }

-- ## What a flush adds

-- by the words of the two positions
pub step_is : (k : Shape) → (k.wrap ≢ 0 → IsWrapped k) → k.wrap ≢ 0 → (c : ClientPart) → c.shape ≡ k → (rear flushed : ℕ) → rear ≡ wrapped (released c) → flushed ≡ wrapped c.flush_at
    → k.wrap + rear % k.wrap - flushed % k.wrap ≡ flush_amount c
step_is k wrapped_so placed c same rear flushed here there =
    let w : ℕ = k.wrap in
    let turns = (wrapped_so placed).3 in
    let a : rear % w ≡ released c % w = ap (λ (z : ℕ). z % w) here ∙ same_cell (released c) turns.0 w turns.1 in
    let b : flushed % w ≡ c.flush_at % w = ap (λ (z : ℕ). z % w) there ∙ same_cell c.flush_at turns.0 w turns.1 in
    ap (λ (x : ℕ × ℕ). w + x.0 - x.1) (λ i. (a i, b i))
    ∙ sym (ap (λ (x : Bool). if x then 1 else w + released c % w - c.flush_at % w) (ne_eqb w 0 placed))
    ∙ ap (λ (z : ℕ). if z == 0 then 1 else z + released c % z - c.flush_at % z) (ap (λ (x : Shape). x.wrap) (sym same))

many_as : (k : Shape) → (k.wrap ≢ 0 → IsWrapped k) → (b : Bool) → (k.wrap == 0) ≡ b → 65535 ≤ (if b then 4294967294 else 4294967296 / k.wrap - 1)
many_as k wrapped_so true e = omega arith
many_as k wrapped_so false e =
    let w = wrapped_so (λ z. true≢false (sym (eq-eqb k.wrap 0 z) ∙ e)) in
    let least : 65536 ≤ 4294967296 / k.wrap = (le-div_iff_mul-le w.0).1 (let a = w.1 in omega arith) in
    omega arith

-- a flush word has room for many flushes
pub most-many : (k : Shape) → (k.wrap ≢ 0 → IsWrapped k) → 65535 ≤ most_flushes k.wrap
most-many k wrapped_so = many_as k wrapped_so (k.wrap == 0) refl
