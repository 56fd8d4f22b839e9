-- How settings are numbered, and that no call uses an older one than it must.
use Rattle.std.proofs.Common.{◌≡◌, ℕ, suc, ◌+◌, ◌≤◌, max, List, [], ◌∷◌, ◌++◌, refl, sym, ap, ◌∙◌, subst, arith}
use Rattle.af_model.specs.declared.newest.WriterEvent.{WriterEvent}
use Rattle.af_model.specs.declared.newest.WriterEvent.TheVariants.{Store}
use Rattle.af_model.specs.declared.newest.WriterEvent.TheVariants as writes
use Rattle.af_model.specs.declared.newest.ReaderEvent.{ReaderEvent}
use Rattle.af_model.specs.declared.newest.ReaderEvent.TheVariants.{Load}
use Rattle.af_model.specs.declared.newest.ReaderEvent.TheVariants as reads
use Rattle.af_model.specs.Order.{Event, one, two, ones, twos, Legal}
use Rattle.af_model.specs.NewestValue.{CellPoint, start_value, legal_value, next_value, HasValueHistory}
use Rattle.af_latest.specs.Laws.{stored_by, stores, NeverOlder}
use Rattle.af_static.specs.declared.setting.Setting.{Setting}
use Rattle.af_static.specs.Loops.{opening}
use Rattle.af_static.specs.Numbers.{AreNumbered, NumbersNeverFall}

-- one setting more
pub numbered_on : (last : ℕ) (s : Setting) (ws : List (WriterEvent Setting)) → AreNumbered last ws → s.number ≡ last + stores ws + 1 → AreNumbered last (ws ++ Store s ∷ [])
numbered_on last s [] r is = (omega arith, tt)
numbered_on last s (Store t ∷ ws) r is = (r.0, numbered_on (last + 1) s ws r.1 (omega arith))
numbered_on last s (writes.Learn c ∷ ws) r is = numbered_on last s ws r is

pub stores_on : (s : Setting) (ws : List (WriterEvent Setting)) → stores (ws ++ Store s ∷ []) ≡ stores ws + 1
stores_on s [] = omega arith
stores_on s (Store t ∷ ws) = let e = stores_on s ws in omega arith
stores_on s (writes.Learn c ∷ ws) = stores_on s ws

pub numbered_met : (last c : ℕ) (ws : List (WriterEvent Setting)) → AreNumbered last ws → AreNumbered last (ws ++ writes.Learn c ∷ [])
numbered_met last c [] r = tt
numbered_met last c (Store t ∷ ws) r = (r.0, numbered_met (last + 1) c ws r.1)
numbered_met last c (writes.Learn d ∷ ws) r = numbered_met last c ws r

pub stores_met : (c : ℕ) (ws : List (WriterEvent Setting)) → stores (ws ++ writes.Learn c ∷ []) ≡ stores ws
stores_met c [] = refl
stores_met c (Store t ∷ ws) = ap suc (stores_met c ws)
stores_met c (writes.Learn d ∷ ws) = stores_met c ws

-- ## Loads

-- each load shows the setting of its number
Shown : List (ReaderEvent Setting) → Type 0
Shown [] = Unit {0}
Shown (Load n s ∷ rs) = (s.number ≡ n) × Shown rs
Shown (reads.Learn c ∷ rs) = Shown rs

shown : (p : CellPoint Setting) (es : List (Event (WriterEvent Setting) (ReaderEvent Setting))) → Legal legal_value next_value p es → p.value.number ≡ p.number → AreNumbered p.number (ones es) → Shown (twos es)
unfolding Shown
shown p [] l is r = tt
shown p (one (Store x) ∷ es) l is r = shown (next_value p (one (Store x))) es l.1 r.0 r.1
shown p (one (writes.Learn c) ∷ es) l is r = shown (next_value p (one (writes.Learn c))) es l.1 is r
shown p (two (Load n x) ∷ es) l is r = (ap (λ (s : Setting). s.number) l.0.1 ∙ is ∙ sym l.0.0, shown (next_value p (two (Load n x))) es l.1 is r)
shown p (two (reads.Learn c) ∷ es) l is r = shown (next_value p (two (reads.Learn c))) es l.1 is r

both : (ws : List (WriterEvent Setting)) (low : ℕ) (rs : List (ReaderEvent Setting)) → Shown rs → NeverOlder ws low rs → NumbersNeverFall ws low rs
unfolding Shown
both ws low [] s o = tt
both ws low (Load n x ∷ rs) s o =
    let is : x.number ≡ n = s.0 in
    let low_is : low ≤ n = o.0 in
    (is, omega arith, subst (λ (k : ℕ). NumbersNeverFall ws k rs) (sym is) (both ws n rs s.1 o.1))
both ws low (reads.Learn c ∷ rs) s o = both ws (max low (stored_by ws c)) rs s o

-- in a history of settings that are numbered no call uses an older one than it must
pub numbers_never_fall : (ws : List (WriterEvent Setting)) (rs : List (ReaderEvent Setting)) → AreNumbered 0 ws → HasValueHistory opening ws rs → NeverOlder ws 0 rs → NumbersNeverFall ws 0 rs
numbers_never_fall ws rs r h older =
    both ws 0 rs (subst Shown h.of_two (shown (start_value opening) h.order h.is_legal refl (subst (AreNumbered 0) (sym h.of_one) r))) older
