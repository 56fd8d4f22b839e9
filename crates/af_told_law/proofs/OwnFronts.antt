-- A look that saw its server's own front saw the front that its answer tells.
use Rattle.std.proofs.Common.{◌≡◌, ℕ, ◌+◌, ◌^◌, ◌==◌, ◌&&◌, ◌||◌, not, min, nat_lt, Bool, true, false, true≢false, if◌then◌else◌, is_some, Option, Some, None, List, [], ◌∷◌, ◌++◌, refl, sym, ap, ◌∙◌, arith}
use Rattle.af_told_law.proofs.Common.{AllSeeOwn, Listed, LooksBy, MatchOption, Seen, ServerEvent, Shape, SlotEntry, events_behind_look, ahead, behind, both, cycle_events, dropped_by, eqb-false, flush_position, flushed_front, front_by_answer, front_of, is_own_inside, kept, lawful_front, leaves_open, look_at, look_events, not_true, own_front, past_front, wrapped}
use Rattle.af_base.specs.declared.event.ServerEvent.TheVariants as server
use Rattle.af_base.specs.declared.seen.Seen.TheVariants as seen
use Rattle.af_told_law.proofs.FrontLeaves.{by_answer}

back_to : (f p : ℕ) → f ≡ wrapped f → behind p (ahead f p) ≡ f
back_to f p word = (let b : behind p (ahead f p) ≡ wrapped f = omega arith in b) ∙ sym word

module _ (k : Shape) (old asked : ℕ) (slot : SlotEntry) (f : ℕ) (word : f ≡ wrapped f) (answers : slot.seen ≡ look_at k old asked slot.flush slot.rear f) where
  abbrev at : ℕ
  at = flush_position k.wrap slot.flush slot.rear

  -- a flush tells the front, unless it drops nothing by a position
  flush_tells : (not (k.wrap == 0) && (dropped_by k.wrap slot.flush slot.rear f == 0)) ≡ false → flushed_front k.wrap slot.flush slot.rear (dropped_by k.wrap slot.flush slot.rear f) ≡ f
  flush_tells closed = by_wrap (k.wrap == 0) closed
    where
      drops : Bool → ℕ
      drops b = if b then ahead f slot.rear else past_front f at

      by_near : (b : Bool) → nat_lt (ahead f at) (2 ^ 31) ≡ b → ((if b then ahead f at else 0) == 0) ≡ false → behind at (if b then ahead f at else 0) ≡ f
      by_near true e some = back_to f at word
      by_near false e some = absurd (true≢false some)

      by_some : (c : Bool) → (past_front f at == 0) ≡ c → c ≡ false → (if c then slot.rear else behind at (past_front f at)) ≡ f
      by_some true is e = absurd (true≢false e)
      by_some false is e = by_near (nat_lt (ahead f at) (2 ^ 31)) refl is

      by_wrap : (b : Bool) → (not b && ((if b then ahead f slot.rear else past_front f at) == 0)) ≡ false
          → (if b then behind slot.rear (if b then ahead f slot.rear else past_front f at) else if (if b then ahead f slot.rear else past_front f at) == 0 then slot.rear else behind at (if b then ahead f slot.rear else past_front f at)) ≡ f
      by_wrap true e = back_to f slot.rear word
      by_wrap false e = by_some (past_front f at == 0) refl e

  -- an answer that doesn't leave the front open tells it
  pub front_tells : leaves_open k asked slot.seen ≡ false → front_by_answer k slot ≡ f
  front_tells = by_answer k old asked slot f answers (λ (s : Seen). leaves_open k asked s ≡ false → front_by_answer k (record slot { seen = s }) ≡ f)
      (λ noticed closed. flush_tells closed)
      (λ off out closed. refl)
      (λ off inside same closed. same)
      (λ off inside closed. ap (behind slot.rear) (let ne = eqb-false (min asked (ahead f slot.rear)) asked closed in let m : min asked (ahead f slot.rear) ≡ ahead f slot.rear = omega (arith, ne) in m) ∙ back_to f slot.rear word)

  -- if an answer leaves the front open, the front lies in the block
  pub open_inside : leaves_open k asked slot.seen ≡ true → nat_lt k.frames (ahead f slot.rear) ≡ false
  open_inside = by_answer k old asked slot f answers (λ (s : Seen). leaves_open k asked s ≡ true → nat_lt k.frames (ahead f slot.rear) ≡ false)
      (λ noticed opens. fits (k.wrap == 0) (nat_lt k.frames (ahead f slot.rear)) (both (not (slot.flush == old)) _ noticed).1 (both (not (k.wrap == 0)) _ opens).0)
      (λ off out opens. absurd (true≢false (sym opens)))
      (λ off inside same opens. inside)
      (λ off inside opens. inside)
    where
      fits : (wrapless out : Bool) → (wrapless || not out) ≡ true → not wrapless ≡ true → out ≡ false
      fits true out a b = absurd (true≢false (sym b))
      fits false out a b = not_true out a

-- a look that saw its server's own front saw the one that a journal tells, and the one of a lawful block
pub own_told : (asked : ℕ) (s : Listed) (slot : SlotEntry) (f : ℕ) → slot.seen ≡ look_at s.shape (kept s).flush asked slot.flush slot.rear f → f ≡ own_front s.shape (kept s) → (front_of asked s slot ≡ f) × (lawful_front asked s slot ≡ f)
own_told asked s slot f answers own = by_open (leaves_open s.shape asked slot.seen) refl
  where
    word : f ≡ wrapped f
    word = own ∙ (let n : ℕ = s.shape.base + (kept s).consumed in let e : wrapped n ≡ wrapped (wrapped n) = omega arith in e) ∙ sym (ap wrapped own)

    by_open : (b : Bool) → leaves_open s.shape asked slot.seen ≡ b
        → ((if b && is_own_inside s slot.rear then own_front s.shape (kept s) else front_by_answer s.shape slot) ≡ f) × ((if b then own_front s.shape (kept s) else front_by_answer s.shape slot) ≡ f)
    by_open true e =
        let inside : is_own_inside s slot.rear ≡ true = ap not (ap (λ (g : ℕ). nat_lt s.shape.frames (ahead g slot.rear)) (sym own) ∙ open_inside s.shape (kept s).flush asked slot f word answers e) in
        (ap (λ (b : Bool). if b then own_front s.shape (kept s) else front_by_answer s.shape slot) inside ∙ sym own, sym own)
    by_open false e = let is = front_tells s.shape (kept s).flush asked slot f word answers e in (is, is)

-- ## The events of a cycle

-- if each front that a cycle saw is its server's own, its events are those that a journal tells, and those of a lawful block
pub cycle_told : (asked : ℕ) (s : Listed) (slot : SlotEntry) (f : ℕ) → LooksBy asked s slot f → AllSeeOwn s.shape (kept s) (cycle_events asked s slot f)
    → (cycle_events asked s slot f ≡ cycle_events asked s slot (front_of asked s slot)) × (cycle_events asked s slot f ≡ cycle_events asked s slot (lawful_front asked s slot))
cycle_told asked s slot f looks own = by_shut (kept s).shut looks.1 own
  where
    events : Bool → ℕ → List ServerEvent
    events was g = server.SawGain slot.gains ∷ (if was then [] else look_events slot.seen slot.flush slot.rear g) ++ events_behind_look asked was slot.seen

    by_shut : (o : Option (ℕ × ℕ)) → MatchOption o (slot.seen ≡ look_at s.shape (kept s).flush asked slot.flush slot.rear f) (λ words. (slot.seen ≡ seen.Shut words.0 words.1) × (slot.flush ≡ (kept s).flush) × (slot.rear ≡ words.1))
        → AllSeeOwn s.shape (kept s) (events (is_some o) f) → (events (is_some o) f ≡ events (is_some o) (front_of asked s slot)) × (events (is_some o) f ≡ events (is_some o) (lawful_front asked s slot))
    by_shut None answers own =
        let is = own_told asked s slot f answers own.1.1.1.0 in
        (ap (events false) (sym is.0), ap (events false) (sym is.1))
    by_shut (Some words) answers own = (refl, refl)
