-- A look of a server is the one that the words at its point make.
use Rattle.std.proofs.Common.{◌≡◌, ℕ, ◌==◌, ◌&&◌, ◌||◌, not, nat_lt, min, Bool, true, false, true≢false, if◌then◌else◌, is_some, List, [], Option, Some, None, refl, sym, ap, ◌∙◌, subst}
use Rattle.af_one_turn_run.proofs.Common.{Listed, LooksBy, MatchOption, Seen, ServerEvent, Shape, SlotEntry, TrackPoint, dropped_by, flush_word, front_by_answer, front_of, is_own_inside, kept, lawful_front, leaves_open, look_at, look_events, wrapped}
use Rattle.af_base.specs.declared.seen.Seen.TheVariants as seen
use Rattle.af_model.specs.Room.{ahead}
use Rattle.af_model.specs.Spelled.{own_front}
use Rattle.af_one_turn_run.proofs.Seeing.{ServerSees}

-- ## The front that is told is the one by which the look answers

-- a look whose front and rear don't fit the block leaves no front open
out_closed : (k : Shape) (asked : ℕ) (wrapless new : Bool) (dropped front rear : ℕ) → (k.wrap == 0) ≡ wrapless
    → leaves_open k asked (if new && (wrapless || not true) then seen.Flushed dropped else seen.Shut front rear) ≡ false
out_closed k asked true true dropped front rear is = ap (λ b. not b && (dropped == 0)) is
out_closed k asked true false dropped front rear is = refl
out_closed k asked false true dropped front rear is = refl
out_closed k asked false false dropped front rear is = refl

open_inside : (k : Shape) (old asked flush rear own : ℕ) → leaves_open k asked (look_at k old asked flush rear own) ≡ true → nat_lt k.frames (ahead own rear) ≡ false
open_inside k old asked flush rear own opens = by_out (nat_lt k.frames (ahead own rear)) opens
  where
    by_out : (out : Bool) → leaves_open k asked (if not (flush == old) && (k.wrap == 0 || not out) then seen.Flushed (dropped_by k.wrap flush rear own) else if out then seen.Shut own rear else if rear == own then seen.Empty else seen.Frames (min asked (ahead own rear))) ≡ true → out ≡ false
    by_out false opens = refl
    by_out true opens = absurd (true≢false (sym opens ∙ out_closed k asked (k.wrap == 0) (not (flush == old)) (dropped_by k.wrap flush rear own) own rear refl))

module _ (asked : ℕ) (s : Listed) (slot : SlotEntry) where
  pub front_told : (kept s).shut ≡ None → LooksBy asked s slot (lawful_front asked s slot) → front_of asked s slot ≡ lawful_front asked s slot
  front_told free looks = by_open (leaves_open s.shape asked slot.seen) refl
    where
      own : ℕ
      own = own_front s.shape (kept s)

      answers : leaves_open s.shape asked slot.seen ≡ true → slot.seen ≡ look_at s.shape (kept s).flush asked slot.flush slot.rear own
      answers opens =
          subst (λ f. slot.seen ≡ look_at s.shape (kept s).flush asked slot.flush slot.rear f) (ap (λ b. if b then own else front_by_answer s.shape slot) opens)
          (subst (λ o. MatchOption o (slot.seen ≡ look_at s.shape (kept s).flush asked slot.flush slot.rear (lawful_front asked s slot)) (λ words. (slot.seen ≡ seen.Shut words.0 words.1) × (slot.flush ≡ (kept s).flush) × (slot.rear ≡ words.1))) free looks.1)

      by_open : (b : Bool) → leaves_open s.shape asked slot.seen ≡ b → (if b && is_own_inside s slot.rear then own else front_by_answer s.shape slot) ≡ (if b then own else front_by_answer s.shape slot)
      by_open false is = refl
      by_open true is = ap (λ (out : Bool). if not out then own else front_by_answer s.shape slot) (open_inside s.shape (kept s).flush asked slot.flush slot.rear own (ap (leaves_open s.shape asked) (sym (answers is)) ∙ is))

-- ## What a look is

-- the words of a look, and its answer
pub record Look : Type 0 where
  pub flush : ℕ
  pub rear : ℕ
  pub seen : Seen

abbrev pub look_of : SlotEntry → Look
look_of slot = record { flush = slot.flush; rear = slot.rear; seen = slot.seen }

-- the look by the words that shut the server, or else by those at a point
abbrev pub looked_by : Option (ℕ × ℕ) → ℕ → Listed → TrackPoint → Look
looked_by None asked s p = record { flush = flush_word p; rear = wrapped p.released; seen = look_at s.shape (kept s).flush asked (flush_word p) (wrapped p.released) (wrapped p.consumed) }
looked_by (Some words) asked s p = record { flush = (kept s).flush; rear = words.1; seen = seen.Shut words.0 words.1 }

abbrev pub looked : ℕ → Listed → TrackPoint → Look
looked asked s p = looked_by (kept s).shut asked s p

-- the events of a look by a front, none of a server that was shut
abbrev pub looks_by : Listed → SlotEntry → ℕ → List ServerEvent
looks_by s slot front = if is_some (kept s).shut then [] else look_events slot.seen slot.flush slot.rear front

module _ (asked : ℕ) (s : Listed) (slot : SlotEntry) where
  -- a legal look that sees what is there is the look at the point
  pub look_so : (p : TrackPoint) (n : ℕ) → LooksBy asked s slot (lawful_front asked s slot) → ServerSees p n (looks_by s slot (lawful_front asked s slot)) → look_of slot ≡ looked asked s p
  look_so p n looks sees = by_shut (kept s).shut looks.1 sees
    where
      by_shut : (o : Option (ℕ × ℕ))
          → MatchOption o (slot.seen ≡ look_at s.shape (kept s).flush asked slot.flush slot.rear (lawful_front asked s slot)) (λ words. (slot.seen ≡ seen.Shut words.0 words.1) × (slot.flush ≡ (kept s).flush) × (slot.rear ≡ words.1))
          → ServerSees p n (if is_some o then [] else look_events slot.seen slot.flush slot.rear (lawful_front asked s slot)) → look_of slot ≡ looked_by o asked s p
      by_shut None h sees =
          (λ i. let l : Look = record { flush = sees.0 i; rear = sees.1.0 i; seen = h i } in l)
          ∙ (λ i. let l : Look = record { flush = flush_word p; rear = wrapped p.released; seen = look_at s.shape (kept s).flush asked (sees.0 i) (sees.1.0 i) (sees.1.1.0 i) } in l)
      by_shut (Some words) h sees = λ i. let l : Look = record { flush = h.1 i; rear = h.2 i; seen = h.0 i } in l

  -- the events that are told are those by the front by which the look answers
  pub events_told : LooksBy asked s slot (lawful_front asked s slot) → looks_by s slot (front_of asked s slot) ≡ looks_by s slot (lawful_front asked s slot)
  events_told looks = by_shut (kept s).shut refl
    where
      by_shut : (o : Option (ℕ × ℕ)) → (kept s).shut ≡ o → (if is_some o then [] else look_events slot.seen slot.flush slot.rear (front_of asked s slot)) ≡ (if is_some o then [] else look_events slot.seen slot.flush slot.rear (lawful_front asked s slot))
      by_shut None is = ap (look_events slot.seen slot.flush slot.rear) (front_told asked s slot is looks)
      by_shut (Some words) is = refl
