-- Two lists of a server that tell alike do so after the events of a look, by each front by which it answers so.
use Rattle.std.proofs.Common.{◌≡◌, ℕ, suc, ◌+◌, ◌-◌, ◌==◌, not, Bool, true, false, true≢false, if◌then◌else◌, is_some, fold, MatchOption, List, [], ◌∷◌, ◌++◌, length, length-append, Option, Some, None, refl, sym, ap, ◌∙◌, subst, arith}
use Rattle.af_told_law.proofs.Common.{IsSeen, Listed, LooksBy, Seen, ServerEvent, ServerKept, Shape, SlotEntry, events_behind_look, ahead, cycle_events, fold-append, front_of, is_noticed, kept, kept_more, look_at, look_events, outside, server_keeps, server_kept, wrapped}
use Rattle.af_base.specs.declared.event.ServerEvent.TheVariants as server
use Rattle.af_base.specs.declared.seen.Seen.TheVariants as seen
use Rattle.af_told_law.specs.Alike.{TellAlike, bare}
use Rattle.af_told_law.proofs.FrontLeaves.{Leaves, told_leaves}

-- lists that are the same tell alike
pub same_alike : (k : Shape) (xs ys : List ServerEvent) → xs ≡ ys → TellAlike k xs ys
same_alike k xs ys is = record { kept = ap (λ (es : List ServerEvent). bare (server_kept k es)) is; long = ap (λ (es : List ServerEvent). length es) is }

-- a meeting tells nothing
pub met_alike : (k : Shape) (xs ys : List ServerEvent) (n : ℕ) → TellAlike k xs ys → TellAlike k (xs ++ server.Learn n ∷ []) (ys ++ server.Learn n ∷ [])
met_alike k xs ys n h = record {
  kept = ap bare (kept_more k xs (server.Learn n ∷ [])) ∙ h.kept ∙ sym (ap bare (kept_more k ys (server.Learn n ∷ [])));
  long = length-append xs (server.Learn n ∷ []) ∙ ap (λ (l : ℕ). l + 1) h.long ∙ sym (length-append ys (server.Learn n ∷ []));
}

-- ## Events by which nothing is dropped

abbrev pub NoDrops : List ServerEvent → Type 0
NoDrops [] = Unit {0}
NoDrops (server.Drop to ∷ es) = ⊥
NoDrops (e ∷ es) = NoDrops es

module _ (k : Shape) where
  pub undropped_alike : (es : List ServerEvent) (a b : ServerKept) → NoDrops es → bare a ≡ bare b → bare (fold (server_keeps k) a es) ≡ bare (fold (server_keeps k) b es)
  undropped_alike [] a b none h = h
  undropped_alike (server.Drop to ∷ es) a b none h = absurd none
  undropped_alike (server.SawFlush flush ∷ es) a b none h = undropped_alike es (server_keeps k a (server.SawFlush flush)) (server_keeps k b (server.SawFlush flush)) none (ap (λ (z : ServerKept). bare (server_keeps k z (server.SawFlush flush))) h)
  undropped_alike (server.SawRear rear ∷ es) a b none h = undropped_alike es (server_keeps k a (server.SawRear rear)) (server_keeps k b (server.SawRear rear)) none (ap (λ (z : ServerKept). bare (server_keeps k z (server.SawRear rear))) h)
  undropped_alike (server.SawFront front ∷ es) a b none h = undropped_alike es (server_keeps k a (server.SawFront front)) (server_keeps k b (server.SawFront front)) none (ap (λ (z : ServerKept). bare (server_keeps k z (server.SawFront front))) h)
  undropped_alike (server.Take count ∷ es) a b none h = undropped_alike es (server_keeps k a (server.Take count)) (server_keeps k b (server.Take count)) none (ap (λ (z : ServerKept). bare (server_keeps k z (server.Take count))) h)
  undropped_alike (_ ∷ es) a b none h = undropped_alike es a b none h

  -- ## A look

  -- how many frames are consumed after a look that answered so
  abbrev consumes : Seen → ℕ → ℕ
  consumes (seen.Flushed dropped) n = n + wrapped dropped
  consumes _ n = n

  -- what a look leaves, but for its front
  abbrev left_by : ServerKept → Seen → (flush rear : ℕ) → Bool → Option (ℕ × ℕ) → ServerKept
  left_by a answer flush rear noticed out =
      record { flush = flush; is_new = not (flush == a.flush); noticed = if noticed then flush else a.noticed; rear = rear; front = 0; consumed = consumes answer a.consumed; shut = if noticed then None else out }

  look_leaves : (a : ServerKept) (answer : Seen) (flush rear front : ℕ) → bare (fold (server_keeps k) a (look_events answer flush rear front)) ≡ left_by (bare a) answer flush rear (is_noticed k (not (flush == a.flush)) rear front) (outside k.frames front rear)
  look_leaves a seen.Absent flush rear front = refl
  look_leaves a seen.Empty flush rear front = refl
  look_leaves a (seen.Frames count) flush rear front = refl
  look_leaves a (seen.Shut f r) flush rear front = refl
  look_leaves a (seen.Flushed dropped) flush rear front =
      let noticed = is_noticed k (not (flush == a.flush)) rear front in
      let far : ahead front (wrapped (front + dropped)) ≡ wrapped dropped = omega arith in
      ap (λ (n : ℕ). let z : ServerKept = record { flush = flush; is_new = not (flush == a.flush); noticed = if noticed then flush else a.noticed; rear = rear; front = 0; consumed = a.consumed + n; shut = if noticed then None else outside k.frames front rear } in z) far

  left_same : (a : ServerKept) (answer : Seen) (flush rear : ℕ) (m n : Bool) (o p : Option (ℕ × ℕ)) → m ≡ n → (m ≡ false → o ≡ p) → left_by a answer flush rear m o ≡ left_by a answer flush rear n p
  left_same a answer flush rear true n o p same out = ap (λ (z : Bool). let w : ServerKept = record { flush = flush; is_new = not (flush == a.flush); noticed = if z then flush else a.noticed; rear = rear; front = 0; consumed = consumes answer a.consumed; shut = if z then None else (if z then o else p) } in w) same ∙ by_none n (sym same)
    where
      by_none : (z : Bool) → z ≡ true → left_by a answer flush rear z (if z then o else p) ≡ left_by a answer flush rear z p
      by_none z is = ap (λ (y : Bool). left_by a answer flush rear y (if y then o else p)) is ∙ sym (ap (λ (y : Bool). left_by a answer flush rear y p) is)
  left_same a answer flush rear false n o p same out = (λ j. left_by a answer flush rear (same j) (out refl j))

  -- one look by two fronts that leave the same
  pub look_alike : (a b : ServerKept) (answer : Seen) (flush rear f g : ℕ) → bare a ≡ bare b → Leaves k a.flush flush rear f g → bare (fold (server_keeps k) a (look_events answer flush rear f)) ≡ bare (fold (server_keeps k) b (look_events answer flush rear g))
  look_alike a b answer flush rear f g h leaves =
      look_leaves a answer flush rear f
      ∙ left_same (bare a) answer flush rear (is_noticed k (not (flush == a.flush)) rear f) (is_noticed k (not (flush == a.flush)) rear g) (outside k.frames f rear) (outside k.frames g rear) leaves.0 leaves.1
      ∙ ap (λ (z : ServerKept). left_by z answer flush rear (is_noticed k (not (flush == z.flush)) rear g) (outside k.frames g rear)) h
      ∙ sym (look_leaves b answer flush rear g)

  -- a look by a server that may be shut, and what follows it
  pub some_look : (was : Bool) (more : List ServerEvent) (a b : ServerKept) (answer : Seen) (flush rear f g : ℕ) → NoDrops more → bare a ≡ bare b → (was ≡ false → Leaves k a.flush flush rear f g)
      → bare (fold (server_keeps k) a ((if was then [] else look_events answer flush rear f) ++ more)) ≡ bare (fold (server_keeps k) b ((if was then [] else look_events answer flush rear g) ++ more))
  some_look true more a b answer flush rear f g none h leaves = undropped_alike more a b none h
  some_look false more a b answer flush rear f g none h leaves =
      ap bare (fold-append (server_keeps k) a (look_events answer flush rear f) more)
      ∙ undropped_alike more (fold (server_keeps k) a (look_events answer flush rear f)) (fold (server_keeps k) b (look_events answer flush rear g)) none (look_alike a b answer flush rear f g h (leaves refl))
      ∙ sym (ap bare (fold-append (server_keeps k) b (look_events answer flush rear g) more))

-- ## A cycle

tally_drops : (n : Bool) (missing : ℕ) → NoDrops (if n then [] else server.Tally missing ∷ server.SetFlags 1 ∷ [])
tally_drops true missing = tt
tally_drops false missing = tt

after_drops : (asked : ℕ) (was : Bool) (answer : Seen) → NoDrops (events_behind_look asked was answer)
after_drops asked was seen.Absent = tt
after_drops asked was (seen.Frames count) = tally_drops (asked - count == 0) (asked - count)
after_drops asked was seen.Empty = tally_drops (asked == 0) asked
after_drops asked was (seen.Flushed dropped) = tt
after_drops asked true (seen.Shut front rear) = tt
after_drops asked false (seen.Shut front rear) = tt

look_long : (answer : Seen) (flush rear f g : ℕ) → length (look_events answer flush rear f) ≡ length (look_events answer flush rear g)
look_long seen.Absent flush rear f g = refl
look_long _ flush rear f g = refl

pub some_long : (was : Bool) (more : List ServerEvent) (answer : Seen) (flush rear f g : ℕ) → length ((if was then [] else look_events answer flush rear f) ++ more) ≡ length ((if was then [] else look_events answer flush rear g) ++ more)
some_long true more answer flush rear f g = refl
some_long false more answer flush rear f g =
    length-append (look_events answer flush rear f) more ∙ ap (λ (n : ℕ). n + length more) (look_long answer flush rear f g) ∙ sym (length-append (look_events answer flush rear g) more)

-- the answer that a server that isn't shut gives
pub answers : (asked : ℕ) (k : Shape) (z : ServerKept) (slot : SlotEntry) (f : ℕ) → MatchOption z.shut (slot.seen ≡ look_at k z.flush asked slot.flush slot.rear f) (λ words. (slot.seen ≡ seen.Shut words.0 words.1) × (slot.flush ≡ z.flush) × (slot.rear ≡ words.1))
    → is_some z.shut ≡ false → slot.seen ≡ look_at k z.flush asked slot.flush slot.rear f
answers asked k z slot f looks open_so = by_shut z.shut looks open_so
  where
    by_shut : (o : Option (ℕ × ℕ)) → MatchOption o (slot.seen ≡ look_at k z.flush asked slot.flush slot.rear f) (λ words. (slot.seen ≡ seen.Shut words.0 words.1) × (slot.flush ≡ z.flush) × (slot.rear ≡ words.1)) → is_some o ≡ false
        → slot.seen ≡ look_at k z.flush asked slot.flush slot.rear f
    by_shut None looks off = looks
    by_shut (Some words) looks off = absurd (true≢false off)

module _ (k : Shape) (xs ys : List ServerEvent) (h : TellAlike k xs ys) (asked : ℕ) (slot : SlotEntry) where
  -- the server that really was, and the one that is told
  abbrev real : Listed
  real = record { shape = k; events = xs }

  abbrev told : Listed
  told = record { shape = k; events = ys }

  -- a look answers by the one as by the other
  pub looks_alike : (f : ℕ) → LooksBy asked real slot f → LooksBy asked told slot f
  looks_alike f = subst (λ (z : ServerKept). IsSeen slot.seen × MatchOption z.shut (slot.seen ≡ look_at k z.flush asked slot.flush slot.rear f) (λ words. (slot.seen ≡ seen.Shut words.0 words.1) × (slot.flush ≡ z.flush) × (slot.rear ≡ words.1))) h.kept

  -- the events of the look are the same by the one as by the other
  pub events_alike : (f : ℕ) → cycle_events asked real slot f ≡ cycle_events asked told slot f
  events_alike f = ap (λ (z : ServerKept). let was = is_some z.shut in server.SawGain slot.gains ∷ (if was then [] else look_events slot.seen slot.flush slot.rear f) ++ events_behind_look asked was slot.seen) h.kept

  -- after the look the lists tell alike, if both fronts leave the same
  pub cycle_alike : (f g : ℕ) → (is_some (kept told).shut ≡ false → Leaves k (kept told).flush slot.flush slot.rear f g) → TellAlike k (xs ++ cycle_events asked real slot f) (ys ++ cycle_events asked told slot g)
  cycle_alike f g leaves =
      let was : Bool = is_some (kept told).shut in
      let more : List ServerEvent = events_behind_look asked was slot.seen in
      let here : TellAlike k (xs ++ cycle_events asked told slot f) (ys ++ cycle_events asked told slot g) = record {
        kept = ap bare (kept_more k xs (cycle_events asked told slot f))
            ∙ some_look k was more (kept real) (kept told) slot.seen slot.flush slot.rear f g (after_drops asked was slot.seen) h.kept
            (λ off. subst (λ (z : ServerKept). Leaves k z.flush slot.flush slot.rear f g) (sym h.kept) (leaves off))
            ∙ sym (ap bare (kept_more k ys (cycle_events asked told slot g)));
        long = length-append xs (cycle_events asked told slot f) ∙ (λ j. h.long j + suc (some_long was more slot.seen slot.flush slot.rear f g j)) ∙ sym (length-append ys (cycle_events asked told slot g));
      } in
      subst (λ (es : List ServerEvent). TellAlike k (xs ++ es) (ys ++ cycle_events asked told slot g)) (sym (events_alike f)) here

  -- after the look the lists tell alike by the front that a journal tells
  pub told_alike : (f : ℕ) → LooksBy asked real slot f → TellAlike k (xs ++ cycle_events asked real slot f) (ys ++ cycle_events asked told slot (front_of asked told slot))
  told_alike f looks = cycle_alike f (front_of asked told slot) (λ off. told_leaves asked told slot f (answers asked k (kept told) slot f (looks_alike f looks).1 off))

-- a cycle of a server with another record of its shape is told alike
pub cycle_told_alike : (asked : ℕ) (s b : Listed) (slot : SlotEntry) (f : ℕ) → s.shape ≡ b.shape → TellAlike b.shape s.events b.events → LooksBy asked s slot f
    → TellAlike b.shape (s.events ++ cycle_events asked s slot f) (b.events ++ cycle_events asked b slot (front_of asked b slot))
cycle_told_alike asked s b slot f same h looks =
    let as_told : s ≡ record { shape = b.shape; events = s.events } = λ j. record { shape = same j; events = s.events } in
    subst (λ (l : Listed). TellAlike b.shape (s.events ++ cycle_events asked l slot f) (b.events ++ cycle_events asked b slot (front_of asked b slot))) (sym as_told)
    (told_alike b.shape s.events b.events h asked slot f (subst (λ (l : Listed). LooksBy asked l slot f) as_told looks))

pub looks_told : (asked : ℕ) (s b : Listed) (slot : SlotEntry) (f : ℕ) → s.shape ≡ b.shape → TellAlike b.shape s.events b.events → LooksBy asked s slot f → LooksBy asked b slot f
looks_told asked s b slot f same h looks =
    let as_told : s ≡ record { shape = b.shape; events = s.events } = λ j. record { shape = same j; events = s.events } in
    looks_alike b.shape s.events b.events h asked slot f (subst (λ (l : Listed). LooksBy asked l slot f) as_told looks)
