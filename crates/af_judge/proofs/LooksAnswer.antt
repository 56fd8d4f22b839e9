-- Looks at a command block are legal by some fronts exactly if each answers by the front by which it is judged.
use Rattle.std.proofs.Common.{◌≡◌, ℕ, ◌+◌, ◌^◌, ◌≤◌, ◌==◌, ◌&&◌, ◌||◌, not, min, nat_lt, Bool, true, false, true≢false, if◌then◌else◌, is_some, fold, refl, sym, ap, ◌∙◌, subst, List, [], ◌∷◌, ◌++◌, Option, Some, None, arith}
use Rattle.af_judge.proofs.Common.{CommandLook, IsSeen, Listed, LooksBy, MatchOption, Seen, ServerEvent, ServerKept, Shape, SlotEntry, ahead, as_slot, both, command_events, dropped_by, front_by_answer, front_of, is_noticed, is_own_inside, kept, leaves_open, look_at, look_events, not_true, or_true, outside, own_front, server_begins, server_keeps, server_kept, shows_command, takes_command, wrapped}
use Rattle.af_base.specs.declared.event.ServerEvent.TheVariants as server
use Rattle.af_base.specs.declared.seen.Seen.TheVariants as seen
use Rattle.af_judge.proofs.LookFront.{answers_so, flushed_so, open_so, noticed_new}

-- ## Servers that differ at most in the front that they saw last

pub record Alike (a b : ServerKept) : Type 0 where
  pub flush : a.flush ≡ b.flush
  pub is_new : a.is_new ≡ b.is_new
  pub noticed : a.noticed ≡ b.noticed
  pub rear : a.rear ≡ b.rear
  pub consumed : a.consumed ≡ b.consumed
  pub shut : a.shut ≡ b.shut

pub alike : (a : ServerKept) → Alike a a
alike a = record { flush = refl; is_new = refl; noticed = refl; rear = refl; consumed = refl; shut = refl }

-- what a look showed: a flush, and the words that shut the server
is_flushed : Seen → Bool
is_flushed (seen.Flushed dropped) = true
is_flushed _ = false

shut_by : Seen → Option (ℕ × ℕ)
shut_by (seen.Shut front rear) = Some (front, rear)
shut_by _ = None

-- a server that saw this front notices a flush if the look showed one, and is shut if it showed that
record Tells (k : Shape) (a : ServerKept) (flush rear front : ℕ) (s : Seen) : Type 0 where
  noticed : is_noticed k (not (flush == a.flush)) rear front ≡ is_flushed s
  shut : (if is_noticed k (not (flush == a.flush)) rear front then None else outside k.frames front rear) ≡ shut_by s

module _ (k : Shape) where
  keeps_more : (a : ServerKept) (xs ys : List ServerEvent) → fold (server_keeps k) a (xs ++ ys) ≡ fold (server_keeps k) (fold (server_keeps k) a xs) ys
  keeps_more a [] ys = refl
  keeps_more a (x ∷ xs) ys = keeps_more (server_keeps k a x) xs ys

  -- ## What follows a look

  -- the front of a look that answered so
  tells_so : (few : k.wrap ≤ 2 ^ 31) (a : ServerKept) (asked flush rear f : ℕ) (s : Seen) → s ≡ look_at k a.flush asked flush rear f → Tells k a flush rear f s
  unfolding is_flushed shut_by
  tells_so few a asked flush rear f s answers =
      by_case (is_noticed k (not (flush == a.flush)) rear f) (nat_lt k.frames (ahead f rear)) (rear == f) refl refl refl
    where
      by_case : (n o e : Bool) → is_noticed k (not (flush == a.flush)) rear f ≡ n → nat_lt k.frames (ahead f rear) ≡ o → (rear == f) ≡ e → Tells k a flush rear f s
      by_case true o e noticed is_out is_same =
          let is : s ≡ seen.Flushed (dropped_by k.wrap flush rear f) = answers ∙ flushed_so k few a.flush asked flush rear f (dropped_by k.wrap flush rear f) noticed refl in
          subst (Tells k a flush rear f) (sym is) (record { noticed = noticed; shut = ap (λ (b : Bool). if b then None else outside k.frames f rear) noticed })
      by_case false true e noticed is_out is_same =
          let is : s ≡ seen.Shut f rear = answers ∙ open_so k few a.flush asked flush rear f true e noticed is_out is_same in
          subst (Tells k a flush rear f) (sym is) (record { noticed = noticed; shut = ap (λ (b : Bool). if b then None else outside k.frames f rear) noticed ∙ ap (λ (b : Bool). if b then Some (f, rear) else None) is_out })
      by_case false false true noticed is_out is_same =
          let is : s ≡ seen.Empty = answers ∙ open_so k few a.flush asked flush rear f false true noticed is_out is_same in
          subst (Tells k a flush rear f) (sym is) (record { noticed = noticed; shut = ap (λ (b : Bool). if b then None else outside k.frames f rear) noticed ∙ ap (λ (b : Bool). if b then Some (f, rear) else None) is_out })
      by_case false false false noticed is_out is_same =
          let is : s ≡ seen.Frames (min asked (ahead f rear)) = answers ∙ open_so k few a.flush asked flush rear f false false noticed is_out is_same in
          subst (Tells k a flush rear f) (sym is) (record { noticed = noticed; shut = ap (λ (b : Bool). if b then None else outside k.frames f rear) noticed ∙ ap (λ (b : Bool). if b then Some (f, rear) else None) is_out })

  saw_alike : (a b : ServerKept) (flush rear f g : ℕ) (s : Seen) → Alike a b → Tells k a flush rear f s → Tells k b flush rear g s
      → Alike (fold (server_keeps k) a (server.SawFlush flush ∷ server.SawRear rear ∷ server.SawFront f ∷ [])) (fold (server_keeps k) b (server.SawFlush flush ∷ server.SawRear rear ∷ server.SawFront g ∷ []))
  saw_alike a b flush rear f g s same t u = record {
    flush = refl;
    is_new = ap (λ (x : ℕ). not (flush == x)) same.flush;
    noticed = ap (λ (c : Bool). if c then flush else a.noticed) (t.noticed ∙ sym u.noticed) ∙ ap (λ (x : ℕ). if is_noticed k (not (flush == b.flush)) rear g then flush else x) same.noticed;
    rear = refl;
    consumed = same.consumed;
    shut = t.shut ∙ sym u.shut;
  }

  drop_so : (f d : ℕ) → ahead f (wrapped (f + d)) ≡ wrapped d
  drop_so f d = omega arith

  looked_alike : (a b : ServerKept) (flush rear f g : ℕ) (s : Seen) → Alike a b → Tells k a flush rear f s → Tells k b flush rear g s
      → Alike (fold (server_keeps k) a (look_events s flush rear f)) (fold (server_keeps k) b (look_events s flush rear g))
  looked_alike a b flush rear f g seen.Absent same t u = saw_alike a b flush rear f g seen.Absent same t u
  looked_alike a b flush rear f g (seen.Frames count) same t u = saw_alike a b flush rear f g (seen.Frames count) same t u
  looked_alike a b flush rear f g seen.Empty same t u = saw_alike a b flush rear f g seen.Empty same t u
  looked_alike a b flush rear f g (seen.Shut x y) same t u = saw_alike a b flush rear f g (seen.Shut x y) same t u
  looked_alike a b flush rear f g (seen.Flushed d) same t u =
      let saw = saw_alike a b flush rear f g (seen.Flushed d) same t u in record {
        flush = saw.flush;
        is_new = saw.is_new;
        noticed = saw.noticed;
        rear = saw.rear;
        consumed = (let x = same.consumed in let y = drop_so f d in let z = drop_so g d in omega (arith, x, y, z));
        shut = saw.shut;
      }

  takes_alike : (a b : ServerKept) (shows : Bool) → Alike a b → Alike (fold (server_keeps k) a (if shows then server.Take 2 ∷ [] else [])) (fold (server_keeps k) b (if shows then server.Take 2 ∷ [] else []))
  takes_alike a b true same = record { flush = same.flush; is_new = same.is_new; noticed = same.noticed; rear = same.rear; consumed = (let x = same.consumed in omega (arith, x)); shut = same.shut }
  takes_alike a b false same = same

  -- ## The front that a journal tells

  -- if the server's own front lies in the block
  inside_so : (t : Listed) (rear : ℕ) → is_own_inside t rear ≡ true → nat_lt t.shape.frames (ahead (own_front t.shape (kept t)) rear) ≡ false
  inside_so t rear e = not_true (nat_lt t.shape.frames (ahead (own_front t.shape (kept t)) rear)) e

  -- the server's own front, if the answer leaves it open
  own_tells : (a : ServerKept) (asked flush rear g : ℕ) (s : Seen) → leaves_open k asked s ≡ true → nat_lt k.frames (ahead g rear) ≡ false → (f : ℕ) → Tells k a flush rear f s → Tells k a flush rear g s
  unfolding is_flushed shut_by
  own_tells a asked flush rear g (seen.Frames count) opens inside f t = record { noticed = none; shut = ap (λ (b : Bool). if b then None else outside k.frames g rear) none ∙ ap (λ (b : Bool). if b then Some (g, rear) else None) inside }
    where
      outside_by : Bool → Option (ℕ × ℕ)
      outside_by b = if b then Some (f, rear) else None

      fits : (out : Bool) → nat_lt k.frames (ahead f rear) ≡ out → outside_by out ≡ None → out ≡ false
      fits true e h = absurd (true≢false (ap is_some h))
      fits false e h = refl

      f_inside : nat_lt k.frames (ahead f rear) ≡ false
      f_inside = fits (nat_lt k.frames (ahead f rear)) refl (sym (ap (λ (b : Bool). if b then None else outside k.frames f rear) t.noticed) ∙ t.shut)

      none : is_noticed k (not (flush == a.flush)) rear g ≡ false
      none = ap (λ (b : Bool). b && (k.wrap == 0 || not (nat_lt k.frames (ahead g rear)))) (noticed_new (not (flush == a.flush)) (k.wrap == 0) (nat_lt k.frames (ahead f rear)) t.noticed f_inside)
  own_tells a asked flush rear g (seen.Flushed dropped) opens inside f t = record { noticed = some; shut = ap (λ (b : Bool). if b then None else outside k.frames g rear) some }
    where
      some : is_noticed k (not (flush == a.flush)) rear g ≡ true
      some = ap (λ (b : Bool). b && (k.wrap == 0 || not (nat_lt k.frames (ahead g rear)))) (both (not (flush == a.flush)) _ t.noticed).0
          ∙ ap (λ (b : Bool). k.wrap == 0 || not b) inside ∙ or_true (k.wrap == 0)
  own_tells a asked flush rear g seen.Absent opens inside f t = absurd (true≢false (sym opens))
  own_tells a asked flush rear g seen.Empty opens inside f t = absurd (true≢false (sym opens))
  own_tells a asked flush rear g (seen.Shut x y) opens inside f t = absurd (true≢false (sym opens))

  module _ (few : k.wrap ≤ 2 ^ 31) where
    -- a server with this list
    abbrev pub at : List ServerEvent → Listed
    at events = record { shape = k; events = events }

    told_tells : (ys : List ServerEvent) (asked : ℕ) (slot : SlotEntry) (f : ℕ) → IsSeen slot.seen → slot.seen ≡ look_at k (server_kept k ys).flush asked slot.flush slot.rear f → Tells k (server_kept k ys) slot.flush slot.rear (front_of asked (at ys) slot) slot.seen
    told_tells ys asked slot f is_seen answers = by_case (leaves_open k asked slot.seen && is_own_inside (at ys) slot.rear) refl
      where
        own : ℕ
        own = own_front k (server_kept k ys)

        by_case : (b : Bool) → (leaves_open k asked slot.seen && is_own_inside (at ys) slot.rear) ≡ b
            → Tells k (server_kept k ys) slot.flush slot.rear (if b then own_front k (server_kept k ys) else front_by_answer k slot) slot.seen
        by_case true e = let h = both (leaves_open k asked slot.seen) (is_own_inside (at ys) slot.rear) e in
            own_tells (server_kept k ys) asked slot.flush slot.rear (own_front k (server_kept k ys)) slot.seen h.0 (inside_so (at ys) slot.rear h.1) f (tells_so few (server_kept k ys) asked slot.flush slot.rear f slot.seen answers)
        by_case false e = tells_so few (server_kept k ys) asked slot.flush slot.rear (front_by_answer k slot) slot.seen (answers_so k few (server_kept k ys).flush asked slot f is_seen answers)

    -- ## One look

    pub answers_open : (xs : List ServerEvent) (asked : ℕ) (slot : SlotEntry) (f : ℕ) → (server_kept k xs).shut ≡ None → LooksBy asked (at xs) slot f → slot.seen ≡ look_at k (server_kept k xs).flush asked slot.flush slot.rear f
    answers_open xs asked slot f open_is by = subst (λ (o : Option (ℕ × ℕ)). MatchOption o (slot.seen ≡ look_at k (server_kept k xs).flush asked slot.flush slot.rear f)
        (λ words. (slot.seen ≡ seen.Shut words.0 words.1) × (slot.flush ≡ (server_kept k xs).flush) × (slot.rear ≡ words.1))) open_is by.1

    -- a look answers by lists that are alike
    pub looks_alike : (xs ys : List ServerEvent) (asked : ℕ) (slot : SlotEntry) (f : ℕ) → Alike (server_kept k xs) (server_kept k ys) → LooksBy asked (at xs) slot f → LooksBy asked (at ys) slot f
    looks_alike xs ys asked slot f same by = (
      by.0,
      subst (λ (o : Option (ℕ × ℕ)). MatchOption o (slot.seen ≡ look_at k (server_kept k ys).flush asked slot.flush slot.rear f) (λ words. (slot.seen ≡ seen.Shut words.0 words.1) × (slot.flush ≡ (server_kept k ys).flush) × (slot.rear ≡ words.1))) same.shut
          (subst (λ (n : ℕ). MatchOption (server_kept k xs).shut (slot.seen ≡ look_at k n asked slot.flush slot.rear f) (λ words. (slot.seen ≡ seen.Shut words.0 words.1) × (slot.flush ≡ n) × (slot.rear ≡ words.1))) same.flush by.1),
    )

    pub back : (a b : ServerKept) → Alike a b → Alike b a
    back a b same = record { flush = sym same.flush; is_new = sym same.is_new; noticed = sym same.noticed; rear = sym same.rear; consumed = sym same.consumed; shut = sym same.shut }

    -- the events of a look by a server that was shut or not
    events_by : Option (ℕ × ℕ) → CommandLook → ℕ → List ServerEvent
    events_by o look f = (if is_some o then [] else look_events look.seen look.flush look.rear f) ++ takes_command look

    -- what a look leaves is alike, by its own front and by the one that is told
    pub step_alike : (xs ys : List ServerEvent) (look : CommandLook) (f : ℕ) → Alike (server_kept k xs) (server_kept k ys) → LooksBy 2 (at xs) (as_slot look) f
        → Alike (server_kept k (xs ++ command_events (at xs) look f)) (server_kept k (ys ++ command_events (at ys) look (front_of 2 (at ys) (as_slot look))))
    unfolding events_by
    step_alike xs ys look f same by =
        subst (λ (a : ServerKept). Alike a (server_kept k (ys ++ command_events (at ys) look (front_of 2 (at ys) (as_slot look))))) (sym (keeps_more (server_begins k) xs (command_events (at xs) look f)))
        (subst (λ (b : ServerKept). Alike (fold (server_keeps k) (server_kept k xs) (command_events (at xs) look f)) b) (sym (keeps_more (server_begins k) ys (command_events (at ys) look (front_of 2 (at ys) (as_slot look)))))
        (by_shut (server_kept k xs).shut refl))
      where
        g : ℕ
        g = front_of 2 (at ys) (as_slot look)

        both_by : (o p : Option (ℕ × ℕ)) → o ≡ p → (server_kept k xs).shut ≡ o → Alike (fold (server_keeps k) (server_kept k xs) (events_by o look f)) (fold (server_keeps k) (server_kept k ys) (events_by p look (front_of 2 (at ys) (as_slot look))))
            → Alike (fold (server_keeps k) (server_kept k xs) (command_events (at xs) look f)) (fold (server_keeps k) (server_kept k ys) (command_events (at ys) look (front_of 2 (at ys) (as_slot look))))
        both_by o p is here h =
            subst (λ (q : Option (ℕ × ℕ)). Alike (fold (server_keeps k) (server_kept k xs) (events_by q look f)) (fold (server_keeps k) (server_kept k ys) (command_events (at ys) look (front_of 2 (at ys) (as_slot look))))) (sym here)
            (subst (λ (q : Option (ℕ × ℕ)). Alike (fold (server_keeps k) (server_kept k xs) (events_by o look f)) (fold (server_keeps k) (server_kept k ys) (events_by q look (front_of 2 (at ys) (as_slot look))))) (sym is ∙ sym here ∙ same.shut) h)

        by_shut : (o : Option (ℕ × ℕ)) → (server_kept k xs).shut ≡ o → Alike (fold (server_keeps k) (server_kept k xs) (command_events (at xs) look f)) (fold (server_keeps k) (server_kept k ys) (command_events (at ys) look (front_of 2 (at ys) (as_slot look))))
        by_shut (Some words) here = both_by (Some words) (Some words) refl here (takes_alike (server_kept k xs) (server_kept k ys) (shows_command look.seen) same)
        by_shut None here =
            let answers = answers_open xs 2 (as_slot look) f here by in
            let others = answers_open ys 2 (as_slot look) f (sym same.shut ∙ here) (looks_alike xs ys 2 (as_slot look) f same by) in
            let looked = looked_alike (server_kept k xs) (server_kept k ys) look.flush look.rear f (front_of 2 (at ys) (as_slot look)) look.seen same
            (tells_so few (server_kept k xs) 2 look.flush look.rear f look.seen answers) (told_tells ys 2 (as_slot look) f by.0 others) in
            both_by None None refl here
            (subst (λ (a : ServerKept). Alike a (fold (server_keeps k) (server_kept k ys) (look_events look.seen look.flush look.rear (front_of 2 (at ys) (as_slot look)) ++ takes_command look))) (sym (keeps_more (server_kept k xs) (look_events look.seen look.flush look.rear f) (takes_command look)))
            (subst (λ (b : ServerKept). Alike (fold (server_keeps k) (fold (server_keeps k) (server_kept k xs) (look_events look.seen look.flush look.rear f)) (takes_command look)) b) (sym (keeps_more (server_kept k ys) (look_events look.seen look.flush look.rear (front_of 2 (at ys) (as_slot look))) (takes_command look)))
            (takes_alike _ _ (shows_command look.seen) looked)))
