-- Two lists of a server that tell alike do so after the looks of a turn of the normal mixer, by each front by which they answer so.
use Rattle.std.proofs.Common.{◌≡◌, ℕ, ◌+◌, ◌≤◌, Bool, true, false, if◌then◌else◌, is_some, List, [], ◌∷◌, ◌++◌, length, length-append, refl, sym, ap, ◌∙◌, subst, arith, append_assoc, append-nil}
use Rattle.af_told_law.proofs.Common.{CommandLook, LegalLooks, Listed, LooksBy, ServerEvent, ServerKept, Shape, TakeSeen, all_command_events, as_slot, command_events, cycle_events, did, flat_map, front_of, fronts_by, kept, kept_more, look_events, shows_command, take_front, takes_command}
use Rattle.af_base.specs.declared.event.ServerEvent.TheVariants as server
use Rattle.af_told_law.specs.Alike.{TellAlike, bare}
use Rattle.af_told_law.proofs.FrontLeaves.{Leaves, told_leaves}
use Rattle.af_told_law.proofs.KeptAlike.{NoDrops, answers, looks_alike, some_long, some_look, told_alike, undropped_alike}

-- ## The same events

-- events by which nothing is dropped are told alike
pub more_alike : (k : Shape) (xs ys es : List ServerEvent) → NoDrops es → TellAlike k xs ys → TellAlike k (xs ++ es) (ys ++ es)
more_alike k xs ys es none h = record {
  kept = ap bare (kept_more k xs es) ∙ undropped_alike k es _ _ none h.kept ∙ sym (ap bare (kept_more k ys es));
  long = length-append xs es ∙ ap (λ (n : ℕ). n + length es) h.long ∙ sym (length-append ys es);
}

-- flags set before change nothing of what follows
flagged : (k : Shape) (bits : ℕ) (xs ys es fs : List ServerEvent) → TellAlike k (xs ++ es) (ys ++ fs) → TellAlike k (xs ++ server.SetFlags bits ∷ es) (ys ++ server.SetFlags bits ∷ fs)
flagged k bits xs ys es fs h = record {
  kept = ap bare (kept_more k xs (server.SetFlags bits ∷ es)) ∙ sym (ap bare (kept_more k xs es)) ∙ h.kept ∙ ap bare (kept_more k ys fs) ∙ sym (ap bare (kept_more k ys (server.SetFlags bits ∷ fs)));
  long = one xs es ∙ ap (λ (n : ℕ). n + 1) h.long ∙ sym (one ys fs);
}
  where
    one : (zs es : List ServerEvent) → length (zs ++ server.SetFlags bits ∷ es) ≡ length (zs ++ es) + 1
    one zs es = let a = length-append zs (server.SetFlags bits ∷ es) in let b = length-append zs es in omega (arith, a, b)

-- ## The looks at a command block

taken_drops : (b : Bool) → NoDrops (if b then server.Take 2 ∷ [] else [])
taken_drops true = tt
taken_drops false = tt

module _ (k : Shape) (xs ys : List ServerEvent) (h : TellAlike k xs ys) (look : CommandLook) where
  abbrev real : Listed
  real = record { shape = k; events = xs }

  abbrev told : Listed
  told = record { shape = k; events = ys }

  events_alike : (f : ℕ) → command_events real look f ≡ command_events told look f
  events_alike f = ap (λ (z : ServerKept). (if is_some z.shut then [] else look_events look.seen look.flush look.rear f) ++ takes_command look) h.kept

  pub command_alike : (f g : ℕ) → (is_some (kept told).shut ≡ false → Leaves k (kept told).flush look.flush look.rear f g) → TellAlike k (xs ++ command_events real look f) (ys ++ command_events told look g)
  command_alike f g leaves =
      let was : Bool = is_some (kept told).shut in
      let here : TellAlike k (xs ++ command_events told look f) (ys ++ command_events told look g) = record {
        kept = ap bare (kept_more k xs (command_events told look f))
            ∙ some_look k was (takes_command look) (kept real) (kept told) look.seen look.flush look.rear f g (taken_drops (shows_command look.seen)) h.kept
            (λ off. subst (λ (z : ServerKept). Leaves k z.flush look.flush look.rear f g) (sym h.kept) (leaves off))
            ∙ sym (ap bare (kept_more k ys (command_events told look g)));
        long = length-append xs (command_events told look f) ∙ (λ j. h.long j + some_long was (takes_command look) look.seen look.flush look.rear f g j) ∙ sym (length-append ys (command_events told look g));
      } in
      subst (λ (es : List ServerEvent). TellAlike k (xs ++ es) (ys ++ command_events told look g)) (sym (events_alike f)) here

-- all looks answer by the one list as by the other
pub all_looks_alike : (k : Shape) (xs ys : List ServerEvent) → TellAlike k xs ys → (looks : List CommandLook) (fs : List ℕ) → LegalLooks (record { shape = k; events = xs }) looks fs → LegalLooks (record { shape = k; events = ys }) looks fs
all_looks_alike k xs ys h [] [] legal = tt
all_looks_alike k xs ys h [] (f ∷ fs) legal = elim legal [ ]
all_looks_alike k xs ys h (look ∷ looks) [] legal = elim legal [ ]
all_looks_alike k xs ys h (look ∷ looks) (f ∷ fs) legal =
    let real : Listed = record { shape = k; events = xs } in
    let told : Listed = record { shape = k; events = ys } in (
      looks_alike k xs ys h 2 (as_slot look) f legal.0,
      legal.1,
      all_looks_alike k (xs ++ command_events real look f) (ys ++ command_events told look f) (command_alike k xs ys h look f f (λ off. (refl, λ _. refl))) looks fs legal.2,
    )

-- after all looks the lists tell alike, if the fronts are those that a journal tells
pub all_alike : (k : Shape) (xs ys : List ServerEvent) → TellAlike k xs ys → (looks : List CommandLook) (fs : List ℕ) → LegalLooks (record { shape = k; events = xs }) looks fs
    → TellAlike k (xs ++ all_command_events (record { shape = k; events = xs }) looks fs) (ys ++ all_command_events (record { shape = k; events = ys }) looks (fronts_by front_of (record { shape = k; events = ys }) looks))
all_alike k xs ys h [] [] legal = subst (λ (z : List ServerEvent × List ServerEvent). TellAlike k z.0 z.1) (λ j. (sym (append-nil xs) j, sym (append-nil ys) j)) h
all_alike k xs ys h [] (f ∷ fs) legal = elim legal [ ]
all_alike k xs ys h (look ∷ looks) [] legal = elim legal [ ]
all_alike k xs ys h (look ∷ looks) (f ∷ fs) legal =
    let real : Listed = record { shape = k; events = xs } in
    let told : Listed = record { shape = k; events = ys } in
    let g : ℕ = front_of 2 told (as_slot look) in
    let es : List ServerEvent = command_events real look f in
    let gs : List ServerEvent = command_events told look g in
    let one : TellAlike k (xs ++ es) (ys ++ gs) = command_alike k xs ys h look f g (λ off. told_leaves 2 told (as_slot look) f (answers 2 k (kept told) (as_slot look) f (looks_alike k xs ys h 2 (as_slot look) f legal.0).1 off)) in
    let rest = all_alike k (xs ++ es) (ys ++ gs) one looks fs legal.2 in
    subst (λ (z : List ServerEvent × List ServerEvent). TellAlike k z.0 z.1)
    (λ j. (append_assoc xs es (all_command_events (did real es) looks fs) j, append_assoc ys gs (all_command_events (did told gs) looks (fronts_by front_of (did told gs) looks)) j)) rest

-- ## The look for a buffer

module _ (k : Shape) (xs ys : List ServerEvent) (h : TellAlike k xs ys) (asked : ℕ) where
  abbrev was : Listed
  was = record { shape = k; events = xs }

  abbrev is_told : Listed
  is_told = record { shape = k; events = ys }

  -- the takes of one track, of which there is one at most
  one_alike : (takes : List TakeSeen) (f : ℕ) → length takes ≤ 1 → ((take : TakeSeen) (rest : List TakeSeen) → takes ≡ take ∷ rest → LooksBy asked was take.slot f)
      → TellAlike k (xs ++ flat_map (λ (take : TakeSeen). cycle_events asked was take.slot f) takes) (ys ++ flat_map (λ (take : TakeSeen). cycle_events asked is_told take.slot (take_front (front_of asked) is_told takes)) takes)
  one_alike [] f few looks = subst (λ (z : List ServerEvent × List ServerEvent). TellAlike k z.0 z.1) (λ j. (sym (append-nil xs) j, sym (append-nil ys) j)) h
  one_alike (take ∷ []) f few looks =
      let es : List ServerEvent = cycle_events asked was take.slot f in
      let gs : List ServerEvent = cycle_events asked is_told take.slot (front_of asked is_told take.slot) in
      subst (λ (z : List ServerEvent × List ServerEvent). TellAlike k (xs ++ z.0) (ys ++ z.1)) (λ j. (sym (append-nil es) j, sym (append-nil gs) j)) (told_alike k xs ys h asked take.slot f (looks take [] refl))
  one_alike (take ∷ next ∷ rest) f few looks = absurd (omega (arith, few))

  -- the takes of one track, with flags before them
  pub takes_alike : (home shut : Bool) (takes : List TakeSeen) (f : ℕ) → length takes ≤ 1 → ((take : TakeSeen) (rest : List TakeSeen) → takes ≡ take ∷ rest → LooksBy asked was take.slot f)
      → TellAlike k (xs ++ ((if home then (if shut then server.SetFlags 4 ∷ [] else []) else []) ++ flat_map (λ (take : TakeSeen). cycle_events asked was take.slot f) takes))
      (ys ++ ((if home then (if shut then server.SetFlags 4 ∷ [] else []) else []) ++ flat_map (λ (take : TakeSeen). cycle_events asked is_told take.slot (take_front (front_of asked) is_told takes)) takes))
  takes_alike true true takes f few looks = flagged k 4 xs ys _ _ (one_alike takes f few looks)
  takes_alike true false takes f few looks = one_alike takes f few looks
  takes_alike false shut takes f few looks = one_alike takes f few looks
