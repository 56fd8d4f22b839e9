-- What the looks at its command block make of a track, by what entries tell.
use Rattle.std.proofs.Common.{◌≡◌, ◌⊎◌, ℕ, zero, suc, ◌+◌, ◌%◌, ◌==◌, ◌&&◌, ◌||◌, not, Bool, true, false, if◌then◌else◌, is_some, inl, inr, List, [], ◌∷◌, length, Option, Some, eqb-true, refl, sym, ap, subst, ◌∙◌, arith}
use Rattle.af_entry_law.proofs.Common.{AllByRecursion, CommandLook, Life, TrackKept, after_look, after_looks, are_due, ended, goes_on, is_shut, list_any, must_wait, no, obeyed, opens, shows_command, told}
use Rattle.af_base.specs.declared.seen.Seen.TheVariants as seen
use Rattle.af_life.specs.State.{is_among}
use Rattle.af_life.specs.Commands.{Row, applies, by_command, commands, first_effect}
use Rattle.af_entry_law.specs.Told.{life_told, track_told}
use Rattle.af_runs.proofs.Basics.{shut_shows}

-- ## A command

-- a row asks for no retries, and leaves or sets them
record IsBlind (r : Row) : Type 0 where
  provided : (l : Life) → r.provided (life_told l) ≡ r.provided l
  effect : (argument : ℕ) (l : Life) → life_told (r.effect argument (life_told l)) ≡ life_told (r.effect argument l)

either_life : (b : Bool) (x x' y y' : Life) → life_told x ≡ life_told x' → life_told y ≡ life_told y' → life_told (if b then x else y) ≡ life_told (if b then x' else y')
either_life true x x' y y' e f = e
either_life false x x' y y' e f = f

rows_told : (rows : List Row) → AllByRecursion IsBlind rows → (code argument : ℕ) (l : Life) → life_told (first_effect rows code argument (life_told l)) ≡ life_told (first_effect rows code argument l)
rows_told [] all code argument l = refl
rows_told (r ∷ rows) all code argument l =
    let x : Life = life_told l in
    (λ j. life_told (if (r.command == code) && (is_among r.states l.state && all.0.provided l j) then r.effect argument x else first_effect rows code argument x))
    ∙ either_life (applies r code l) (r.effect argument x) (r.effect argument l) (first_effect rows code argument x) (first_effect rows code argument l) (all.0.effect argument l) (rows_told rows all.1 code argument l)

all_blind : AllByRecursion IsBlind commands
all_blind = (
  record { provided = (λ l. refl); effect = (λ argument l. refl) },
  (
    record { provided = (λ l. refl); effect = (λ argument l. refl) },
    (
      record { provided = (λ l. refl); effect = (λ argument l. refl) },
      (
        record { provided = (λ l. refl); effect = (λ argument l. refl) },
        (
          record { provided = (λ l. refl); effect = (λ argument l. refl) },
          (
            record { provided = (λ l. refl); effect = (λ argument l. refl) },
            (
              record { provided = (λ l. refl); effect = (λ argument l. refl) },
              (
                record { provided = (λ l. refl); effect = (λ argument l. refl) },
                tt,
              ),
            ),
          ),
        ),
      ),
    ),
  ),
)

command_told : (code argument : ℕ) (l : Life) → life_told (by_command code argument (life_told l)) ≡ life_told (by_command code argument l)
unfolding by_command
command_told code argument l = either_life l.ended (life_told l) l (first_effect commands code argument (life_told l)) (first_effect commands code argument l) refl (rows_told commands all_blind code argument l)

module _ (given : Option ℕ) (code argument : ℕ) where
  blind : (s : TrackKept) → track_told (told given code argument (track_told s)) ≡ track_told (told given code argument s)
  blind s = λ j. record (track_told s) { life = command_told code argument s.life j; slot = (if opens code s.life then given else s.slot) }

  same_told : (a b : TrackKept) → track_told a ≡ track_told b → track_told (told given code argument a) ≡ track_told (told given code argument b)
  same_told a b same = sym (blind a) ∙ ap (λ (s : TrackKept). track_told (told given code argument s)) same ∙ blind b

-- ## A look

-- the same is told of two tracks; or one of them waits, and the other has settled a command more
abbrev Together : TrackKept → TrackKept → Type 0
Together t u = (track_told t ≡ track_told u) ⊎ (((is_some t.awaits ≡ true) × (u.settled ≡ t.settled + 1)) ⊎ ((is_some u.awaits ≡ true) × (t.settled ≡ u.settled + 1)))

module _ (given : Option ℕ) where
  -- what a look makes of a track, by what it shows and whether a START waits
  abbrev looked : CommandLook → Bool → Bool → Bool → TrackKept → TrackKept
  looked look shows shut wait s = let x = told given look.code look.argument s in
      if shows then (if wait then record x { awaits = Some look.argument } else record x { settled = x.settled + 1 }) else if shut then ended s else s

  -- the looks are due of which this one goes on or not, and what they leave
  abbrev Due : ℕ → List CommandLook → ℕ → Bool → TrackKept → Type 0
  Due n looks f goes x = (if goes then are_due n given f looks x else (length looks == 0)) ≡ true

  abbrev left : List CommandLook → ℕ → Bool → TrackKept → TrackKept
  left looks f goes x = if goes then after_looks given f looks x else x

module _ (given : Option ℕ) (f g : ℕ) where
  look_together : (look : CommandLook) (a b : TrackKept) → track_told a ≡ track_told b → Together (after_look given f look a) (after_look given g look b)
  unfolding after_look obeyed
  look_together look a b same = by_case (shows_command look.seen) (is_shut look.seen) (must_wait f look.code look.argument a.life) (must_wait g look.code look.argument b.life)
    where
      there : track_told (told given look.code look.argument a) ≡ track_told (told given look.code look.argument b)
      there = same_told given look.code look.argument a b same

      by_case : (shows shut w v : Bool) → Together (looked given look shows shut w a) (looked given look shows shut v b)
      by_case true shut true true = inl (λ j. record (there j) { awaits = Some look.argument })
      by_case true shut false false = inl (λ j. record (there j) { settled = (there j).settled + 1 })
      by_case true shut true false = inr (inl (refl, ap (λ (s : TrackKept). s.settled + 1) (sym same)))
      by_case true shut false true = inr (inr (refl, ap (λ (s : TrackKept). s.settled + 1) same))
      by_case false true w v = inl (λ j. record (same j) { life = record (same j).life { ended = true; member = false } })
      by_case false false w v = inl same

  and_false : (b : Bool) → (b && false) ≡ false
  and_false true = refl
  and_false false = refl

  -- a track that waits goes on with no look
  stops : (look : CommandLook) (t : TrackKept) → is_some t.awaits ≡ true → goes_on look t ≡ false
  stops look t waits = ap (λ (b : Bool). shows_command look.seen && not b) waits ∙ and_false (shows_command look.seen)

  none_left : (looks : List CommandLook) → (length looks == 0) ≡ true → looks ≡ []
  none_left [] e = refl
  none_left (look ∷ looks) e = absurd (let l : length (look ∷ looks) ≡ 0 = eqb-true (length (look ∷ looks)) 0 e in omega (arith, l))

  either_way : (b : Bool) (t : TrackKept) → (if b then t else t).settled ≡ t.settled
  either_way true t = refl
  either_way false t = refl

  -- these looks make the same of both tracks, if they are due and a status word says of both that as many commands are settled
  abbrev Rest : ℕ → List CommandLook → Type 0
  Rest n looks = (a b : TrackKept) → track_told a ≡ track_told b → are_due n given f looks a ≡ true → are_due n given g looks b ≡ true → ((after_looks given f looks a).settled % 16777216) ≡ ((after_looks given g looks b).settled % 16777216)
      → track_told (after_looks given f looks a) ≡ track_told (after_looks given g looks b)

  pub looks_same : (n : ℕ) (looks : List CommandLook) → Rest n looks
  looks_same zero [] a b same due due' count = same
  looks_same zero (look ∷ looks) a b same due due' count = no due
  looks_same (suc n) [] a b same due due' count = no due
  looks_same (suc n) (look ∷ looks) a b same due due' count = by_next (λ x y at d d' c. looks_same n looks x y at d d' c) (after_look given f look a) (after_look given g look b) (look_together look a b same) due due' count
    where
      -- the looks behind a look make the same of both tracks
      by_goes : Rest n looks → (p q : Bool) → p ≡ q → (x y : TrackKept) → track_told x ≡ track_told y → Due given n looks f p x → Due given n looks g q y → ((left given looks f p x).settled % 16777216) ≡ ((left given looks g q y).settled % 16777216) → track_told (left given looks f p x) ≡ track_told (left given looks g q y)
      by_goes rest true true e x y at d d' c = rest x y at d d' c
      by_goes rest false false e x y at d d' c = at
      by_goes rest true false e x y at d d' c = no (sym e)
      by_goes rest false true e x y at d d' c = no e

      -- if a track waits no look is left, so the other has settled one more
      waiting : (h k : ℕ) (x y : TrackKept) → is_some x.awaits ≡ true → y.settled ≡ x.settled + 1 → Due given n looks h (goes_on look x) x → ((left given looks h (goes_on look x) x).settled % 16777216) ≡ ((left given looks k (goes_on look y) y).settled % 16777216) → ⊥
      waiting h k x y waits more d c =
          let off : goes_on look x ≡ false = stops look x waits in
          let none : looks ≡ [] = none_left looks (subst (λ (p : Bool). Due given n looks h p x) off d) in
          let here : (x.settled % 16777216) ≡ ((left given looks h (goes_on look x) x).settled % 16777216) = ap (λ (p : Bool). ((left given looks h p x).settled % 16777216)) (sym off) in
          let there : ((left given looks k (goes_on look y) y).settled % 16777216) ≡ (y.settled % 16777216) = ap (λ (l : List CommandLook). ((left given l k (goes_on look y) y).settled % 16777216)) none ∙ ap (λ (n : ℕ). n % 16777216) (either_way (goes_on look y) y) in
          let all : (x.settled % 16777216) ≡ (y.settled % 16777216) = here ∙ c ∙ there in
          omega (arith, all, more)

      by_next : Rest n looks → (x y : TrackKept) → Together x y → Due given n looks f (goes_on look x) x → Due given n looks g (goes_on look y) y → ((left given looks f (goes_on look x) x).settled % 16777216) ≡ ((left given looks g (goes_on look y) y).settled % 16777216)
          → track_told (left given looks f (goes_on look x) x) ≡ track_told (left given looks g (goes_on look y) y)
      by_next rest x y (inl at) d d' c = by_goes rest (goes_on look x) (goes_on look y) (ap (goes_on look) at) x y at d d' c
      by_next rest x y (inr (inl (waits, more))) d d' c = absurd (waiting f g x y waits more d c)
      by_next rest x y (inr (inr (waits, more))) d d' c = absurd (waiting g f y x waits more d' (sym c))

-- ## A look that finds the block shut

module _ (given : Option ℕ) (f : ℕ) where
  shut_ends_it : (look : CommandLook) (s : TrackKept) → is_shut look.seen ≡ true → (after_look given f look s).life.ended ≡ true
  unfolding after_look
  shut_ends_it look s shut = λ j. (if shut_shows look.seen shut j then obeyed given f look.code look.argument s else if shut j then ended s else s).life.ended

  shut_stops : (look : CommandLook) (t : TrackKept) → is_shut look.seen ≡ true → goes_on look t ≡ false
  shut_stops look t shut = ap (λ (b : Bool). b && not (is_some t.awaits)) (shut_shows look.seen shut)

  -- a look that finds the block shut ends the track
  pub shut_ends : (n : ℕ) (looks : List CommandLook) (s : TrackKept) → are_due n given f looks s ≡ true → list_any (λ (look : CommandLook). is_shut look.seen) looks ≡ true → (after_looks given f looks s).life.ended ≡ true
  shut_ends n [] s due shut = no shut
  shut_ends zero (look ∷ looks) s due shut = no due
  shut_ends (suc n) (look ∷ looks) s due shut = by_look (λ any d. shut_ends n looks (after_look given f look s) d any) (is_shut look.seen) refl shut
    where
      by_goes : (list_any (λ (l : CommandLook). is_shut l.seen) looks ≡ true → are_due n given f looks (after_look given f look s) ≡ true → (after_looks given f looks (after_look given f look s)).life.ended ≡ true) → (b : Bool)
          → list_any (λ (l : CommandLook). is_shut l.seen) looks ≡ true → Due given n looks f b (after_look given f look s) → (left given looks f b (after_look given f look s)).life.ended ≡ true
      by_goes rest true any d = rest any d
      by_goes rest false any d = no (sym (ap (λ (l : List CommandLook). list_any (λ (x : CommandLook). is_shut x.seen) l) (none_left given f f looks d)) ∙ any)

      by_look : (list_any (λ (l : CommandLook). is_shut l.seen) looks ≡ true → are_due n given f looks (after_look given f look s) ≡ true → (after_looks given f looks (after_look given f look s)).life.ended ≡ true) → (b : Bool)
          → is_shut look.seen ≡ b → (b || list_any (λ (l : CommandLook). is_shut l.seen) looks) ≡ true → (left given looks f (goes_on look (after_look given f look s)) (after_look given f look s)).life.ended ≡ true
      by_look rest true is any = ap (λ (b : Bool). (left given looks f b (after_look given f look s)).life.ended) (shut_stops look (after_look given f look s) is) ∙ shut_ends_it look s is
      by_look rest false is any = by_goes rest (goes_on look (after_look given f look s)) any due
