-- All looks at a command block are legal by some fronts exactly if each answers by the front by which it is judged.
use Rattle.std.proofs.Common.{◌≡◌, ◌↔◌, ℕ, ◌+◌, ◌^◌, ◌≤◌, Bool, true, false, true≢false, if◌then◌else◌, refl, sym, ap, ◌∙◌, subst, List, [], ◌∷◌, ◌++◌, Option, Some, None}
use Rattle.af_judge.proofs.Common.{CommandLook, LegalLooks, Listed, LooksBy, MatchBool, MatchOption, ServerEvent, Shape, SlotEntry, as_slot, command_events, did, front_by_answer, front_of, fronts_by, lawful_front, leaves_open, look_at, server_kept, wrapped}
use Rattle.af_base.specs.declared.seen.Seen.TheVariants as seen
use Rattle.af_judge.specs.Servers.{LooksRightly, front_judged}
use Rattle.af_judge.specs.NormalLooks.{AllAnswer}
use Rattle.af_judge.proofs.LookFront.{answers_so}
use Rattle.af_judge.proofs.LooksAnswer.{Alike, alike, at, looks_alike, step_alike, back}

head_or : ℕ → List ℕ → ℕ
head_or d [] = d
head_or d (x ∷ xs) = x

tail_of : List ℕ → List ℕ
tail_of [] = []
tail_of (x ∷ xs) = xs

-- some fronts by which looks are legal; on a lawful block its server's own
pub record LegalBy (lawful : Bool) (s : Listed) (looks : List CommandLook) : Type 0 where
  pub fronts : List ℕ
  pub legal : LegalLooks s looks fronts
  pub own : lawful ≡ true → fronts ≡ fronts_by lawful_front s looks

module _ (k : Shape) (few : k.wrap ≤ 2 ^ 31) (lawful : Bool) where
  -- lists that are alike give the same front by which a look is judged
  judged_alike : (xs ys : List ServerEvent) (asked : ℕ) (slot : SlotEntry) → Alike (server_kept k xs) (server_kept k ys) → front_judged lawful asked (at k few xs) slot ≡ front_judged lawful asked (at k few ys) slot
  judged_alike xs ys asked slot same =
      ap (λ (n : ℕ). if lawful then (if leaves_open k asked slot.seen then wrapped (k.base + n) else front_by_answer k slot) else front_by_answer k slot) same.consumed

  pub lawful_is : (asked : ℕ) (s : Listed) (slot : SlotEntry) → lawful ≡ true → front_judged lawful asked s slot ≡ lawful_front asked s slot
  lawful_is asked s slot e = ap (λ (b : Bool). if b then lawful_front asked s slot else front_by_answer s.shape slot) e

  -- if it answers by some front, on a lawful block the server's own, it answers by the one by which it is judged
  pub judged_so : (xs : List ServerEvent) (asked : ℕ) (slot : SlotEntry) (f : ℕ) → LooksBy asked (at k few xs) slot f → (lawful ≡ true → f ≡ lawful_front asked (at k few xs) slot) → LooksBy asked (at k few xs) slot (front_judged lawful asked (at k few xs) slot)
  judged_so xs asked slot f by own = by_case lawful refl
    where
      other : (o : Option (ℕ × ℕ)) → MatchOption o (slot.seen ≡ look_at k (server_kept k xs).flush asked slot.flush slot.rear f) (λ words. (slot.seen ≡ seen.Shut words.0 words.1) × (slot.flush ≡ (server_kept k xs).flush) × (slot.rear ≡ words.1))
          → MatchOption o (slot.seen ≡ look_at k (server_kept k xs).flush asked slot.flush slot.rear (front_by_answer k slot)) (λ words. (slot.seen ≡ seen.Shut words.0 words.1) × (slot.flush ≡ (server_kept k xs).flush) × (slot.rear ≡ words.1))
      other None h = answers_so k few (server_kept k xs).flush asked slot f by.0 h
      other (Some words) h = h

      by_case : (b : Bool) → lawful ≡ b → LooksBy asked (at k few xs) slot (if b then lawful_front asked (at k few xs) slot else front_by_answer k slot)
      by_case true e = subst (LooksBy asked (at k few xs) slot) (own e) by
      by_case false e = (by.0, other (server_kept k xs).shut by.1)

  -- a look answers as its words say exactly if it does by that front
  pub rightly : (xs : List ServerEvent) (asked : ℕ) (slot : SlotEntry) → LooksRightly lawful asked (at k few xs) slot ↔ LooksBy asked (at k few xs) slot (front_judged lawful asked (at k few xs) slot)
  rightly xs asked slot = by_case lawful refl
    where
      other : lawful ≡ false → ((front : ℕ) × LooksBy asked (at k few xs) slot front) → LooksBy asked (at k few xs) slot (front_by_answer k slot)
      other e h = subst (λ (b : Bool). LooksBy asked (at k few xs) slot (if b then lawful_front asked (at k few xs) slot else front_by_answer k slot)) e
          (judged_so xs asked slot h.0 h.1 (λ t. absurd (true≢false (sym t ∙ e))))

      by_case : (b : Bool) → lawful ≡ b → MatchBool b (LooksBy asked (at k few xs) slot (lawful_front asked (at k few xs) slot)) ((front : ℕ) × LooksBy asked (at k few xs) slot front)
          ↔ LooksBy asked (at k few xs) slot (if b then lawful_front asked (at k few xs) slot else front_by_answer k slot)
      by_case true e = ((λ h. h), (λ h. h))
      by_case false e = (other e, (λ h. (front_by_answer k slot, h)))

  to_legal : (xs ys : List ServerEvent) (looks : List CommandLook) → Alike (server_kept k xs) (server_kept k ys) → AllAnswer lawful (at k few ys) looks → LegalBy lawful (at k few xs) looks
  to_legal xs ys [] same h = record { fronts = []; legal = tt; own = λ e. refl }
  to_legal xs ys (look ∷ looks) same h =
      let slot : SlotEntry = as_slot look in
      let f : ℕ = front_judged lawful 2 (at k few xs) slot in
      let by : LooksBy 2 (at k few xs) slot f = looks_alike k few ys xs 2 slot f (back k few _ _ same) (subst (LooksBy 2 (at k few ys) slot) (sym (judged_alike xs ys 2 slot same)) ((rightly ys 2 slot).0 h.0.0)) in
      let rest = to_legal (xs ++ command_events (at k few xs) look f) (ys ++ command_events (at k few ys) look (front_of 2 (at k few ys) slot)) looks (step_alike k few xs ys look f same by) h.1 in
      record {
        fronts = f ∷ rest.fronts;
        legal = (by, h.0.1, rest.legal);
        own = λ e. ap (λ (xs : List ℕ). f ∷ xs) (rest.own e)
            ∙ ap (λ (g : ℕ). g ∷ fronts_by lawful_front (did (at k few xs) (command_events (at k few xs) look g)) looks) (lawful_is 2 (at k few xs) slot e);
      }

  from_legal : (xs ys : List ServerEvent) (looks : List CommandLook) (fronts : List ℕ) → Alike (server_kept k xs) (server_kept k ys) → LegalLooks (at k few xs) looks fronts → (lawful ≡ true → fronts ≡ fronts_by lawful_front (at k few xs) looks) → AllAnswer lawful (at k few ys) looks
  unfolding head_or tail_of
  from_legal xs ys [] fronts same h own = tt
  from_legal xs ys (look ∷ looks) [] same h own = absurd h
  from_legal xs ys (look ∷ looks) (f ∷ fronts) same h own =
      let slot : SlotEntry = as_slot look in
      let first : lawful ≡ true → f ≡ lawful_front 2 (at k few xs) slot = λ e. ap (head_or f) (own e) in
      let judged : LooksBy 2 (at k few xs) slot (front_judged lawful 2 (at k few xs) slot) = judged_so xs 2 slot f h.0 first in
      let here : LooksBy 2 (at k few ys) slot (front_judged lawful 2 (at k few ys) slot) = subst (LooksBy 2 (at k few ys) slot) (judged_alike xs ys 2 slot same) (looks_alike k few xs ys 2 slot _ same judged) in (
        ((rightly ys 2 slot).1 here, h.1),
        from_legal (xs ++ command_events (at k few xs) look f) (ys ++ command_events (at k few ys) look (front_of 2 (at k few ys) slot)) looks fronts (step_alike k few xs ys look f same h.0) h.2
            (λ e. ap tail_of (own e) ∙ ap (λ (g : ℕ). fronts_by lawful_front (did (at k few xs) (command_events (at k few xs) look g)) looks) (sym (first e))),
      )

  -- all looks answer exactly if they are legal by some fronts
  pub looks_exactly : (xs : List ServerEvent) (looks : List CommandLook) → AllAnswer lawful (at k few xs) looks ↔ LegalBy lawful (at k few xs) looks
  looks_exactly xs looks = (to_legal xs xs looks (alike (server_kept k xs)), λ (l : LegalBy lawful (at k few xs) looks). from_legal xs xs looks l.fronts (alike (server_kept k xs)) l.legal l.own)
