-- A track takes the words that a turn's looks take.
use Rattle.std.proofs.Common.{◌⊎◌, inl, inr, ◌*◌, ◌≡◌, ℕ, zero, suc, ◌+◌, ◌==◌, ◌&&◌, ◌||◌, not, nat_lt, Bool, true, false, List, [], ◌∷◌, ◌++◌, length, refl, sym, ap, ◌∙◌, subst, arith, Option, Some, None, is_some, if◌then◌else◌, ◌≤◌}
use Rattle.af_enough_law.proofs.Common.{CommandLook, HasDueLooks, Heard, IsServed, Learnt, Life, SlotReport, TrackKept, TrackSeen, after_look, after_looks, after_part, are_due, both, by_command, by_false, by_report, ended, goes_on, heard, is_found_shut, is_reached, is_shut, list_any, most_looks, must_wait, no, not_true, noted, obeyed, opens, or_nothing, ready, settled_at, shows_command, slot_reported, starts, status_word, told, words_taken, and_none}
use Rattle.af_life.specs.Obeys.{commanded}
use Rattle.af_enough_law.proofs.Courses.{told_all, starts_at_once, none_shut, is_ended, reported_by}
use Rattle.af_enough_law.proofs.TrackTurns.{attended}

-- a START without a flush count doesn't wait
no_wait : (flush_seen code argument : ℕ) (life : Life) → not ((code == 2) && not (argument == 0)) ≡ true → must_wait flush_seen code argument life ≡ false
unfolding starts
no_wait flush_seen code argument life h = by_code (code == 2) (not life.ended && _) (argument == 0) refl h
  where
    none : (b : Bool) → argument ≡ 0 → (b && nat_lt flush_seen argument) ≡ false
    none b e = let f : nat_lt flush_seen argument ≡ false = search (arith, e) in and_none b (nat_lt flush_seen argument) f

    by_code : (b d z : Bool) → (argument == 0) ≡ z → not (b && not z) ≡ true → ((b && d) && nat_lt flush_seen argument) ≡ false
    by_code true d true z h = none d (search (arith, z))
    by_code true d false z h = no h
    by_code false d z e h = refl

-- what one look gives the track
module _ (given : Option ℕ) (flush_seen : ℕ) where
  abbrev step : ℕ → ℕ → TrackKept → TrackKept
  step code argument s = record s { life = by_command code argument s.life; slot = if opens code s.life then given else s.slot; settled = s.settled + 1 }

  shown : (look : CommandLook) (s : TrackKept) → shows_command look.seen ≡ true → not ((look.code == 2) && not (look.argument == 0)) ≡ true → after_look given flush_seen look s ≡ step look.code look.argument s
  unfolding after_look obeyed
  shown look s shows fine = ap (λ (b : Bool). if b then obeyed given flush_seen look.code look.argument s else if is_shut look.seen then ended s else s) shows
      ∙ ap (λ (b : Bool). if b then record (told given look.code look.argument s) { awaits = Some look.argument } else record (told given look.code look.argument s) { settled = (told given look.code look.argument s).settled + 1 }) (no_wait flush_seen look.code look.argument s.life fine)

  unshown : (look : CommandLook) (s : TrackKept) → shows_command look.seen ≡ false → is_shut look.seen ≡ false → after_look given flush_seen look s ≡ s
  unfolding after_look
  unshown look s shows open_is = ap (λ (b : Bool). if b then obeyed given flush_seen look.code look.argument s else if is_shut look.seen then ended s else s) shows
      ∙ ap (λ (b : Bool). if b then ended s else s) open_is

  abbrev after_first : CommandLook → List CommandLook → TrackKept → TrackKept
  after_first look looks t = if goes_on look t then after_looks given flush_seen looks t else t

  abbrev due_first : ℕ → CommandLook → List CommandLook → TrackKept → Bool
  due_first n look looks t = if goes_on look t then are_due n given flush_seen looks t else length looks == 0

  none_left : (looks : List CommandLook) (s : TrackKept) → (length looks == 0) ≡ true → s ≡ told_all given (words_taken looks) s
  none_left [] s e = refl
  none_left (look ∷ looks) s e = absurd (let f : suc (length looks) ≡ 0 = search (arith, e) in omega arith)

  look_first : (n : ℕ) (look : CommandLook) (looks : List CommandLook) (s : TrackKept) (b : Bool) → shows_command look.seen ≡ b → s.awaits ≡ None → is_shut look.seen ≡ false
      → starts_at_once ((if b then look.code ∷ look.argument ∷ [] else []) ++ words_taken looks) ≡ true → due_first n look looks (after_look given flush_seen look s) ≡ true
      → ((t : TrackKept) → t.awaits ≡ None → starts_at_once (words_taken looks) ≡ true → are_due n given flush_seen looks t ≡ true → after_looks given flush_seen looks t ≡ told_all given (words_taken looks) t)
      → after_first look looks (after_look given flush_seen look s) ≡ told_all given ((if b then look.code ∷ look.argument ∷ [] else []) ++ words_taken looks) s
  look_first n look looks s true shows idle open_is fine due later =
      let parts = both _ _ fine in
      let t : TrackKept = step look.code look.argument s in
      let is : after_look given flush_seen look s ≡ t = shown look s shows parts.0 in
      let goes : goes_on look t ≡ true = ap (λ (b : Bool). b && not (is_some s.awaits)) shows ∙ ap (λ (o : Option ℕ). not (is_some o)) idle in
      let due_then : are_due n given flush_seen looks t ≡ true = sym (ap (λ (b : Bool). if b then are_due n given flush_seen looks t else length looks == 0) goes) ∙ sym (ap (due_first n look looks) is) ∙ due in
      ap (after_first look looks) is ∙ ap (λ (b : Bool). if b then after_looks given flush_seen looks t else t) goes ∙ later t idle parts.1 due_then
  look_first n look looks s false shows idle open_is fine due later =
      let is : after_look given flush_seen look s ≡ s = unshown look s shows open_is in
      let stops : goes_on look s ≡ false = ap (λ (b : Bool). b && not (is_some s.awaits)) shows in
      ap (after_first look looks) is ∙ ap (λ (b : Bool). if b then after_looks given flush_seen looks s else s) stops
      ∙ none_left looks s (sym (ap (λ (b : Bool). if b then are_due n given flush_seen looks s else length looks == 0) stops) ∙ sym (ap (due_first n look looks) is) ∙ due)

  -- the track takes the words that the looks of a turn take
  pub looks_told : (n : ℕ) (looks : List CommandLook) (s : TrackKept) → s.awaits ≡ None → none_shut looks ≡ true → starts_at_once (words_taken looks) ≡ true → are_due n given flush_seen looks s ≡ true
      → after_looks given flush_seen looks s ≡ told_all given (words_taken looks) s
  looks_told n [] s idle open_is fine due = refl
  looks_told zero (look ∷ looks) s idle open_is fine due = no due
  looks_told (suc n) (look ∷ looks) s idle open_is fine due = let parts = both _ _ open_is in
      look_first n look looks s (shows_command look.seen) refl idle (not_true (is_shut look.seen) parts.0) fine due (λ t idle_then fine_then due_then. looks_told n looks t idle_then parts.1 fine_then due_then)

  ends_first : (n : ℕ) (look : CommandLook) (looks : List CommandLook) (s : TrackKept) (b : Bool) → shows_command look.seen ≡ b → s.awaits ≡ None → is_shut look.seen ≡ false
      → starts_at_once ((if b then look.code ∷ look.argument ∷ [] else []) ++ words_taken looks) ≡ true → due_first n look looks (after_look given flush_seen look s) ≡ true
      → ((t : TrackKept) → t.awaits ≡ None → starts_at_once (words_taken looks) ≡ true → are_due n given flush_seen looks t ≡ true → (is_ended looks ≡ true) ⊎ (2 * n ≤ length (words_taken looks)))
      → ((if b then is_ended looks else length looks == 0) ≡ true) ⊎ (2 * suc n ≤ length ((if b then look.code ∷ look.argument ∷ [] else []) ++ words_taken looks))
  ends_first n look looks s true shows idle open_is fine due later =
      let parts = both _ _ fine in
      let t : TrackKept = step look.code look.argument s in
      let is : after_look given flush_seen look s ≡ t = shown look s shows parts.0 in
      let goes : goes_on look t ≡ true = ap (λ (b : Bool). b && not (is_some s.awaits)) shows ∙ ap (λ (o : Option ℕ). not (is_some o)) idle in
      let due_then : are_due n given flush_seen looks t ≡ true = sym (ap (λ (b : Bool). if b then are_due n given flush_seen looks t else length looks == 0) goes) ∙ sym (ap (due_first n look looks) is) ∙ due in
      elim (later t idle parts.1 due_then) as (λ x. (is_ended looks ≡ true) ⊎ (2 * suc n ≤ suc (suc (length (words_taken looks))))) [ inl e ↦ inl e | inr le ↦ inr (omega arith) ]
  ends_first n look looks s false shows idle open_is fine due later =
      let is : after_look given flush_seen look s ≡ s = unshown look s shows open_is in
      let stops : goes_on look s ≡ false = ap (λ (b : Bool). b && not (is_some s.awaits)) shows in
      inl (sym (ap (λ (b : Bool). if b then are_due n given flush_seen looks s else length looks == 0) stops) ∙ sym (ap (due_first n look looks) is) ∙ due)

  -- the looks that are due end with one that shows no command, or are as many as a turn makes
  pub due_ends : (n : ℕ) (looks : List CommandLook) (s : TrackKept) → s.awaits ≡ None → none_shut looks ≡ true → starts_at_once (words_taken looks) ≡ true → are_due n given flush_seen looks s ≡ true
      → (is_ended looks ≡ true) ⊎ (2 * n ≤ length (words_taken looks))
  due_ends zero [] s idle open_is fine due = inr (omega arith)
  due_ends (suc n) [] s idle open_is fine due = no due
  due_ends zero (look ∷ looks) s idle open_is fine due = no due
  due_ends (suc n) (look ∷ looks) s idle open_is fine due = let parts = both _ _ open_is in
      ends_first n look looks s (shows_command look.seen) refl idle (not_true (is_shut look.seen) parts.0) fine due (λ t idle_then fine_then due_then. due_ends n looks t idle_then parts.1 fine_then due_then)

-- ## A track's part of the turn

no_shut : (looks : List CommandLook) → none_shut looks ≡ true → list_any (λ (look : CommandLook). is_shut look.seen) looks ≡ false
no_shut [] e = refl
no_shut (look ∷ looks) e = let parts = both _ _ e in ap (λ (b : Bool). b || list_any (λ (look : CommandLook). is_shut look.seen) looks) (not_true (is_shut look.seen) parts.0) ∙ no_shut looks parts.1

noted_idle : (r : SlotReport) (s : TrackKept) → s.awaits ≡ None → (noted r s).awaits ≡ None
unfolding noted
noted_idle r s idle = grind arith

ready_idle : (k : Learnt) (i : ℕ) (s : TrackKept) → s.awaits ≡ None → ready k i s ≡ noted (slot_reported k s) s
unfolding settled_at
ready_idle k i s idle = ap (λ (o : Option ℕ). let t = noted (slot_reported k s) s in if is_reached (heard k i s).flush_seen o then record t { awaits = None; settled = t.settled + 1 } else t) (noted_idle (slot_reported k s) s idle)

idle_due : (given : Option ℕ) (flush_seen : ℕ) (looks : List CommandLook) (s : TrackKept) → s.awaits ≡ None → HasDueLooks given flush_seen looks s → are_due most_looks given flush_seen looks s ≡ true
idle_due given flush_seen looks s idle due = by_false (looks ≡ []) (are_due most_looks given flush_seen looks s ≡ true) (is_some s.awaits) (ap (λ (o : Option ℕ). is_some o) idle) due

abbrev with_report : Heard → Bool → TrackKept → TrackKept
with_report h shut s = let t = record s { life = by_report h.known s.life } in record t { status = status_word shut t }

-- A track that lives, for which no START waits, takes the words that its looks take, and then hears the report
pub attended_told : (given : Option ℕ) (k : Learnt) (i : ℕ) (seen : TrackSeen) (s : TrackKept) → s.life.ended ≡ false → s.awaits ≡ None → none_shut seen.looks ≡ true → starts_at_once (words_taken seen.looks) ≡ true
    → IsServed given (heard k i s) seen (ready k i s) → attended given k i seen.looks s ≡ reported_by (heard k i s) (told_all given (words_taken seen.looks) (noted (slot_reported k s) s))
unfolding after_part status_word
attended_told given k i seen s lives idle open_is fine served =
    let h : Heard = heard k i s in
    let r : TrackKept = noted (slot_reported k s) s in
    let still : r.awaits ≡ None = noted_idle (slot_reported k s) s idle in
    let ready_is : ready k i s ≡ r = ready_idle k i s idle in
    let due : are_due most_looks given h.flush_seen seen.looks r ≡ true = idle_due given h.flush_seen seen.looks r still (subst (HasDueLooks given h.flush_seen seen.looks) ready_is served.looks) in
    let told_is : commanded given h.flush_seen seen.looks r ≡ told_all given (words_taken seen.looks) r = ap (λ (o : Option ℕ). if is_some o then r else after_looks given h.flush_seen seen.looks r) still ∙ looks_told given h.flush_seen most_looks seen.looks r still open_is fine due in
    ap (λ (b : Bool). if b then s else after_part given h seen.looks (ready k i s)) lives
    ∙ ap (after_part given h seen.looks) ready_is
    ∙ ap (λ (t : TrackKept). with_report h (is_found_shut h seen.looks) t) told_is
    ∙ ap (λ (b : Bool). with_report h b (told_all given (words_taken seen.looks) r)) (or_nothing h.known.shut _ (no_shut seen.looks open_is))

-- The looks of a track that lives end with one that shows no command, or take the words of as many commands as a turn makes looks
pub served_ends : (given : Option ℕ) (k : Learnt) (i : ℕ) (seen : TrackSeen) (s : TrackKept) → s.awaits ≡ None → none_shut seen.looks ≡ true → starts_at_once (words_taken seen.looks) ≡ true
    → IsServed given (heard k i s) seen (ready k i s) → (is_ended seen.looks ≡ true) ⊎ (2 * most_looks ≤ length (words_taken seen.looks))
served_ends given k i seen s idle open_is fine served =
    let r : TrackKept = noted (slot_reported k s) s in
    let still : r.awaits ≡ None = noted_idle (slot_reported k s) s idle in
    due_ends given (heard k i s).flush_seen most_looks seen.looks r still open_is fine (idle_due given (heard k i s).flush_seen seen.looks r still (subst (HasDueLooks given (heard k i s).flush_seen seen.looks) (ready_idle k i s idle) served.looks))
