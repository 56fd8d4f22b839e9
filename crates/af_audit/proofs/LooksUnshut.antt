-- If a server isn't shut after a look, it wasn't before it, and the look wasn't Shut. The front that a journal records is the one that was seen, if a look was Shut.
use Rattle.std.proofs.Common.{◌≡◌, ℕ, ◌-◌, ◌^◌, ◌≤◌, ◌==◌, not, nat_lt, Bool, true, false, true≢false, if◌then◌else◌, is_some, fold, min, MatchOption, List, [], ◌∷◌, ◌++◌, Option, Some, None, refl, sym, ap, subst, ◌∙◌}
use Rattle.af_audit.proofs.Common.{Alike, CommandLook, LegalLooks, Listed, LooksBy, Seen, ServerEvent, ServerKept, Shape, SlotEntry, ahead, all_command_events, as_slot, both_true, command_events, cycle_events, dropped_by, fold-append, front_of, fronts_by, is_noticed, is_shut, kept, kept_more, list_all, look_at, look_events, looks_alike, none-some, outside, server_keeps, server_kept, shows_command, step_alike, takes_command, tally}
use Rattle.af_base.specs.declared.event.ServerEvent.TheVariants as server
use Rattle.af_base.specs.declared.seen.Seen.TheVariants as seen
use Rattle.af_model.specs.Cycles.{events_behind_look}

-- ## Events

module _ (shape : Shape) where
  -- the words that shut a server after further events
  abbrev pub shut_after : ServerKept → List ServerEvent → Option (ℕ × ℕ)
  shut_after k events = (fold (server_keeps shape) k events).shut

  pub shut_append : (k : ServerKept) (es more : List ServerEvent) → shut_after k (es ++ more) ≡ shut_after (fold (server_keeps shape) k es) more
  shut_append k es more = ap (λ (x : ServerKept). x.shut) (fold-append (server_keeps shape) k es more)

  -- what a look leaves: nothing shuts it if it noticed a flush, and else a front outside the room does
  pub shut_by : (k : ServerKept) (answer : Seen) (flush rear front : ℕ) → shut_after k (look_events answer flush rear front) ≡ (if is_noticed shape (not (flush == k.flush)) rear front then None else outside shape.frames front rear)
  shut_by k seen.Absent flush rear front = refl
  shut_by k _ flush rear front = refl

  -- events that look at no front
  abbrev pub Stay : List ServerEvent → Type 0
  Stay events = (k : ServerKept) → shut_after k events ≡ k.shut

  stay_tally : (missing : ℕ) → Stay (tally missing)
  stay_tally missing k = by_none (missing == 0)
    where
      by_none : (b : Bool) → shut_after k (if b then [] else server.Tally missing ∷ server.SetFlags 1 ∷ []) ≡ k.shut
      by_none true = refl
      by_none false = refl

  stay_shut : (was : Bool) → Stay (if was then [] else server.SetFlags 4 ∷ [])
  stay_shut true k = refl
  stay_shut false k = refl

  -- what follows a look looks at no front
  pub stay_after : (asked : ℕ) (was : Bool) (answer : Seen) → Stay (events_behind_look asked was answer)
  stay_after asked was seen.Absent k = refl
  stay_after asked was (seen.Flushed dropped) k = refl
  stay_after asked was (seen.Shut front rear) k = stay_shut was k
  stay_after asked was seen.Empty k = stay_tally asked k
  stay_after asked was (seen.Frames count) k = stay_tally (asked - count) (fold (server_keeps shape) k (server.Take count ∷ []))

  -- what a look shows, by what it noticed and whether its words fit
  abbrev sight : (dropped asked rear front : ℕ) (noticed out same : Bool) → Seen
  sight dropped asked rear front noticed out same = if noticed then seen.Flushed dropped else if out then seen.Shut front rear else if same then seen.Empty else seen.Frames (min asked (ahead front rear))

  -- the words that shut a server after a look
  abbrev shut_if : (noticed out : Bool) (front rear : ℕ) → Option (ℕ × ℕ)
  shut_if noticed out front rear = if noticed then None else (if out then Some (front, rear) else None)

  -- if a look shut nobody, it shows no words that don't fit
  open_sight : (dropped asked rear front : ℕ) (noticed out same : Bool) → shut_if noticed out front rear ≡ None → is_shut (sight dropped asked rear front noticed out same) ≡ false
  open_sight dropped asked rear front true out same fine = refl
  open_sight dropped asked rear front false true same fine = absurd (none-some (front, rear) (sym fine))
  open_sight dropped asked rear front false false true fine = refl
  open_sight dropped asked rear front false false false fine = refl

-- ## One look

-- the front that a look which was Shut records
abbrev told_by : ℕ → Seen → ℕ
told_by front (seen.Shut f r) = f
told_by front _ = front

-- the front that a Shut look records is the one that it saw
told_sight : (shape : Shape) (dropped asked rear front : ℕ) (noticed out same : Bool) → told_by front (sight shape dropped asked rear front noticed out same) ≡ front
told_sight shape dropped asked rear front true out same = refl
told_sight shape dropped asked rear front false true same = refl
told_sight shape dropped asked rear front false false true = refl
told_sight shape dropped asked rear front false false false = refl

front_is : (asked : ℕ) (s : Listed) (slot : SlotEntry) (front : ℕ) (x : Seen) → slot.seen ≡ x → is_shut x ≡ true → told_by front x ≡ front → front_of asked s slot ≡ front
front_is asked s slot front (seen.Shut f r) is shut same = ap (λ (y : Seen). front_of asked s (record slot { seen = y })) is ∙ same
front_is asked s slot front _ is shut same = absurd (true≢false (sym shut))

module _ (asked : ℕ) (s : Listed) (slot : SlotEntry) (front : ℕ) (looks : LooksBy asked s slot front) where
  -- the front that is recorded
  abbrev told : ℕ
  told = front_of asked s slot

  abbrev shown_now : Seen
  shown_now = look_at s.shape (kept s).flush asked slot.flush slot.rear front

  -- the events of a look by a server that was shut, or wasn't
  abbrev look_of : Bool → List ServerEvent
  look_of was = if was then [] else look_events slot.seen slot.flush slot.rear told

  -- whether a look by this front notices a flush
  abbrev noticed_by : ℕ → Bool
  noticed_by f = is_noticed s.shape (not (slot.flush == (kept s).flush)) slot.rear f

  not_shut : slot.seen ≡ shown_now → (if noticed_by told then None else outside s.shape.frames told slot.rear) ≡ None → is_shut slot.seen ≡ false
  not_shut shows fine = by_shut (is_shut slot.seen) refl
    where
      by_shut : (b : Bool) → is_shut slot.seen ≡ b → is_shut slot.seen ≡ false
      by_shut false is = is
      by_shut true is =
          let dropped : ℕ = dropped_by s.shape.wrap slot.flush slot.rear front in
          let saw : told_by front slot.seen ≡ front = ap (told_by front) shows ∙ told_sight s.shape dropped asked slot.rear front (noticed_by front) (nat_lt s.shape.frames (ahead front slot.rear)) (slot.rear == front) in
          let same : front_of asked s slot ≡ front = front_is asked s slot front slot.seen refl is saw in
          let open_is : (if noticed_by front then None else outside s.shape.frames front slot.rear) ≡ None = subst (λ (f : ℕ). (if noticed_by f then None else outside s.shape.frames f slot.rear) ≡ None) same fine in
          ap is_shut shows ∙ open_sight s.shape dropped asked slot.rear front (noticed_by front) (nat_lt s.shape.frames (ahead front slot.rear)) (slot.rear == front) open_is

  open_by : (first more : List ServerEvent) (o : Option (ℕ × ℕ)) → Stay s.shape first → Stay s.shape more → ((k : ServerKept) → (fold (server_keeps s.shape) k first).flush ≡ k.flush) → (kept s).shut ≡ o
      → MatchOption o (slot.seen ≡ shown_now) (λ words. (slot.seen ≡ seen.Shut words.0 words.1) × (slot.flush ≡ (kept s).flush) × (slot.rear ≡ words.1))
      → shut_after s.shape (kept s) (first ++ (look_of (is_some o) ++ more)) ≡ None → ((kept s).shut ≡ None) × (is_shut slot.seen ≡ false)
  open_by first more (Some words) quiet calm same is shows fine =
      let k : ServerKept = kept s in
      let m : ServerKept = fold (server_keeps s.shape) k first in
      absurd (none-some words (sym fine ∙ shut_append s.shape k first more ∙ calm m ∙ quiet k ∙ is))
  open_by first more None quiet calm same is shows fine =
      let k : ServerKept = kept s in
      let m : ServerKept = fold (server_keeps s.shape) k first in
      let seen_events = look_events slot.seen slot.flush slot.rear told in
      let looked : shut_after s.shape (kept s) (first ++ (seen_events ++ more)) ≡ (if noticed_by told then None else outside s.shape.frames told slot.rear) =
      shut_append s.shape k first (seen_events ++ more)
      ∙ shut_append s.shape m seen_events more
      ∙ calm (fold (server_keeps s.shape) m seen_events)
      ∙ shut_by s.shape m slot.seen slot.flush slot.rear told
      ∙ ap (λ (flush : ℕ). if is_noticed s.shape (not (slot.flush == flush)) slot.rear told then None else outside s.shape.frames told slot.rear) (same k) in
      (is, not_shut shows (sym looked ∙ fine))

  -- if a server isn't shut after a look and what stands before and after it, it wasn't before, and the look wasn't Shut
  open_look : (first more : List ServerEvent) → Stay s.shape first → Stay s.shape more → ((k : ServerKept) → (fold (server_keeps s.shape) k first).flush ≡ k.flush)
      → shut_after s.shape (kept s) (first ++ ((if is_some (kept s).shut then [] else look_events slot.seen slot.flush slot.rear told) ++ more)) ≡ None → ((kept s).shut ≡ None) × (is_shut slot.seen ≡ false)
  open_look first more quiet calm same fine = open_by first more (kept s).shut quiet calm same refl looks.1 fine

  -- if a server isn't shut after a cycle, it wasn't before it, and its look wasn't Shut
  pub unshut_cycle : shut_after s.shape (kept s) (cycle_events asked s slot told) ≡ None → ((kept s).shut ≡ None) × (is_shut slot.seen ≡ false)
  unshut_cycle fine = open_look (server.SawGain slot.gains ∷ []) (events_behind_look asked (is_some (kept s).shut) slot.seen) (λ k. refl) (stay_after s.shape asked (is_some (kept s).shut) slot.seen) (λ k. refl) fine

-- ## The looks at a command block

pub stay_taken : (shape : Shape) (look : CommandLook) → Stay shape (takes_command look)
stay_taken shape look k = by_command (shows_command look.seen)
  where
    by_command : (b : Bool) → shut_after shape k (if b then server.Take 2 ∷ [] else []) ≡ k.shut
    by_command true = refl
    by_command false = refl

module _ (k : Shape) (few : k.wrap ≤ 2 ^ 31) where
  -- a server with this list
  abbrev with_list : List ServerEvent → Listed
  with_list events = record { shape = k; events = events }

  -- if a server isn't shut after some looks at commands as they are recorded, it wasn't before them, and none of them was Shut
  pub unshut_looks : (xs ys : List ServerEvent) (looks : List CommandLook) (fronts : List ℕ) → Alike (server_kept k xs) (server_kept k ys) → LegalLooks (with_list xs) looks fronts
      → shut_after k (server_kept k ys) (all_command_events (with_list ys) looks (fronts_by front_of (with_list ys) looks)) ≡ None → ((server_kept k ys).shut ≡ None) × (list_all (λ (l : CommandLook). not (is_shut l.seen)) looks ≡ true)
  unshut_looks xs ys [] [] same legal fine = (fine, refl)
  unshut_looks xs ys [] (front ∷ fronts) same legal fine = absurd legal
  unshut_looks xs ys (look ∷ looks) [] same legal fine = absurd legal
  unshut_looks xs ys (look ∷ looks) (front ∷ fronts) same legal fine =
      let told = front_of 2 (with_list ys) (as_slot look) in
      let events : List ServerEvent = command_events (with_list ys) look told in
      let rest : List ServerEvent = all_command_events (with_list (ys ++ events)) looks (fronts_by front_of (with_list (ys ++ events)) looks) in
      let moved : shut_after k (server_kept k ys) (events ++ rest) ≡ shut_after k (server_kept k (ys ++ events)) rest =
      shut_append k (server_kept k ys) events rest ∙ ap (λ (x : ServerKept). shut_after k x rest) (sym (kept_more k ys events)) in
      let after = unshut_looks (xs ++ command_events (with_list xs) look front) (ys ++ events) looks fronts (step_alike k few xs ys look front same legal.0) legal.2 (sym moved ∙ fine) in
      let here : shut_after k (server_kept k ys) events ≡ None = sym (ap (λ (x : ServerKept). x.shut) (kept_more k ys events)) ∙ after.0 in
      let by : LooksBy 2 (with_list ys) (as_slot look) front = looks_alike k few xs ys 2 (as_slot look) front same legal.0 in
      let one = open_look 2 (with_list ys) (as_slot look) front by [] (takes_command look) (λ k. refl) (stay_taken k look) (λ k. refl) here in
      (one.0, both_true (not (is_shut look.seen)) (list_all (λ (l : CommandLook). not (is_shut l.seen)) looks) (ap not one.1) after.1)
