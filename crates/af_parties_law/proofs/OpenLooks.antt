-- A server that is not shut in the end found no words that don't fit: none of its looks was Shut.
use Rattle.std.proofs.Common.{◌≡◌, ℕ, ◌-◌, ◌==◌, not, nat_lt, Bool, true, false, if◌then◌else◌, is_some, fold, min, MatchOption, List, [], ◌∷◌, ◌++◌, Option, Some, None, refl, sym, ap, subst, ◌∙◌, append-nil, append_assoc}
use Rattle.af_parties_law.proofs.Common.{CommandLook, LegalLooks, Listed, LooksBy, ServerEvent, ServerKept, Shape, SlotEntry, events_behind_look, all_command_events, as_slot, both_true, command_events, cycle_events, did, is_noticed, is_shut, kept, kept_more, list_all, look_at, look_events, none-some, server_keeps, server_kept, takes_command}
use Rattle.af_base.specs.declared.event.ServerEvent.TheVariants as server
use Rattle.af_base.specs.declared.seen.Seen.{Seen}
use Rattle.af_base.specs.declared.seen.Seen.TheVariants as seen
use Rattle.af_model.specs.Room.{ahead, outside}
use Rattle.af_audit.proofs.LooksUnshut.{Stay, shut_after, shut_append, shut_by, stay_after, stay_taken}

-- ## One look

module _ (shape : Shape) where
  -- the words that a look shuts with. If a look shut nobody, it shows no words that don't fit
  abbrev shut_if : (noticed outside_is : Bool) (front rear : ℕ) → Option (ℕ × ℕ)
  shut_if noticed outside_is front rear = if noticed then None else (if outside_is then Some (front, rear) else None)

  open_sight : (kept_flush asked flush rear front : ℕ) (noticed outside_is : Bool)
      → shut_if noticed outside_is front rear ≡ None
      → is_shut (if noticed then seen.Flushed kept_flush else if outside_is then seen.Shut front rear else if rear == front then seen.Empty else seen.Frames (min asked (ahead front rear))) ≡ false
  open_sight kept_flush asked flush rear front true outside_is fine = refl
  open_sight kept_flush asked flush rear front false true fine = absurd (none-some (front, rear) (sym fine))
  open_sight kept_flush asked flush rear front false false fine = fits (rear == front)
    where
      fits : (b : Bool) → is_shut (if b then seen.Empty else seen.Frames (min asked (ahead front rear))) ≡ false
      fits true = refl
      fits false = refl

module _ (asked : ℕ) (s : Listed) (slot : SlotEntry) (front : ℕ) (looks : LooksBy asked s slot front) where
  abbrev shown_now : Seen
  shown_now = look_at s.shape (kept s).flush asked slot.flush slot.rear front

  -- the events of a look: none if the server was shut
  abbrev look_of : Bool → List ServerEvent
  look_of was = if was then [] else look_events slot.seen slot.flush slot.rear front

  open_by : (first more : List ServerEvent) (o : Option (ℕ × ℕ)) → Stay s.shape first → Stay s.shape more → ((k : ServerKept) → (fold (server_keeps s.shape) k first).flush ≡ k.flush) → (kept s).shut ≡ o
      → MatchOption o (slot.seen ≡ shown_now) (λ words. (slot.seen ≡ seen.Shut words.0 words.1) × (slot.flush ≡ (kept s).flush) × (slot.rear ≡ words.1))
      → shut_after s.shape (kept s) (first ++ (look_of (is_some o) ++ more)) ≡ None → ((kept s).shut ≡ None) × (is_shut slot.seen ≡ false)
  open_by first more (Some words) quiet calm same is shows fine =
      let k : ServerKept = kept s in
      let m : ServerKept = fold (server_keeps s.shape) k first in
      absurd (none-some words (sym fine ∙ shut_append s.shape k first more ∙ calm m ∙ quiet k ∙ is))
  open_by first more None quiet calm same is shows fine =
      let k : ServerKept = kept s in
      let m : ServerKept = fold (server_keeps s.shape) k first in
      let seen_events = look_events slot.seen slot.flush slot.rear front in
      let looked : shut_after s.shape (kept s) (first ++ (seen_events ++ more)) ≡ (if is_noticed s.shape (not (slot.flush == k.flush)) slot.rear front then None else outside s.shape.frames front slot.rear) =
      shut_append s.shape k first (seen_events ++ more)
      ∙ shut_append s.shape m seen_events more
      ∙ calm (fold (server_keeps s.shape) m seen_events)
      ∙ shut_by s.shape m slot.seen slot.flush slot.rear front
      ∙ ap (λ (flush : ℕ). if is_noticed s.shape (not (slot.flush == flush)) slot.rear front then None else outside s.shape.frames front slot.rear) (same k) in
      (is, ap is_shut shows ∙ open_sight s.shape _ asked slot.flush slot.rear front (is_noticed s.shape (not (slot.flush == k.flush)) slot.rear front) (nat_lt s.shape.frames (ahead front slot.rear)) (sym looked ∙ fine))

  -- a look with the events before it and after it: if they leave the server not shut, it wasn't shut before, and the look wasn't Shut
  pub open_look : (first more : List ServerEvent) → Stay s.shape first → Stay s.shape more → ((k : ServerKept) → (fold (server_keeps s.shape) k first).flush ≡ k.flush)
      → shut_after s.shape (kept s) (first ++ ((if is_some (kept s).shut then [] else look_events slot.seen slot.flush slot.rear front) ++ more)) ≡ None → ((kept s).shut ≡ None) × (is_shut slot.seen ≡ false)
  open_look first more quiet calm same fine = open_by first more (kept s).shut quiet calm same refl looks.1 fine

  -- if a server isn't shut after a cycle, it wasn't before the cycle, and its look wasn't Shut
  pub open_cycle : shut_after s.shape (kept s) (cycle_events asked s slot front) ≡ None → ((kept s).shut ≡ None) × (is_shut slot.seen ≡ false)
  open_cycle fine = open_look (server.SawGain slot.gains ∷ []) (events_behind_look asked (is_some (kept s).shut) slot.seen) (λ k. refl) (stay_after s.shape asked (is_some (kept s).shut) slot.seen) (λ k. refl) fine

-- ## The looks at a command block

-- if a server isn't shut after some looks at commands, none of the looks was Shut
pub open_commands : (s : Listed) (looks : List CommandLook) (fronts : List ℕ) → LegalLooks s looks fronts → (server_kept s.shape (s.events ++ all_command_events s looks fronts)).shut ≡ None
    → ((kept s).shut ≡ None) × (list_all (λ look. not (is_shut look.seen)) looks ≡ true)
open_commands s [] [] legal fine = (subst (λ (es : List ServerEvent). (server_kept s.shape es).shut ≡ None) (append-nil s.events) fine, refl)
open_commands s [] (front ∷ fronts) legal fine = absurd legal
open_commands s (look ∷ looks) [] legal fine = absurd legal
open_commands s (look ∷ looks) (front ∷ fronts) legal fine =
    let events : List ServerEvent = command_events s look front in
    let rest : List ServerEvent = all_command_events (did s events) looks fronts in
    let after = open_commands (did s events) looks fronts legal.2 (subst (λ (es : List ServerEvent). (server_kept s.shape es).shut ≡ None) (sym (append_assoc s.events events rest)) fine) in
    let here : shut_after s.shape (kept s) events ≡ None = sym (ap (λ (x : ServerKept). x.shut) (kept_more s.shape s.events events)) ∙ after.0 in
    let one = open_look 2 s (as_slot look) front legal.0 [] (takes_command look) (λ k. refl) (stay_taken s.shape look) (λ k. refl) here in
    (one.0, both_true (not (is_shut look.seen)) (list_all (λ (l : CommandLook). not (is_shut l.seen)) looks) (ap not one.1) after.1)
