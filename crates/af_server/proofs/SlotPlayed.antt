-- What the calls of a cycle on one server come to.
use Rattle.std.proofs.Common.{◌≡◌, ℕ, Bool, Option, Some, None, MatchOption, is_some, if◌then◌else◌, List, [], ◌∷◌, ◌++◌, refl, sym, ap, subst, ◌∙◌, append_assoc, append-nil}
use Rattle.af_server.proofs.Common.{IsSeen, Seen, ServerEvent, TrackSlot, events_behind_look, cycle_events, kept, look_at, look_events, shown_by}
use Rattle.af_base.specs.declared.event.ServerEvent.TheVariants as server
use Rattle.af_base.specs.declared.frame.Frame.{Frame}
use Rattle.af_base.specs.declared.log.SlotEntry.{SlotEntry}
use Rattle.af_base.specs.declared.seen.Seen.TheVariants as seen
use Rattle.af_server.specs.declared.look.Look.{Look}
use Rattle.af_server.specs.Looks.{Looks, WithinAsk}
use Rattle.af_server.specs.Order.{ServerState, IsInOrder, did}
use Rattle.af_server.specs.Slot.{listed, HasDone}
use Rattle.af_server.proofs.SomeShown.{shows_some}

-- gains, the events of a look and what follows it, one after the other
joined : (before : List ServerEvent) (gain : ServerEvent) (own rest : List ServerEvent) → ((before ++ gain ∷ []) ++ own) ++ rest ≡ before ++ (gain ∷ own ++ rest)
joined before gain own rest = append_assoc (before ++ gain ∷ []) own rest ∙ append_assoc before (gain ∷ []) (own ++ rest)

module _ (asked first : ℕ) (s u v : ServerState) (gains : ℕ) (look : Look) (frames : List Frame) (order : IsInOrder s)
    (looks : Looks (did s (server.SawGain gains)) asked look u) (within : WithinAsk asked look.seen) (follows : HasDone u (events_behind_look asked (is_some s.shut) look.seen) frames v) where
  abbrev slot : SlotEntry
  slot = record { gains = gains; flush = look.flush; rear = look.rear; seen = look.seen; first = first }

  shows : IsSeen look.seen
  shows = shows_some asked (did s (server.SawGain gains)) u look within looks

  abbrev before : List ServerEvent
  before = s.pass.part.events

  -- the list, by the events of the look itself
  list_of : (front : ℕ) → u.pass.part.events ≡ (before ++ server.SawGain gains ∷ []) ++ (if is_some s.shut then [] else look_events look.seen look.flush look.rear front)
      → v.pass.part.events ≡ before ++ cycle_events asked (listed s) slot front
  list_of front own =
      follows.did
      ∙ ap (λ (es : List ServerEvent). es ++ events_behind_look asked (is_some s.shut) look.seen) own
      ∙ joined before (server.SawGain gains) (if is_some s.shut then [] else look_events look.seen look.flush look.rear front) (events_behind_look asked (is_some s.shut) look.seen)
      ∙ ap (λ (o : Option (ℕ × ℕ)). before ++ (server.SawGain gains ∷ (if is_some o then [] else look_events look.seen look.flush look.rear front) ++ events_behind_look asked (is_some o) look.seen)) order.shut_is

  -- what the look says if no words had shut the server
  abbrev Opens : Type 0
  Opens = (front : ℕ) × (let shows = look_at s.pass.part.shape s.flush asked look.flush look.rear front in
      (look.seen ≡ shows) × (u.shown ≡ shown_by shows) × (u.pass.part.events ≡ (before ++ server.SawGain gains ∷ []) ++ look_events shows look.flush look.rear front))

  -- and if these words had shut it
  abbrev Stays : ℕ × ℕ → Type 0
  Stays words = (look.seen ≡ seen.Shut words.0 words.1) × (look.flush ≡ s.flush) × (look.rear ≡ words.1) × (u ≡ (record (did s (server.SawGain gains)) { shown = None }))

  by_words : (o : Option (ℕ × ℕ)) → s.shut ≡ o → TrackSlot asked (listed s) v.pass.part.events slot
  by_words None open_is =
      let found : Opens = subst (λ (o : Option (ℕ × ℕ)). MatchOption o Opens Stays) open_is looks in
      let front : ℕ = found.0 in
      let flushed : look.seen ≡ look_at s.pass.part.shape (kept (listed s)).flush asked look.flush look.rear front =
      found.1.0 ∙ ap (λ (flush : ℕ). look_at s.pass.part.shape flush asked look.flush look.rear front) order.flush_is in
      record {
        front = front;
        looks = (
          shows,
          subst (λ (o : Option (ℕ × ℕ)). MatchOption o
              (look.seen ≡ look_at s.pass.part.shape (kept (listed s)).flush asked look.flush look.rear front)
              (λ words. (look.seen ≡ seen.Shut words.0 words.1) × (look.flush ≡ (kept (listed s)).flush) × (look.rear ≡ words.1))) (sym open_is ∙ order.shut_is) flushed,
        );
        list = list_of front (found.1.2
            ∙ ap (λ (x : Seen). (before ++ server.SawGain gains ∷ []) ++ look_events x look.flush look.rear front) (sym found.1.0)
            ∙ ap (λ (o : Option (ℕ × ℕ)). (before ++ server.SawGain gains ∷ []) ++ (if is_some o then [] else look_events look.seen look.flush look.rear front)) (sym open_is));
      }
  by_words (Some words) shut_is =
      let found : Stays words = subst (λ (o : Option (ℕ × ℕ)). MatchOption o Opens Stays) shut_is looks in
      record {
        front = 0;
        looks = (
          shows,
          subst (λ (o : Option (ℕ × ℕ)). MatchOption o
              (look.seen ≡ look_at s.pass.part.shape (kept (listed s)).flush asked look.flush look.rear 0)
              (λ w. (look.seen ≡ seen.Shut w.0 w.1) × (look.flush ≡ (kept (listed s)).flush) × (look.rear ≡ w.1))) (sym shut_is ∙ order.shut_is) (found.0, found.1 ∙ order.flush_is, found.2),
        );
        list = list_of 0 (ap (λ (x : ServerState). x.pass.part.events) found.3
            ∙ sym (append-nil (before ++ server.SawGain gains ∷ []))
            ∙ ap (λ (o : Option (ℕ × ℕ)). (before ++ server.SawGain gains ∷ []) ++ (if is_some o then [] else look_events look.seen look.flush look.rear 0)) (sym shut_is));
      }

  pub played : TrackSlot asked (listed s) v.pass.part.events slot
  played = by_words s.shut refl

pub played_by : (asked first : ℕ) (s t u v : ServerState) (gains : ℕ) (look : Look) (was_shut : Bool) (frames : List Frame) → IsInOrder s
    → t ≡ did s (server.SawGain gains) → was_shut ≡ is_some s.shut → Looks t asked look u → WithinAsk asked look.seen → HasDone u (events_behind_look asked was_shut look.seen) frames v
    → TrackSlot asked (listed s) v.pass.part.events record { gains = gains; flush = look.flush; rear = look.rear; seen = look.seen; first = first }
played_by asked first s t u v gains look was_shut frames order read shut looks within follows =
    played asked first s u v gains look frames order (subst (λ (x : ServerState). Looks x asked look u) read looks) within (subst (λ (b : Bool). HasDone u (events_behind_look asked b look.seen) frames v) shut follows)
