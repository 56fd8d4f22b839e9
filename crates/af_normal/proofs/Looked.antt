-- What a look of a server in order comes to, by its own list.
use Rattle.std.proofs.Common.{◌≡◌, ℕ, Option, Some, None, MatchOption, is_some, if◌then◌else◌, List, [], ◌∷◌, ◌++◌, refl, sym, ap, subst, ◌∙◌, append_assoc, append-nil, Bool, true, false, MatchBool, length, map, suc, arith}
use Rattle.af_normal.proofs.Common.{CommandLook, Frame, IsInOrder, IsSeen, LooksBy, Seen, ServerEvent, ServerState, SlotEntry, as_slot, count_seen, kept, listed, look_at, look_events, packed_word, shown_by, shows_command, slice_index_or}
use Rattle.af_base.specs.declared.event.ServerEvent.TheVariants as server
use Rattle.af_base.specs.declared.seen.Seen.TheVariants as seen
use Rattle.af_server.specs.declared.look.Look.{Look}
use Rattle.af_server.specs.Looks.{Looks, WithinAsk}
use Rattle.af_server.proofs.SomeShown.{shows_some}
use Rattle.af_normal.specs.Commands.{LooksOnce}

module _ (asked : ℕ) (s u : ServerState) (look : Look) (order : IsInOrder s) (looks : Looks s asked look u) (within : WithinAsk asked look.seen) where
  abbrev slot : SlotEntry
  slot = record { gains = 0; flush = look.flush; rear = look.rear; seen = look.seen; first = 0 }

  shows : IsSeen look.seen
  shows = shows_some asked s u look within looks

  abbrev before : List ServerEvent
  before = s.pass.part.events

  -- the look by some front, and its events
  abbrev pub LookedBy : Type 0
  LookedBy = (front : ℕ) × LooksBy asked (listed s) slot front × (u.pass.part.events ≡ before ++ (if is_some (kept (listed s)).shut then [] else look_events look.seen look.flush look.rear front))

  -- what the look says if no words had shut the server
  abbrev Opens : Type 0
  Opens = (front : ℕ) × (let shows = look_at s.pass.part.shape s.flush asked look.flush look.rear front in
      (look.seen ≡ shows) × (u.shown ≡ shown_by shows) × (u.pass.part.events ≡ before ++ look_events shows look.flush look.rear front))

  -- a server that these words had shut stays so
  abbrev Stays : ℕ × ℕ → Type 0
  Stays words = (look.seen ≡ seen.Shut words.0 words.1) × (look.flush ≡ s.flush) × (look.rear ≡ words.1) × (u ≡ (record s { shown = None }))

  by_words : (o : Option (ℕ × ℕ)) → s.shut ≡ o → LookedBy
  by_words None open_is =
      let found : Opens = subst (λ (o : Option (ℕ × ℕ)). MatchOption o Opens Stays) open_is looks in
      let front : ℕ = found.0 in
      let flushed : look.seen ≡ look_at s.pass.part.shape (kept (listed s)).flush asked look.flush look.rear front =
      found.1.0 ∙ ap (λ (flush : ℕ). look_at s.pass.part.shape flush asked look.flush look.rear front) order.flush_is in (
        front,
        (
          shows,
          subst (λ (o : Option (ℕ × ℕ)). MatchOption o
              (look.seen ≡ look_at s.pass.part.shape (kept (listed s)).flush asked look.flush look.rear front)
              (λ words. (look.seen ≡ seen.Shut words.0 words.1) × (look.flush ≡ (kept (listed s)).flush) × (look.rear ≡ words.1))) (sym open_is ∙ order.shut_is) flushed,
        ),
        found.1.2
            ∙ ap (λ (x : Seen). before ++ look_events x look.flush look.rear front) (sym found.1.0)
            ∙ ap (λ (o : Option (ℕ × ℕ)). before ++ (if is_some o then [] else look_events look.seen look.flush look.rear front)) (sym open_is ∙ order.shut_is),
      )
  by_words (Some words) shut_is =
      let found : Stays words = subst (λ (o : Option (ℕ × ℕ)). MatchOption o Opens Stays) shut_is looks in (
        0,
        (
          shows,
          subst (λ (o : Option (ℕ × ℕ)). MatchOption o
              (look.seen ≡ look_at s.pass.part.shape (kept (listed s)).flush asked look.flush look.rear 0)
              (λ w. (look.seen ≡ seen.Shut w.0 w.1) × (look.flush ≡ (kept (listed s)).flush) × (look.rear ≡ w.1))) (sym shut_is ∙ order.shut_is) (found.0, found.1 ∙ order.flush_is, found.2),
        ),
        ap (λ (x : ServerState). x.pass.part.events) found.3
            ∙ sym (append-nil before)
            ∙ ap (λ (o : Option (ℕ × ℕ)). before ++ (if is_some o then [] else look_events look.seen look.flush look.rear 0)) (sym shut_is ∙ order.shut_is),
      )

  pub looked : LookedBy
  looked = by_words s.shut refl

-- ## A look at a command block

-- the events of the look itself
abbrev own_events : ServerState → CommandLook → ℕ → List ServerEvent
own_events s look front = if is_some (kept (listed s)).shut then [] else look_events look.seen look.flush look.rear front

-- the look showed no command
pub missed : (s u : ServerState) (look : CommandLook) (front : ℕ) → shows_command look.seen ≡ false → look.code ≡ 0 → look.argument ≡ 0 → LooksBy 2 (listed s) (as_slot look) front
    → u.pass.part.events ≡ s.pass.part.events ++ own_events s look front → u.pass.part.frames ≡ s.pass.part.frames → u.pass.part.shape ≡ s.pass.part.shape → u.pass.has_hand ≡ s.pass.has_hand → LooksOnce s look u
missed s u look front h code argument by list frames shape hand = record {
  front = front;
  looks = by;
  words = subst (λ (b : Bool). MatchBool b (Unit {0}) ((look.code ≡ 0) × (look.argument ≡ 0))) (sym h) (code, argument);
  list = list ∙ ap (λ (es : List ServerEvent). s.pass.part.events ++ es) (sym (append-nil (own_events s look front)))
      ∙ ap (λ (b : Bool). s.pass.part.events ++ (own_events s look front ++ (if b then server.Take 2 ∷ [] else []))) (sym h);
  took = frames ∙ sym (append-nil s.pass.part.frames) ∙ ap (λ (b : Bool). s.pass.part.frames ++ ((if b then look.code ∷ look.argument ∷ [] else []) ++ [])) (sym h);
  shape = shape;
  hand = hand;
}

-- the two words of the command were taken
pub taken : (s u v : ServerState) (look : CommandLook) (front : ℕ) → shows_command look.seen ≡ true → LooksBy 2 (listed s) (as_slot look) front
    → u.pass.part.events ≡ s.pass.part.events ++ own_events s look front → u.pass.part.frames ≡ s.pass.part.frames
    → v.pass.part.events ≡ u.pass.part.events ++ server.Take 2 ∷ [] → v.pass.part.frames ≡ u.pass.part.frames ++ look.code ∷ look.argument ∷ [] → v.pass.part.shape ≡ s.pass.part.shape → v.pass.has_hand ≡ s.pass.has_hand → LooksOnce s look v
taken s u v look front h by list frames took words shape hand = record {
  front = front;
  looks = by;
  words = subst (λ (b : Bool). MatchBool b (Unit {0}) ((look.code ≡ 0) × (look.argument ≡ 0))) (sym h) tt;
  list = took ∙ ap (λ (es : List ServerEvent). es ++ server.Take 2 ∷ []) list ∙ append_assoc s.pass.part.events (own_events s look front) (server.Take 2 ∷ [])
      ∙ ap (λ (b : Bool). s.pass.part.events ++ (own_events s look front ++ (if b then server.Take 2 ∷ [] else []))) (sym h);
  took = words ∙ ap (λ (ws : List ℕ). ws ++ look.code ∷ look.argument ∷ []) frames ∙ ap (λ (b : Bool). s.pass.part.frames ++ ((if b then look.code ∷ look.argument ∷ [] else []) ++ [])) (sym h);
  shape = shape;
  hand = hand;
}

-- a look at so many frames showed them
pub shown_two : (x : Seen) (n : ℕ) → count_seen x ≡ suc n → shown_by x ≡ Some (suc n)
shown_two (seen.Frames count) n h = ap Some h
shown_two _ n h = absurd (omega arith)

-- two words, one after the other
pub two_words : (xs : List Frame) (d e : Frame) → length xs ≡ 2 → map packed_word xs ≡ packed_word (slice_index_or xs 0 d) ∷ packed_word (slice_index_or xs 1 e) ∷ []
two_words [] d e h = absurd (omega arith)
two_words (x ∷ []) d e h = absurd (omega arith)
two_words (x ∷ y ∷ []) d e h = refl
two_words (x ∷ y ∷ z ∷ xs) d e h = absurd (omega arith)
