-- The looks of a turn at a command block are those that are due by what the block tells.
use Rattle.std.proofs.Common.{◌≡◌, ℕ, zero, suc, ◌+◌, ◌-◌, ◌≤◌, ◌==◌, Bool, true, false, true≢false, if◌then◌else◌, is_some, List, [], ◌∷◌, ◌++◌, take, drop, length, Option, Some, None, refl, sym, ap, ◌∙◌, subst, arith, append-nil, eqb-true}
use Rattle.af_one_turn_run.proofs.Common.{CommandLook, HasWords, LegalLooks, Listed, LooksBy, MatchBool, MatchOption, Seen, ServerEvent, TrackKept, TrackPoint, all_command_events, are_due, as_slot, command_events, did, drops_of, front_of, fronts_by, goes_on, kept, lawful_front, length-drop, length-take, look_at, look_events, shows_command, slice_index_or, takes_command, words_taken}
use Rattle.af_base.specs.declared.event.ServerEvent.TheVariants as server
use Rattle.af_base.specs.declared.seen.Seen.TheVariants as seen
use Rattle.af_life.specs.Obeys.{after_look}
use Rattle.af_one_turn_run.proofs.Seeing.{after_servers, ServerSees}
use Rattle.af_one_turn_run.proofs.Taking.{taken_by, HasFrames}
use Rattle.af_one_turn_run.proofs.LegalFronts.{server_parts}
use Rattle.af_one_turn_run.proofs.OneLook.{Look, look_of, looked, looks_by, look_so, events_told}
use Rattle.af_one_turn_run.proofs.TakenWords.{frames_after, taken_parts}

-- ## Lists in two parts

pub same_parts : (xs us ys vs : List ℕ) → length xs ≡ length us → xs ++ ys ≡ us ++ vs → (xs ≡ us) × (ys ≡ vs)
same_parts [] [] ys vs n e = (refl, e)
same_parts [] (u ∷ us) ys vs n e = absurd (let z : ⊥ = omega (arith, n) in z)
same_parts (x ∷ xs) [] ys vs n e = absurd (let z : ⊥ = omega (arith, n) in z)
same_parts (x ∷ xs) (u ∷ us) ys vs n e =
    let first : x ≡ u = ap (λ l. slice_index_or l 0 0) e in
    let r = same_parts xs us ys vs (omega (arith, n)) (ap (drop 1) e) in
    ((λ i. first i ∷ r.0 i), r.1)

-- ## One look

-- the front by which a look answers
abbrev pub front_at : Listed → CommandLook → ℕ
front_at s look = lawful_front 2 s (as_slot look)

-- the events of a look at a command block
abbrev pub events_at : Listed → CommandLook → List ServerEvent
events_at s look = command_events s look (front_at s look)

-- the words that a look took
abbrev words_of : CommandLook → List ℕ
words_of look = if shows_command look.seen then look.code ∷ look.argument ∷ [] else []

shows_no_drop : (v : Seen) (front : ℕ) → shows_command v ≡ true → drops_of v front ≡ []
shows_no_drop seen.Absent front is = refl
shows_no_drop (seen.Frames count) front is = refl
shows_no_drop seen.Empty front is = refl
shows_no_drop (seen.Flushed dropped) front is = absurd (true≢false (sym is))
shows_no_drop (seen.Shut front rear) f is = refl

module _ (frames : List ℕ) (base : ℕ) where
  drops_none : (v : Seen) (front : ℕ) (p : TrackPoint) → taken_by frames base p (drops_of v front ++ []) ≡ []
  drops_none seen.Absent front p = refl
  drops_none (seen.Frames count) front p = refl
  drops_none seen.Empty front p = refl
  drops_none (seen.Flushed dropped) front p = refl
  drops_none (seen.Shut front rear) f p = refl

  -- the frames of a command at a point
  abbrev command_words : TrackPoint → List ℕ
  command_words p = take 2 (drop (p.consumed - base) frames)

  -- what the events of a look take, if they see what is there
  abbrev Takes : Listed → TrackPoint → CommandLook → Type 0
  Takes s p look = (taken_by frames base p (events_at s look) ≡ (if shows_command look.seen then command_words p else [])) × (shows_command look.seen ≡ true → length (command_words p) ≡ 2)

  two_long : (p : TrackPoint) → HasFrames frames base p → p.consumed + 2 ≤ p.released → length (command_words p) ≡ 2
  two_long p there few =
      let t = length-take 2 (drop (p.consumed - base) frames) in
      let d = length-drop (p.consumed - base) frames in
      let w = there.within in
      let c = there.places.consumed in
      t ∙ omega (arith, d, w, c, few)

  takes : (s : Listed) (p : TrackPoint) (n : ℕ) (look : CommandLook) → HasFrames frames base p → LooksBy 2 s (as_slot look) (front_at s look) → ServerSees p n (events_at s look) → Takes s p look
  takes s p n look there looks sees = by_shut (kept s).shut (shows_command look.seen) refl looks.1 sees
    where
      by_shut : (o : Option (ℕ × ℕ)) (b : Bool) → shows_command look.seen ≡ b
          → MatchOption o (look.seen ≡ look_at s.shape (kept s).flush 2 look.flush look.rear (front_at s look)) (λ words. (look.seen ≡ seen.Shut words.0 words.1) × (look.flush ≡ (kept s).flush) × (look.rear ≡ words.1))
          → ServerSees p n ((if is_some o then [] else look_events look.seen look.flush look.rear (front_at s look)) ++ (if b then server.Take 2 ∷ [] else []))
          → (taken_by frames base p ((if is_some o then [] else look_events look.seen look.flush look.rear (front_at s look)) ++ (if b then server.Take 2 ∷ [] else [])) ≡ (if b then command_words p else [])) × (b ≡ true → length (command_words p) ≡ 2)
      by_shut None false is h sees = (drops_none look.seen (front_at s look) _, λ e. absurd (true≢false (sym e)))
      by_shut None true is h sees =
          let none = shows_no_drop look.seen (front_at s look) is in
          let events : List ServerEvent → List ServerEvent = λ drops. server.SawFlush look.flush ∷ server.SawRear look.rear ∷ server.SawFront (front_at s look) ∷ drops ++ server.Take 2 ∷ [] in
          let saw : ServerSees p n (events []) = subst (λ drops. ServerSees p n (events drops)) none sees in
          (ap (λ drops. taken_by frames base p (events drops)) none ∙ append-nil (command_words p), λ e. two_long p there saw.1.1.1.0)
      by_shut (Some words) false is h sees = (refl, λ e. absurd (true≢false (sym e)))
      by_shut (Some words) true is h sees = absurd (true≢false (sym is ∙ ap shows_command h.0))

  -- ## The look that is told

  -- the command look by the words of a look, and by the frames taken if it shows a command
  abbrev command_by : Look → Bool → List ℕ → CommandLook
  command_by l shows words = record { flush = l.flush; rear = l.rear; seen = l.seen; code = if shows then slice_index_or words 0 0 else 0; argument = if shows then slice_index_or words 1 0 else 0 }

  abbrev command_at : Listed → TrackPoint → CommandLook
  command_at s p = command_by (looked 2 s p) (shows_command (looked 2 s p).seen) (command_words p)

  with_words : (look : CommandLook) (words : List ℕ) → HasWords look → words_of look ≡ (if shows_command look.seen then words else []) → look ≡ command_by (look_of (as_slot look)) (shows_command look.seen) words
  with_words look words has is = by_shows (shows_command look.seen) has is
    where
      by_shows : (b : Bool) → MatchBool b (Unit {0}) ((look.code ≡ 0) × (look.argument ≡ 0)) → (if b then look.code ∷ look.argument ∷ [] else []) ≡ (if b then words else []) → look ≡ command_by (look_of (as_slot look)) b words
      by_shows true has is = λ i. let l : CommandLook = record { flush = look.flush; rear = look.rear; seen = look.seen; code = slice_index_or (is i) 0 0; argument = slice_index_or (is i) 1 0 } in l
      by_shows false has is = λ i. let l : CommandLook = record { flush = look.flush; rear = look.rear; seen = look.seen; code = has.0 i; argument = has.1 i } in l

  -- the looks that a turn tells at a point: legal, with these events and these words
  pub record AreTold (s : Listed) (p : TrackPoint) (n : ℕ) (looks : List CommandLook) : Type 0 where
    pub legal : LegalLooks s looks (fronts_by lawful_front s looks)
    pub sees : ServerSees p n (all_command_events s looks (fronts_by lawful_front s looks))
    pub words : words_taken looks ≡ taken_by frames base p (all_command_events s looks (fronts_by lawful_front s looks))

  -- the first look is told, and those after it
  record FirstTold (s : Listed) (p : TrackPoint) (n : ℕ) (look : CommandLook) (looks : List CommandLook) : Type 0 where
    is : look ≡ command_at s p
    rest : AreTold (did s (events_at s look)) (after_servers p (events_at s look)) n looks

  first_told : (s : Listed) (p : TrackPoint) (n : ℕ) (look : CommandLook) (looks : List CommandLook) → HasFrames frames base p → AreTold s p n (look ∷ looks) → FirstTold s p n look looks
  first_told s p n look looks there told =
      let events = events_at s look in
      let t = did s events in
      let later = all_command_events t looks (fronts_by lawful_front t looks) in
      let saw = server_parts p n events later told.sees in
      let h = takes s p n look there told.legal.0 saw.0 in
      let words : words_of look ++ words_taken looks ≡ (if shows_command look.seen then command_words p else []) ++ taken_by frames base (after_servers p events) later =
      told.words ∙ taken_parts frames base p events later ∙ ap (λ (ws : List ℕ). ws ++ taken_by frames base (after_servers p events) later) h.0 in
      let same = same_parts (words_of look) (if shows_command look.seen then command_words p else []) (words_taken looks) (taken_by frames base (after_servers p events) later) (same_long (shows_command look.seen) look h.1) words in
      let is_look = look_so 2 s (as_slot look) p n told.legal.0 (server_parts p n (looks_by s (as_slot look) (front_at s look)) (takes_command look) saw.0).0 in
      record {
        is = with_words look (command_words p) told.legal.1 same.0 ∙ (λ i. command_by (is_look i) (shows_command (is_look i).seen) (command_words p));
        rest = record { legal = told.legal.2; sees = saw.1; words = same.1 };
      }
    where
      same_long : (b : Bool) (look : CommandLook) → (b ≡ true → length (command_words p) ≡ 2) → length (if b then look.code ∷ look.argument ∷ [] else []) ≡ length (if b then command_words p else [])
      same_long true look long = sym (long refl)
      same_long false look long = refl

  -- ## All looks

  none_due : (left : ℕ) (given : Option ℕ) (flush_seen : ℕ) (look : CommandLook) (looks : List CommandLook) (s : TrackKept) → are_due left given flush_seen [] s ≡ true → are_due left given flush_seen (look ∷ looks) s ≡ true → ⊥
  none_due zero given flush_seen look looks s none some = true≢false (sym some)
  none_due (suc left) given flush_seen look looks s none some = true≢false (sym none)

  no_more : (looks : List CommandLook) → (length looks == 0) ≡ true → looks ≡ []
  no_more [] is = refl
  no_more (look ∷ looks) is = absurd (let z : ⊥ = (let e = eqb-true (length (look ∷ looks)) 0 is in omega (arith, e)) in z)

  -- the looks that are due are those that are told
  pub one_looks : (left : ℕ) (given : Option ℕ) (flush_seen : ℕ) (life : TrackKept) (s : Listed) (p : TrackPoint) (n : ℕ) (looks others : List CommandLook) → HasFrames frames base p
      → are_due left given flush_seen looks life ≡ true → AreTold s p n looks → are_due left given flush_seen others life ≡ true → AreTold s p n others → looks ≡ others
  one_looks left given flush_seen life s p n [] [] there due told due_others told_others = refl
  one_looks left given flush_seen life s p n [] (b ∷ others) there due told due_others told_others = absurd (none_due left given flush_seen b others life due due_others)
  one_looks left given flush_seen life s p n (a ∷ looks) [] there due told due_others told_others = absurd (none_due left given flush_seen a looks life due_others due)
  one_looks zero given flush_seen life s p n (a ∷ looks) (b ∷ others) there due told due_others told_others = absurd (true≢false (sym due))
  one_looks (suc left) given flush_seen life s p n (a ∷ looks) (b ∷ others) there due told due_others told_others =
      let first = first_told s p n a looks there told in
      let first_other = first_told s p n b others there told_others in
      let same : b ≡ a = first_other.is ∙ sym first.is in
      let t = after_look given flush_seen a life in
      let more = one_looks left given flush_seen t (did s (events_at s a)) (after_servers p (events_at s a)) n looks others (frames_after frames base p (events_at s a) there) in
      let rest : looks ≡ others = by_more (goes_on a t) t due (subst (λ c. (if goes_on c (after_look given flush_seen c life) then are_due left given flush_seen others (after_look given flush_seen c life) else length others == 0) ≡ true) same due_others)
      (λ d d_others. more d first.rest d_others (subst (λ c. AreTold (did s (events_at s c)) (after_servers p (events_at s c)) n others) same first_other.rest)) in
      (λ i. a ∷ rest i) ∙ ap (λ c. c ∷ others) (sym same)
    where
      by_more : (goes : Bool) (t : TrackKept) → (if goes then are_due left given flush_seen looks t else length looks == 0) ≡ true → (if goes then are_due left given flush_seen others t else length others == 0) ≡ true
          → (are_due left given flush_seen looks t ≡ true → are_due left given flush_seen others t ≡ true → looks ≡ others) → looks ≡ others
      by_more true t due due_others more = more due due_others
      by_more false t due due_others more = no_more looks due ∙ sym (no_more others due_others)

-- the events that a run tells of legal looks are those by the fronts by which they answer
pub all_told : (s : Listed) (looks : List CommandLook) → LegalLooks s looks (fronts_by lawful_front s looks) → all_command_events s looks (fronts_by front_of s looks) ≡ all_command_events s looks (fronts_by lawful_front s looks)
all_told s [] legal = refl
all_told s (look ∷ looks) legal =
    let f = front_of 2 s (as_slot look) in
    let same : command_events s look f ≡ events_at s look = ap (λ (es : List ServerEvent). es ++ takes_command look) (events_told 2 s (as_slot look) legal.0) in
    ap (λ (es : List ServerEvent). es ++ all_command_events (did s es) looks (fronts_by front_of (did s es) looks)) same
    ∙ ap (λ (es : List ServerEvent). events_at s look ++ es) (all_told (did s (events_at s look)) looks legal.2)
