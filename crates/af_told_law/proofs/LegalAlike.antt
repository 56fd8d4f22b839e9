-- A turn that is legal by one outside is legal by one that is alike, and each end's list grows by the same.
use Rattle.std.proofs.Common.{◌≡◌, ◌⊎◌, inl, inr, ℕ, ◌<◌, ◌&&◌, not, Bool, true, false, if◌then◌else◌, is_some, List, [], ◌∷◌, ◌++◌, length, Option, Some, None, refl, sym, ap, ◌∙◌, subst}
use Rattle.af_told_law.proofs.Common.{AllByRecursion, CommandLook, GoesOn, Heard, IsServed, IsSound, LegalLooks, LegalPush, LegalTake, LegalTrack, LegalTurn, Listed, LooksBy, MatchBool, MatchOption, NormalKept, Outside, ServerEvent, Setup, SlotEntry, TakeSeen, TrackKept, Turn, after_ack, after_edits, events_behind_look, all_command_events, as_slot, asked, command_events, command_list, cycle_events, did, flat_map, going, invalid, is_found_shut, is_home, kept, learnt, look_at, look_events, mix_events, mutator_list, nothing_seen, number_seen, push_list, status_events, stream_list, takes_command, takes_from, track_at, track_in, tracks_at, tracks_due}
use Rattle.af_base.specs.declared.event.ServerEvent.TheVariants as server
use Rattle.af_base.specs.declared.seen.Seen.TheVariants as seen
use Rattle.af_life.specs.Obeys.{slot_for}
use Rattle.af_model.specs.declared.states.MutatorEvent.TheVariants as mutator
use Rattle.af_told_law.proofs.Outsides.{AnswerAlike, AreAlike, LearnAlike, SameFront, SameFronts}
use Rattle.af_told_law.proofs.TakenHome.{each_take}
use Rattle.af_told_law.proofs.TurnAlike.{after_edits_same, heard_then_same, learn_alike, ready_then_same, tracks_same}

-- ## One look

module _ (s : Listed) (f g : ℕ) (same : SameFront s f g) where
  -- a look answers by the one front as by the other
  pub looks_same : (asked : ℕ) (slot : SlotEntry) → LooksBy asked s slot f → LooksBy asked s slot g
  looks_same asked slot looks = (looks.0, by_shut (kept s).shut same looks.1)
    where
      by_shut : (o : Option (ℕ × ℕ)) → (is_some o ≡ false → f ≡ g) → MatchOption o (slot.seen ≡ look_at s.shape (kept s).flush asked slot.flush slot.rear f) (λ words. (slot.seen ≡ seen.Shut words.0 words.1) × (slot.flush ≡ (kept s).flush) × (slot.rear ≡ words.1))
          → MatchOption o (slot.seen ≡ look_at s.shape (kept s).flush asked slot.flush slot.rear g) (λ words. (slot.seen ≡ seen.Shut words.0 words.1) × (slot.flush ≡ (kept s).flush) × (slot.rear ≡ words.1))
      by_shut None same answers = answers ∙ ap (look_at s.shape (kept s).flush asked slot.flush slot.rear) (same refl)
      by_shut (Some words) same answers = answers

  events_same : (more : List ServerEvent) (es : ℕ → List ServerEvent) → (if is_some (kept s).shut then more else es f) ≡ (if is_some (kept s).shut then more else es g)
  events_same more es = by_shut (is_some (kept s).shut) same
    where
      by_shut : (b : Bool) → (b ≡ false → f ≡ g) → (if b then more else es f) ≡ (if b then more else es g)
      by_shut true same = refl
      by_shut false same = ap es (same refl)

  -- the events of a look are the same by either front
  pub cycle_same : (asked : ℕ) (slot : SlotEntry) → cycle_events asked s slot f ≡ cycle_events asked s slot g
  cycle_same asked slot = ap (λ (es : List ServerEvent). server.SawGain slot.gains ∷ es ++ events_behind_look asked (is_some (kept s).shut) slot.seen) (events_same [] (look_events slot.seen slot.flush slot.rear))

  pub command_same : (look : CommandLook) → command_events s look f ≡ command_events s look g
  command_same look = ap (λ (es : List ServerEvent). es ++ takes_command look) (events_same [] (look_events look.seen look.flush look.rear))

-- ## The looks at a command block

pub all_looks_same : (s : Listed) (looks : List CommandLook) (fs gs : List ℕ) → SameFronts s looks fs gs → LegalLooks s looks fs → LegalLooks s looks gs
all_looks_same s [] [] [] same legal = tt
all_looks_same s [] [] (g ∷ gs) same legal = elim same [ ]
all_looks_same s [] (f ∷ fs) gs same legal = elim same [ ]
all_looks_same s (look ∷ looks) [] gs same legal = elim same [ ]
all_looks_same s (look ∷ looks) (f ∷ fs) [] same legal = elim same [ ]
all_looks_same s (look ∷ looks) (f ∷ fs) (g ∷ gs) same legal = (
  looks_same s f g same.0 2 (as_slot look) legal.0,
  legal.1,
  subst (λ (es : List ServerEvent). LegalLooks (did s es) looks gs) (command_same s f g same.0 look) (all_looks_same (did s (command_events s look f)) looks fs gs same.1 legal.2),
)

pub all_events_same : (s : Listed) (looks : List CommandLook) (fs gs : List ℕ) → SameFronts s looks fs gs → all_command_events s looks fs ≡ all_command_events s looks gs
all_events_same s [] [] [] same = refl
all_events_same s [] [] (g ∷ gs) same = elim same [ ]
all_events_same s [] (f ∷ fs) gs same = elim same [ ]
all_events_same s (look ∷ looks) [] gs same = elim same [ ]
all_events_same s (look ∷ looks) (f ∷ fs) [] same = elim same [ ]
all_events_same s (look ∷ looks) (f ∷ fs) (g ∷ gs) same =
    ap (λ (es : List ServerEvent). command_events s look f ++ es) (all_events_same (did s (command_events s look f)) looks fs gs same.1)
    ∙ (λ j. command_same s f g same.0 look j ++ all_command_events (did s (command_same s f g same.0 look j)) looks gs)

-- ## The turn

module _ (c : Setup) (m : NormalKept) (e : Turn) (o p : Outside) (sound : IsSound m.tracks m.draft) (alike : AreAlike m e o p) where
  abbrev learns : LearnAlike (after_ack e.ack m).tracks (learnt o) (learnt p)
  learns = learn_alike m e o p alike

  -- what the entry holds of a track is legal
  track_alike : (i : ℕ) → i < length m.tracks → LegalTrack c (learnt o) (track_in e i) (tracks_at c (learnt o) m e i) i → LegalTrack c (learnt p) (track_in e i) (tracks_at c (learnt p) m e i) i
  track_alike i low legal =
      subst (λ (x : List TrackKept × Heard × TrackKept). MatchBool (track_at x.0 i).life.ended (track_in e i ≡ nothing_seen) (IsServed (slot_for c x.0 i) x.1 (track_in e i) x.2))
      (λ j. (tracks_same c (learnt o) (learnt p) m e sound learns i j, heard_then_same c (learnt o) (learnt p) m e sound learns i low j, ready_then_same c (learnt o) (learnt p) m e sound learns i low j)) legal

  -- each take is legal
  takes_alike : (takes : List TakeSeen) → AllByRecursion (λ (take : TakeSeen). (slot : SlotEntry) → LooksBy (asked c) (o.streams take.track) slot (o.stream_front take.track) → LooksBy (asked c) (p.streams take.track) slot (p.stream_front take.track)) takes
      → AllByRecursion (LegalTake c o) takes → AllByRecursion (LegalTake c p) takes
  takes_alike [] same legal = tt
  takes_alike (take ∷ takes) same legal = (record { looks = same.0 take.slot legal.0.looks; frames = legal.0.frames; place = legal.0.place }, takes_alike takes same.1 legal.1)

  -- the turn is legal
  pub legal_alike : AnswerAlike c m e o p → LegalTurn c o m e → LegalTurn c p m e
  legal_alike answer legal = record { ends = legal.ends; still = legal.still; goes_on = (λ runs. goes (legal.goes_on runs)) }
    where
      edits : after_edits c (learnt o) e m ≡ after_edits c (learnt p) e m
      edits = after_edits_same c (learnt o) (learnt p) m e sound learns

      goes : GoesOn c o m e → GoesOn c p m e
      goes g = record {
        ack = g.ack;
        report = g.report ∙ alike.report.cycle;
        room = g.room;
        whole = g.whole;
        tracks = (λ i low. track_alike i low (g.tracks i low));
        looks = (λ i low. answer.looks i low (g.looks i low));
        push = subst (λ (n : NormalKept). LegalPush n e.push) edits g.push;
        due = g.due ∙ ap (λ (n : NormalKept). tracks_due c e.room n.tracks) edits;
        takes = takes_alike e.mixes (each_take (λ i. (slot : SlotEntry) → LooksBy (asked c) (o.streams i) slot (o.stream_front i) → LooksBy (asked c) (p.streams i) slot (p.stream_front i)) e.mixes answer.takes) g.takes;
      }

  -- ## The lists

  pub invalid_same : (i : ℕ) → i < length m.tracks → invalid (learnt o) (track_in e i) (tracks_at c (learnt o) m e i) i ≡ invalid (learnt p) (track_in e i) (tracks_at c (learnt p) m e i) i
  invalid_same i low = λ j. if not (track_at (tracks_same c (learnt o) (learnt p) m e sound learns i j) i).life.ended && is_found_shut (heard_then_same c (learnt o) (learnt p) m e sound learns i low j) (track_in e i).looks then server.SetFlags 4 ∷ [] else []

  -- the list of a stream from which nothing was taken, or whose list and front are the same
  pub stream_list_same : (i : ℕ) → i < length m.tracks → (takes_from e.mixes i ≡ []) ⊎ ((o.streams i ≡ p.streams i) × SameFront (o.streams i) (o.stream_front i) (p.stream_front i))
      → stream_list c o e (tracks_at c (learnt o) m e i) i ≡ stream_list c p e (tracks_at c (learnt p) m e i) i
  stream_list_same i low taken = by_end e.ended refl
    where
      mixes : mix_events c o e.mixes i ≡ mix_events c p e.mixes i
      mixes = elim taken as (λ _. mix_events c o e.mixes i ≡ mix_events c p e.mixes i) [
        | inl none ↦ ap (flat_map (λ (take : TakeSeen). cycle_events (asked c) (o.streams i) take.slot (o.stream_front i))) none ∙ sym (ap (flat_map (λ (take : TakeSeen). cycle_events (asked c) (p.streams i) take.slot (p.stream_front i))) none)
        | inr same ↦ each (takes_from e.mixes i) same.0 same.1
      ]
        where
          each : (takes : List TakeSeen) → o.streams i ≡ p.streams i → SameFront (o.streams i) (o.stream_front i) (p.stream_front i)
              → flat_map (λ (take : TakeSeen). cycle_events (asked c) (o.streams i) take.slot (o.stream_front i)) takes ≡ flat_map (λ (take : TakeSeen). cycle_events (asked c) (p.streams i) take.slot (p.stream_front i)) takes
          each [] list front = refl
          each (take ∷ takes) list front =
              let one : cycle_events (asked c) (o.streams i) take.slot (o.stream_front i) ≡ cycle_events (asked c) (p.streams i) take.slot (p.stream_front i) =
              cycle_same (o.streams i) (o.stream_front i) (p.stream_front i) front (asked c) take.slot ∙ ap (λ (s : Listed). cycle_events (asked c) s take.slot (p.stream_front i)) list in
              (λ j. one j ++ each takes list front j)

      by_end : (b : Bool) → e.ended ≡ b
          → (if b then [] else ((if is_home (track_at (tracks_at c (learnt o) m e i) i).holder then invalid (learnt o) (track_in e i) (tracks_at c (learnt o) m e i) i else []) ++ mix_events c o e.mixes i))
          ≡ (if b then [] else ((if is_home (track_at (tracks_at c (learnt p) m e i) i).holder then invalid (learnt p) (track_in e i) (tracks_at c (learnt p) m e i) i else []) ++ mix_events c p e.mixes i))
      by_end true is = refl
      by_end false is = λ j. (if is_home (track_at (tracks_same c (learnt o) (learnt p) m e sound learns i j) i).holder then invalid_same i low j else []) ++ mixes j

  -- the list of a command block whose list and fronts are the same
  pub command_list_same : (i : ℕ) → i < length m.tracks → o.commands i ≡ p.commands i → SameFronts (o.commands i) (track_in e i).looks (o.command_fronts i) (p.command_fronts i) → command_list c o e (tracks_at c (learnt o) m e i) i ≡ command_list c p e (tracks_at c (learnt p) m e i) i
  command_list_same i low list fronts =
      let looks : all_command_events (o.commands i) (track_in e i).looks (o.command_fronts i) ≡ all_command_events (p.commands i) (track_in e i).looks (p.command_fronts i) =
      all_events_same (o.commands i) (track_in e i).looks (o.command_fronts i) (p.command_fronts i) fronts ∙ ap (λ (s : Listed). all_command_events s (track_in e i).looks (p.command_fronts i)) list in
      (λ j. going e (looks j ++ invalid_same i low j ++ status_events (track_in e i).status))

-- the list of the mutator
pub mutator_list_same : {P : Type 0} (c : Setup) (m : NormalKept) (e : Turn) (o p : Outside) → IsSound m.tracks m.draft → AreAlike m e o p → (back again sent : List (Option P)) → mutator_list c (learnt o) m e back again sent ≡ mutator_list c (learnt p) m e back again sent
mutator_list_same c m e o p sound alike back again sent =
    let edits : after_edits c (learnt o) e m ≡ after_edits c (learnt p) e m = after_edits_same c (learnt o) (learnt p) m e sound (learn_alike m e o p alike) in
    (λ j. if m.ended then [] else mutator.SawAck (number_seen m e.ack) back ∷ going e (push_list (edits j) e.push again sent))
