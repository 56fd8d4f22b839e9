-- One look more at a command block.
use Rattle.std.proofs.Common.{◌≡◌, ℕ, sym, ap, ◌∙◌, subst, List, [], ◌∷◌, ◌++◌, append_assoc, append-nil}
use Rattle.af_life.proofs.Common.{CommandLook, Listed, LooksBy}
use Rattle.af_base.specs.declared.event.ServerEvent.{ServerEvent}
use Rattle.af_life.specs.Looks.{as_slot, command_events, did, all_command_events, HasWords, LegalLooks}

-- the server after all events of some looks
abbrev pub after_events : Listed → List CommandLook → List ℕ → Listed
after_events s looks fronts = did s (all_command_events s looks fronts)

did-none : (s : Listed) → did s [] ≡ s
did-none s = ap (λ (es : List ServerEvent). record s { events = es }) (append-nil s.events)

did-more : (s : Listed) (a b : List ServerEvent) → did (did s a) b ≡ did s (a ++ b)
did-more s a b = ap (λ (es : List ServerEvent). record s { events = es }) (append_assoc s.events a b)

-- it is legal by the list that the looks before it left
pub legal-push : (s : Listed) (looks : List CommandLook) (fronts : List ℕ) (look : CommandLook) (front : ℕ) → LegalLooks s looks fronts
    → LooksBy 2 (after_events s looks fronts) (as_slot look) front → HasWords look → LegalLooks s (looks ++ look ∷ []) (fronts ++ front ∷ [])
legal-push s [] [] look front h by words = (subst (λ (x : Listed). LooksBy 2 x (as_slot look) front) (did-none s) by, words, tt)
legal-push s [] (f ∷ fronts) look front h by words = absurd h
legal-push s (l ∷ looks) [] look front h by words = absurd h
legal-push s (l ∷ looks) (f ∷ fronts) look front h by words =
    let events : List ServerEvent = command_events s l f in
    (h.0, h.1, legal-push (did s events) looks fronts look front h.2 (subst (λ (x : Listed). LooksBy 2 x (as_slot look) front) (sym (did-more s events (all_command_events (did s events) looks fronts))) by) words)

-- and its events follow theirs
pub events-push : (s : Listed) (looks : List CommandLook) (fronts : List ℕ) (look : CommandLook) (front : ℕ) → LegalLooks s looks fronts
    → all_command_events s (looks ++ look ∷ []) (fronts ++ front ∷ []) ≡ all_command_events s looks fronts ++ command_events (after_events s looks fronts) look front
events-push s [] [] look front h = append-nil (command_events s look front) ∙ ap (λ (x : Listed). command_events x look front) (sym (did-none s))
events-push s [] (f ∷ fronts) look front h = absurd h
events-push s (l ∷ looks) [] look front h = absurd h
events-push s (l ∷ looks) (f ∷ fronts) look front h =
    let events : List ServerEvent = command_events s l f in
    let more : List ServerEvent = all_command_events (did s events) looks fronts in
    ap (λ (es : List ServerEvent). events ++ es) (events-push (did s events) looks fronts look front h.2)
    ∙ ap (λ (x : Listed). events ++ (more ++ command_events x look front)) (did-more s events more)
    ∙ sym (append_assoc events more (command_events (did s (events ++ more)) look front))
