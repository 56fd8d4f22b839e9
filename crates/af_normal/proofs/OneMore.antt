-- One look more.
use Rattle.std.proofs.Common.{◌≡◌, ℕ, suc, ◌+◌, ◌-◌, ◌<◌, Bool, true, false, true≢false, if◌then◌else◌, sym, refl, ap, ◌∙◌, subst, List, [], ◌∷◌, ◌++◌, append_assoc, append-nil, length, Option, arith}
use Rattle.af_normal.proofs.Common.{CommandLook, Listed, LooksBy, ServerEvent, ServerState, Shape, TrackKept, after_all, after_look, after_looks, after_looks-go, all_command_events, all_go_on, are_due, are_due-go, as_slot, command_events, goes_on, listed, shows_command, words_taken}
use Rattle.af_life.proofs.LooksMade.{after_events, legal-push, events-push}
use Rattle.af_normal.specs.Commands.{LooksOnce, LooksMade}

words-push : (looks : List CommandLook) (look : CommandLook) → words_taken (looks ++ look ∷ []) ≡ words_taken looks ++ words_taken (look ∷ [])
words-push [] look = refl
words-push (l ∷ looks) look = ap (λ (ws : List ℕ). (if shows_command l.seen then l.code ∷ l.argument ∷ [] else []) ++ ws) (words-push looks look)
    ∙ sym (append_assoc (if shows_command l.seen then l.code ∷ l.argument ∷ [] else []) (words_taken looks) (words_taken (look ∷ [])))

pub begin_made : (s : ServerState) → LooksMade s [] s
begin_made s = record { fronts = []; legal = tt; list = sym (append-nil s.pass.part.events); took = sym (append-nil s.pass.part.frames); shape = refl; hand = refl }

pub push_made : (s t u : ServerState) (looks : List CommandLook) (look : CommandLook) → LooksMade s looks t → LooksOnce t look u → LooksMade s (looks ++ look ∷ []) u
push_made s t u looks look m o =
    let before : Listed = after_events (listed s) looks m.fronts in
    let events : List ServerEvent = all_command_events (listed s) looks m.fronts in
    let shaped : listed t ≡ record (listed s) { events = t.pass.part.events } = ap (λ (x : Shape). record { shape = x; events = t.pass.part.events }) m.shape in
    let here : listed t ≡ before = shaped ∙ ap (λ (es : List ServerEvent). record (listed s) { events = es }) m.list in
    record {
      fronts = m.fronts ++ o.front ∷ [];
      legal = legal-push (listed s) looks m.fronts look o.front m.legal (subst (λ (x : Listed). LooksBy 2 x (as_slot look) o.front) here o.looks) o.words;
      list = o.list ∙ ap (λ (es : List ServerEvent). es ++ command_events (listed t) look o.front) m.list
          ∙ append_assoc s.pass.part.events events (command_events (listed t) look o.front)
          ∙ ap (λ (x : Listed). s.pass.part.events ++ (events ++ command_events x look o.front)) here
          ∙ ap (λ (es : List ServerEvent). s.pass.part.events ++ es) (sym (events-push (listed s) looks m.fronts look o.front m.legal));
      took = o.took ∙ ap (λ (ws : List ℕ). ws ++ words_taken (look ∷ [])) m.took ∙ append_assoc s.pass.part.frames (words_taken looks) (words_taken (look ∷ []))
          ∙ ap (λ (ws : List ℕ). s.pass.part.frames ++ ws) (sym (words-push looks look));
      shape = o.shape ∙ m.shape;
      hand = o.hand ∙ m.hand;
    }

module _ (given : Option ℕ) (flush_seen : ℕ) where
  either_same : {A : Type 0} (b : Bool) (x : A) → (if b then x else x) ≡ x
  either_same true x = refl
  either_same false x = refl

  -- the looks with one look more, whether it goes on or not
  pub one_more : (s : TrackKept) (looks : List CommandLook) (look : CommandLook) → all_go_on given flush_seen looks s ≡ true
      → after_looks given flush_seen (looks ++ look ∷ []) s ≡ after_look given flush_seen look (after_all given flush_seen s looks)
  one_more s looks look h = after_looks-go given flush_seen looks (look ∷ []) s h ∙ either_same (goes_on look (after_look given flush_seen look (after_all given flush_seen s looks))) _

  or_true : (b c : Bool) → b ≡ false → (if b then c else true) ≡ true
  or_true true c e = absurd (true≢false e)
  or_true false c e = refl

  -- the look that ends them is due
  pub last_due : (s : TrackKept) (looks : List CommandLook) (look : CommandLook) (n : ℕ) → all_go_on given flush_seen looks s ≡ true → length looks < n
      → goes_on look (after_look given flush_seen look (after_all given flush_seen s looks)) ≡ false → are_due n given flush_seen (looks ++ look ∷ []) s ≡ true
  last_due s looks look n h few stops = let k : ℕ = n - suc (length looks) in let is : n ≡ length looks + suc k = omega arith in
      ap (λ (x : ℕ). are_due x given flush_seen (looks ++ look ∷ []) s) is ∙ are_due-go given flush_seen (suc k) looks (look ∷ []) s h
      ∙ or_true (goes_on look (after_look given flush_seen look (after_all given flush_seen s looks))) _ stops

  -- as many looks as may be made are due
  pub all_due : (s : TrackKept) (looks : List CommandLook) → all_go_on given flush_seen looks s ≡ true → are_due (length looks) given flush_seen looks s ≡ true
  all_due s looks h = let is : length looks ≡ length looks + 0 = omega arith in
      ap (λ (x : ℕ). are_due x given flush_seen looks s) is ∙ ap (λ (xs : List CommandLook). are_due (length looks + 0) given flush_seen xs s) (sym (append-nil looks)) ∙ are_due-go given flush_seen 0 looks [] s h

  pub all_after : (s : TrackKept) (looks : List CommandLook) → all_go_on given flush_seen looks s ≡ true → after_looks given flush_seen looks s ≡ after_all given flush_seen s looks
  all_after s looks h = ap (λ (xs : List CommandLook). after_looks given flush_seen xs s) (sym (append-nil looks)) ∙ after_looks-go given flush_seen looks [] s h
