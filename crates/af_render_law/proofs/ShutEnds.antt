-- A track that a turn finds shut has ended after its part of the turn.
use Rattle.std.proofs.Common.{◌≡◌, ℕ, zero, suc, ◌==◌, ◌&&◌, ◌||◌, not, Bool, true, false, true≢false, MatchBool, if◌then◌else◌, is_some, List, [], ◌∷◌, length, Option, refl, sym, ap, ◌∙◌, arith, eqb-true}
use Rattle.af_render_law.proofs.Common.{CommandLook, Heard, IsServed, TrackKept, TrackSeen, after_commands, after_look, after_looks, after_part, are_due, by_report, ended, goes_on, grew_report, is_found_shut, is_shut, list_any, most_looks, no, report_ends, shows_command}
use Rattle.af_runs.proofs.Basics.{shut_shows}

ends_by : (command shut : Bool) (obeyed s : TrackKept) → command ≡ false → shut ≡ true → (if command then obeyed else if shut then ended s else s).life.ended ≡ true
ends_by true shut obeyed s f g = absurd (true≢false f)
ends_by false true obeyed s f g = refl
ends_by false false obeyed s f g = no g

-- no look comes after the last one
none_left : (looks : List CommandLook) → (length looks == 0) ≡ true → list_any (λ (look : CommandLook). is_shut look.seen) looks ≡ true → ⊥
none_left [] last any = no any
none_left (look ∷ looks) last any = let z : suc (length looks) ≡ 0 = eqb-true (suc (length looks)) 0 last in omega arith

module _ (given : Option ℕ) (flush_seen : ℕ) where
  look_ends : (look : CommandLook) (s : TrackKept) → is_shut look.seen ≡ true → (after_look given flush_seen look s).life.ended ≡ true
  unfolding after_look
  look_ends look s shut = ends_by (shows_command look.seen) (is_shut look.seen) _ s (shut_shows look.seen shut) shut

  -- if one of so many looks finds the block shut, the life has ended after them
  abbrev Ends : ℕ → List CommandLook → TrackKept → Type 0
  Ends n looks s = are_due n given flush_seen looks s ≡ true → list_any (λ (look : CommandLook). is_shut look.seen) looks ≡ true → (after_looks given flush_seen looks s).life.ended ≡ true

  looks_end : (n : ℕ) (looks : List CommandLook) (s : TrackKept) → Ends n looks s
  looks_end n [] s due any = no any
  looks_end zero (look ∷ looks) s due any = no due
  looks_end (suc n) (look ∷ looks) s due any = by_shut (is_shut look.seen) refl any (looks_end n looks (after_look given flush_seen look s))
    where
      t : TrackKept
      t = after_look given flush_seen look s

      stops : (b : Bool) → b ≡ false → is_shut look.seen ≡ true → (if b then after_looks given flush_seen looks t else t).life.ended ≡ true
      stops true on shut = absurd (true≢false on)
      stops false on shut = look_ends look s shut

      later : (b : Bool) → (if b then are_due n given flush_seen looks t else length looks == 0) ≡ true → list_any (λ (look : CommandLook). is_shut look.seen) looks ≡ true → Ends n looks t → (if b then after_looks given flush_seen looks t else t).life.ended ≡ true
      later true due any rest = rest due any
      later false due any rest = absurd (none_left looks due any)

      by_shut : (b : Bool) → is_shut look.seen ≡ b → (b || list_any (λ (look : CommandLook). is_shut look.seen) looks) ≡ true → Ends n looks t → (if goes_on look t then after_looks given flush_seen looks t else t).life.ended ≡ true
      by_shut true is any rest = stops (goes_on look t) (ap (λ b. b && not (is_some t.awaits)) (shut_shows look.seen is)) is
      by_shut false is any rest = later (goes_on look t) due any rest

pub found_ends : (given : Option ℕ) (h : Heard) (seen : TrackSeen) (s : TrackKept) → IsServed given h seen s → is_found_shut h seen.looks ≡ true → (after_part given h seen.looks s).life.ended ≡ true
unfolding after_part
found_ends given h seen s served found = by_known h.known.shut refl found
  where
    looked : (b : Bool) → MatchBool b (seen.looks ≡ []) (are_due most_looks given h.flush_seen seen.looks s ≡ true) → list_any (λ (look : CommandLook). is_shut look.seen) seen.looks ≡ true
        → (if b then s else after_looks given h.flush_seen seen.looks s).life.ended ≡ true
    looked true none any = no (sym (ap (list_any (λ (look : CommandLook). is_shut look.seen)) none) ∙ any)
    looked false due any = looks_end given h.flush_seen most_looks seen.looks s due any

    by_known : (b : Bool) → h.known.shut ≡ b → (b || list_any (λ (look : CommandLook). is_shut look.seen) seen.looks) ≡ true → (by_report h.known (after_commands given h seen.looks s).life).ended ≡ true
    by_known true is found = report_ends h.known (after_commands given h seen.looks s).life is
    by_known false is found = (grew_report h.known (after_commands given h seen.looks s).life).ended (looked (is_some s.awaits) served.looks found)
