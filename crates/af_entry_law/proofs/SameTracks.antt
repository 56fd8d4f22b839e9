-- What a turn makes of its tracks, by what entries tell.
use Rattle.std.proofs.Common.{◌≡◌, ℕ, zero, suc, ◌+◌, ◌<◌, Bool, true, false, true≢false, if◌then◌else◌, is_some, MatchBool, List, [], Option, Some, None, refl, sym, ap, subst, ◌∙◌, arith}
use Rattle.af_entry_law.proofs.Common.{CommandLook, HasDueLooks, IsServed, Learnt, LegalTrack, Setup, TrackKept, TrackSeen, after_commands, after_looks, after_part, are_due, by_report, counts_in, heard, is_found_shut, is_home, is_reached, is_reported, is_shut, list_any, most_looks, no, no_counts, noted, nothing_seen, ready, seen_at, served, served_to, settled_at, slot_for, slot_reported, state_code, status_due, status_word, stored_over, track_at}
use Rattle.af_base.specs.declared.report.SlotReport.{SlotReport}
use Rattle.af_life.specs.declared.kept.Heard.{Heard}
use Rattle.af_entry_law.specs.Told.{life_told, track_told}
use Rattle.af_entry_law.proofs.SameCommands.{looks_same, shut_ends}
use Rattle.af_entry_law.proofs.SameReports.{reports_same, state_code_small, stored_tells, word_tells}
use Rattle.af_entry_law.proofs.ToldLists.{same_at, same_set, same_slot, tracks_told}
use Rattle.std.specs.Prelude.{◌%◌}

-- ## What was heard

noted_told : (r : SlotReport) (s : TrackKept) → track_told (noted r s) ≡ track_told s
unfolding noted
noted_told r s = by_case (is_home s.holder) (is_reported r s)
  where
    by_case : (b d : Bool) → track_told (if b then record s { own = no_counts } else if d then record s { reported = counts_in r } else s) ≡ track_told s
    by_case true d = refl
    by_case false true = refl
    by_case false false = refl

reached_some : (f : ℕ) (o : Option ℕ) → is_reached f o ≡ true → is_some o ≡ true
reached_some f None e = no e
reached_some f (Some count) e = refl

-- looks that wait for a START are none, and else there is one
module _ (given : Option ℕ) (f g : ℕ) (looks : List CommandLook) where
  one_at_least : (n : ℕ) (s : TrackKept) → looks ≡ [] → are_due (suc n) given f looks s ≡ true → ⊥
  one_at_least n s none due = true≢false (sym (sym (ap (λ (l : List CommandLook). are_due (suc n) given f l s) none) ∙ due))

module _ (given : Option ℕ) (f g : ℕ) (looks : List CommandLook) (a b : TrackKept) (same : track_told a ≡ track_told b) where
  abbrev settles : Bool → TrackKept → TrackKept
  settles p s = if p then record s { awaits = None; settled = s.settled + 1 } else s

  settled_same : HasDueLooks given f looks (settled_at f a) → HasDueLooks given g looks (settled_at g b) → track_told (settled_at f a) ≡ track_told (settled_at g b)
  unfolding settled_at
  settled_same = by_case (is_reached f a.awaits) (is_reached g b.awaits) refl refl
    where
      by_case : (p q : Bool) → is_reached f a.awaits ≡ p → is_reached g b.awaits ≡ q → HasDueLooks given f looks (settles p a) → HasDueLooks given g looks (settles q b) → track_told (settles p a) ≡ track_told (settles q b)
      by_case true true e e' due due' = λ j. record (same j) { awaits = None; settled = (same j).settled + 1 }
      by_case false false e e' due due' = same
      by_case true false e e' due due' = absurd (
          let waits : is_some b.awaits ≡ true = ap (λ (s : TrackKept). is_some s.awaits) (sym same) ∙ reached_some f a.awaits e in
          let none : looks ≡ [] = subst (λ (w : Bool). MatchBool w (looks ≡ []) (are_due most_looks given g looks b ≡ true)) waits due' in
          one_at_least given f g looks 63 (settles true a) none due
          )
      by_case false true e e' due due' = absurd (
          let waits : is_some a.awaits ≡ true = ap (λ (s : TrackKept). is_some s.awaits) same ∙ reached_some g b.awaits e' in
          let none : looks ≡ [] = subst (λ (w : Bool). MatchBool w (looks ≡ []) (are_due most_looks given f looks a ≡ true)) waits due in
          one_at_least given g f looks 63 (settles true b) none due'
          )

-- ## One track

-- what is told of a track that is ready for its commands
module _ (given : Option ℕ) (h k : Heard) (seen : TrackSeen) (a b : TrackKept) (same : track_told a ≡ track_told b) (is : IsServed given h seen a) (is' : IsServed given k seen b) where
  abbrev looks : List CommandLook
  looks = seen.looks

  words : status_due given h looks a ≡ status_due given k looks b
  words = stored_tells a.status (status_due given h looks a) (status_due given k looks b)
      (sym is.status ∙ is'.status ∙ ap (λ (s : TrackKept). stored_over s.status (status_due given k looks b)) (sym same))

  abbrev x : TrackKept
  x = after_commands given h looks a

  abbrev y : TrackKept
  y = after_commands given k looks b

  tells : (state_code (is_found_shut h looks) (by_report h.known x.life) ≡ state_code (is_found_shut k looks) (by_report k.known y.life)) × ((x.settled % 16777216) ≡ (y.settled % 16777216))
  unfolding status_word
  tells = word_tells (state_code (is_found_shut h looks) (by_report h.known x.life)) (state_code (is_found_shut k looks) (by_report k.known y.life)) (by_report h.known x.life).drained (by_report k.known y.life).drained (x.settled % 16777216) (y.settled % 16777216)
      (state_code_small (is_found_shut h looks) (by_report h.known x.life)) (state_code_small (is_found_shut k looks) (by_report k.known y.life)) words

  commanded_same : track_told x ≡ track_told y
  commanded_same = by_waits (is_some a.awaits) (is_some b.awaits) (ap (λ (s : TrackKept). is_some s.awaits) same) is.looks is'.looks tells.1
    where
      by_waits : (p q : Bool) → p ≡ q → MatchBool p (looks ≡ []) (are_due most_looks given h.flush_seen looks a ≡ true) → MatchBool q (looks ≡ []) (are_due most_looks given k.flush_seen looks b ≡ true)
          → ((if p then a else after_looks given h.flush_seen looks a).settled % 16777216) ≡ ((if q then b else after_looks given k.flush_seen looks b).settled % 16777216)
          → track_told (if p then a else after_looks given h.flush_seen looks a) ≡ track_told (if q then b else after_looks given k.flush_seen looks b)
      by_waits true true e due due' count = same
      by_waits false false e due due' count = looks_same given h.flush_seen k.flush_seen most_looks looks a b same due due' count
      by_waits true false e due due' count = no (sym e)
      by_waits false true e due due' count = no e

  -- a look that found the command block shut ended the track
  over : list_any (λ (look : CommandLook). is_shut look.seen) looks ≡ true → x.life.ended ≡ true
  over shut = by_waits (is_some a.awaits) is.looks
    where
      by_waits : (p : Bool) → MatchBool p (looks ≡ []) (are_due most_looks given h.flush_seen looks a ≡ true) → (if p then a else after_looks given h.flush_seen looks a).life.ended ≡ true
      by_waits true none = no (sym (ap (λ (l : List CommandLook). list_any (λ (look : CommandLook). is_shut look.seen) l) none) ∙ shut)
      by_waits false due = shut_ends given h.flush_seen most_looks looks a due shut

  reported_same : life_told (by_report h.known x.life) ≡ life_told (by_report k.known y.life)
  reported_same = reports_same h.known k.known (list_any (λ (look : CommandLook). is_shut look.seen) looks) x.life y.life (ap (λ (s : TrackKept). s.life) commanded_same) over tells.0 (sym is.disabled ∙ is'.disabled)

  pub part_same : track_told (after_part given h looks a) ≡ track_told (after_part given k looks b)
  unfolding after_part
  part_same = λ j. record (commanded_same j) { life = reported_same j; status = words j }

-- ## All tracks

module _ (c : Setup) (k l : Learnt) where
  -- what is told of the track of a number
  module _ (seen : TrackSeen) (ts us : List TrackKept) (same : tracks_told ts ≡ tracks_told us) (i : ℕ) where
    abbrev s : TrackKept
    s = track_at ts i

    abbrev t : TrackKept
    t = track_at us i

    at : track_told s ≡ track_told t
    at = same_at ts us same i

    noted_same : track_told (noted (slot_reported k s) s) ≡ track_told (noted (slot_reported l t) t)
    noted_same = noted_told (slot_reported k s) s ∙ at ∙ sym (noted_told (slot_reported l t) t)

    by_part : IsServed (slot_for c ts i) (heard k i s) seen (ready k i s) → IsServed (slot_for c us i) (heard l i t) seen (ready l i t)
        → track_told (after_part (slot_for c ts i) (heard k i s) seen.looks (ready k i s)) ≡ track_told (after_part (slot_for c us i) (heard l i t) seen.looks (ready l i t))
    by_part is there =
        let given : Option ℕ = slot_for c us i in
        let one : slot_for c ts i ≡ given = same_slot ts us same c i in
        let here : IsServed given (heard k i s) seen (ready k i s) = subst (λ (o : Option ℕ). IsServed o (heard k i s) seen (ready k i s)) one is in
        let ready_same : track_told (ready k i s) ≡ track_told (ready l i t) =
        settled_same given (heard k i s).flush_seen (heard l i t).flush_seen seen.looks (noted (slot_reported k s) s) (noted (slot_reported l t) t) noted_same here.looks there.looks in
        ap (λ (o : Option ℕ). track_told (after_part o (heard k i s) seen.looks (ready k i s))) one
        ∙ part_same given (heard k i s) (heard l i t) seen (ready k i s) (ready l i t) ready_same here there

    served_same : LegalTrack c k seen ts i → LegalTrack c l seen us i → track_told (served c k seen.looks ts i) ≡ track_told (served c l seen.looks us i)
    unfolding served
    served_same = by_end s.life.ended t.life.ended (ap (λ (x : TrackKept). x.life.ended) at)
      where
        by_end : (p q : Bool) → p ≡ q → MatchBool p (seen ≡ nothing_seen) (IsServed (slot_for c ts i) (heard k i s) seen (ready k i s)) → MatchBool q (seen ≡ nothing_seen) (IsServed (slot_for c us i) (heard l i t) seen (ready l i t))
            → track_told (if p then s else after_part (slot_for c ts i) (heard k i s) seen.looks (ready k i s)) ≡ track_told (if q then t else after_part (slot_for c us i) (heard l i t) seen.looks (ready l i t))
        by_end true true e is there = at
        by_end false false e is there = by_part is there
        by_end true false e is there = no (sym e)
        by_end false true e is there = no e

  -- the same is told of all tracks once the first ones were served
  pub all_served_same : (seen : List TrackSeen) (ts us : List TrackKept) → tracks_told ts ≡ tracks_told us → (n : ℕ)
      → ((i : ℕ) → i < n → LegalTrack c k (seen_at seen i) (served_to c k seen ts i) i) → ((i : ℕ) → i < n → LegalTrack c l (seen_at seen i) (served_to c l seen us i) i)
      → tracks_told (served_to c k seen ts n) ≡ tracks_told (served_to c l seen us n)
  all_served_same seen ts us same zero legal legal' = same
  all_served_same seen ts us same (suc n) legal legal' =
      let before : tracks_told (served_to c k seen ts n) ≡ tracks_told (served_to c l seen us n) = all_served_same seen ts us same n (λ i lt. legal i (omega (arith, lt))) (λ i lt. legal' i (omega (arith, lt))) in
      same_set (served_to c k seen ts n) (served_to c l seen us n) before n _ _
      (served_same (seen_at seen n) (served_to c k seen ts n) (served_to c l seen us n) before n (legal n (omega arith)) (legal' n (omega arith)))
