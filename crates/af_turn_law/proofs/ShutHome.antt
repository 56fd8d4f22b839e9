-- A track that a turn finds shut has ended after its part of the turn, so that a stream proxy that was home then is home after the turn.
use Rattle.std.proofs.Common.{◌≡◌, inl, inr, ℕ, zero, suc, ◌≤◌, ◌<◌, ◌==◌, ◌&&◌, ◌||◌, not, Bool, true, false, true≢false, MatchBool, if◌then◌else◌, is_some, fold, List, [], ◌∷◌, length, Option, refl, sym, ap, ◌∙◌, subst, arith, eqb-true}
use Rattle.af_turn_law.proofs.Common.{CommandLook, HasDueLooks, Home, IsServed, Learnt, LegalTrack, Lent, NormalKept, Returning, Seen, Setup, Sound, TakeSeen, TrackKept, TrackSeen, Turn, acked_len, after_ack, after_commands, after_edits, after_look, after_looks, after_part, after_push, after_take, after_takes, after_tracks, are_due, asked, at_other, at_set, both_first, by_report, cases_eq, cases_lt, look_counted, edited, edited_to, ended, get_or-set_at, get_or_past, goes_on, goes_served, grew_report, heard, is_found_shut, is_home, is_lent, is_shut, lend, let_go, list_any, must_enter, must_leave, mutated, new_track, no, nothing_seen, obeyed, ordered, push_tracks, ready, report_ends, seen_at, served, served_len, served_to, shows_command, slice_set, slot_for, sound_acked, sound_served, track_at, track_in, tracks_at, turn_after, turn_len}
use Rattle.af_base.specs.declared.seen.Seen.TheVariants as seen
use Rattle.af_life.specs.declared.kept.Heard.{Heard}
use Rattle.af_life.specs.declared.kept.Holder.{Holder}

-- ## The life has ended

abbrev shut_in : List CommandLook → Bool
shut_in looks = list_any (λ look. is_shut look.seen) looks

left_of : (a b : Bool) → (a || b) ≡ true → b ≡ false → a ≡ true
left_of true b h none = refl
left_of false b h none = absurd (true≢false (sym h ∙ none))

right_of : (a b : Bool) → (a || b) ≡ true → a ≡ false → b ≡ true
right_of true b h none = absurd (true≢false none)
right_of false b h none = h

-- a look that shows a command doesn't show the block shut
not_shut : (sight : Seen) → shows_command sight ≡ true → is_shut sight ≡ false
not_shut (seen.Shut front rear) h = no h
not_shut sight h = refl

none_shut : (looks : List CommandLook) → length looks ≡ 0 → shut_in looks ≡ false
none_shut [] none = refl
none_shut (look ∷ looks) none = absurd (let z : ⊥ = omega (arith, none) in z)

module _ (given : Option ℕ) (flush_seen : ℕ) where
  look_ends : (look : CommandLook) (s : TrackKept) → is_shut look.seen ≡ true → (after_look given flush_seen look s).life.ended ≡ true
  unfolding after_look
  look_ends look s is = by_sight look.seen is
    where
      by_sight : (sight : Seen) → is_shut sight ≡ true → (if shows_command sight then obeyed given flush_seen look.code look.argument s else if is_shut sight then ended s else s).life.ended ≡ true
      by_sight (seen.Shut front rear) is = refl
      by_sight sight is = no is

  -- the looks that are due end with the one that finds the block shut
  looks_end : (n : ℕ) (looks : List CommandLook) (s : TrackKept) → are_due n given flush_seen looks s ≡ true → shut_in looks ≡ true → (after_looks given flush_seen looks s).life.ended ≡ true
  looks_end n [] s due shut = no shut
  looks_end zero (look ∷ looks) s due shut = no due
  looks_end (suc n) (look ∷ looks) s due shut = by_goes (goes_on look next) refl due (looks_end n looks next)
    where
      next : TrackKept
      next = after_look given flush_seen look s

      by_goes : (b : Bool) → goes_on look next ≡ b → (if b then are_due n given flush_seen looks next else length looks == 0) ≡ true
          → (are_due n given flush_seen looks next ≡ true → shut_in looks ≡ true → (after_looks given flush_seen looks next).life.ended ≡ true)
          → (if b then after_looks given flush_seen looks next else next).life.ended ≡ true
      by_goes true goes due more = more due (right_of (is_shut look.seen) (shut_in looks) shut (not_shut look.seen (both_first (shows_command look.seen) _ goes)))
      by_goes false stops due more = look_ends look s (left_of (is_shut look.seen) (shut_in looks) shut (none_shut looks (eqb-true (length looks) 0 due)))

part_ends : (given : Option ℕ) (h : Heard) (looks : List CommandLook) (s : TrackKept) → is_found_shut h looks ≡ true → HasDueLooks given h.flush_seen looks s → (after_part given h looks s).life.ended ≡ true
unfolding after_part
part_ends given h looks s found due = by_shut h.known.shut refl found
  where
    by_awaits : (b : Bool) → MatchBool b (looks ≡ []) (are_due 64 given h.flush_seen looks s ≡ true) → shut_in looks ≡ true → (if b then s else after_looks given h.flush_seen looks s).life.ended ≡ true
    by_awaits true none shut = no (sym (ap shut_in none) ∙ shut)
    by_awaits false due shut = looks_end given h.flush_seen 64 looks s due shut

    by_shut : (b : Bool) → h.known.shut ≡ b → (b || shut_in looks) ≡ true → (by_report h.known (after_commands given h looks s).life).ended ≡ true
    by_shut true is found = report_ends h.known (after_commands given h looks s).life is
    by_shut false is found = (grew_report h.known (after_commands given h looks s).life).ended (by_awaits (is_some s.awaits) due found)

-- a track is found shut that had not ended
abbrev pub is_shut_now : Learnt → TrackSeen → List TrackKept → ℕ → Bool
is_shut_now k seen tracks i = not (track_at tracks i).life.ended && is_found_shut (heard k i (track_at tracks i)) seen.looks

served_ends : (c : Setup) (k : Learnt) (seen : TrackSeen) (tracks : List TrackKept) (i : ℕ) → LegalTrack c k seen tracks i → is_shut_now k seen tracks i ≡ true → (served c k seen.looks tracks i).life.ended ≡ true
unfolding served
served_ends c k seen tracks i legal found = by_life (track_at tracks i).life.ended refl legal found
  where
    s : TrackKept
    s = track_at tracks i

    given : Option ℕ
    given = slot_for c tracks i

    by_life : (b : Bool) → s.life.ended ≡ b → MatchBool b (seen ≡ nothing_seen) (IsServed given (heard k i s) seen (ready k i s)) → (not b && is_found_shut (heard k i s) seen.looks) ≡ true
        → (if b then s else after_part given (heard k i s) seen.looks (ready k i s)).life.ended ≡ true
    by_life true is legal found = is
    by_life false is legal found = part_ends given (heard k i s) seen.looks (ready k i s) found legal.looks

-- ## The proxy is home

abbrev IsDone : TrackKept → Type 0
IsDone s = (is_home s.holder ≡ true) × (s.life.ended ≡ true)

never_leaves : (s : TrackKept) → IsDone s → must_leave s ≡ false
never_leaves s done = by_holder s.holder _ done.0
  where
    by_holder : (h : Holder) (b : Bool) → is_home h ≡ true → (is_lent h && b) ≡ false
    by_holder Home b is = refl
    by_holder Lent b is = no is
    by_holder Returning b is = no is

never_enters : (s : TrackKept) → IsDone s → must_enter s ≡ false
never_enters s done = by_flags (is_home s.holder) (is_some s.slot) s.life.member s.life.ended done.1
  where
    by_flags : (a b m e : Bool) → e ≡ true → (a && (b && (m && not e))) ≡ false
    by_flags true true true true is = refl
    by_flags true true true false is = no is
    by_flags true true false e is = refl
    by_flags true false m e is = refl
    by_flags false b m e is = refl

module _ (c : Setup) (k : Learnt) (i : ℕ) where
  either_done : (b : Bool) (m n : NormalKept) → (b ≡ true → IsDone (track_at m.tracks i)) → IsDone (track_at n.tracks i) → IsDone (track_at (if b then m else n).tracks i)
  either_done true m n f g = f refl
  either_done false m n f g = g

  -- a track is done with also once another track is replaced
  other_done : (P : TrackKept → Bool) (tracks : List TrackKept) (n : ℕ) (s : TrackKept) → P (track_at tracks i) ≡ false → P (track_at tracks n) ≡ true → IsDone (track_at tracks i) → IsDone (track_at (slice_set tracks n s) i)
  other_done P tracks n s off on done = subst IsDone (sym (at_other tracks n s i (λ same. true≢false (sym on ∙ ap (λ j. P (track_at tracks j)) (sym same) ∙ off)))) done

  edit_done : (n : ℕ) (m : NormalKept) → IsDone (track_at m.tracks i) → IsDone (track_at (edited c k n m).tracks i)
  unfolding edited let_go lend
  edit_done n m done =
      either_done (must_leave (track_at m.tracks n)) (let_go n m) _ (λ is. other_done must_leave m.tracks n _ (never_leaves (track_at m.tracks i) done) is done)
      (either_done (must_enter (track_at m.tracks n)) (lend c n (k.own n) m) m (λ is. other_done must_enter m.tracks n _ (never_enters (track_at m.tracks i) done) is done) done)

  edits_done : (n : ℕ) (m : NormalKept) → IsDone (track_at m.tracks i) → IsDone (track_at (edited_to c k m n).tracks i)
  edits_done zero m done = done
  edits_done (suc n) m done = edit_done n (edited_to c k m n) (edits_done n m done)

  mutated_done : (room : ℕ) (m : NormalKept) → IsDone (track_at m.tracks i) → IsDone (track_at (mutated c k room m).tracks i)
  unfolding mutated ordered
  mutated_done room m done =
      let edits : NormalKept = edited_to c k m (length m.tracks) in
      let so = edits_done (length m.tracks) m done in
      either_done _ edits _ (λ is. so) so

  takes_done : (takes : List TakeSeen) (tracks : List TrackKept) → IsDone (track_at tracks i) → IsDone (track_at (fold (after_take (asked c)) tracks takes) i)
  takes_done [] tracks done = done
  takes_done (take ∷ takes) tracks done =
      let s : TrackKept = track_at tracks take.track in
      takes_done takes (after_take (asked c) tracks take)
      (elim (at_set tracks take.track (record s { own = look_counted (asked c) take.slot.seen s.own }) i) [
        | inl (here, is) ↦ subst IsDone (sym is) (subst (λ j. IsDone (track_at tracks j)) here done)
        | inr same ↦ subst IsDone (sym same) done
      ])

  -- a track once served stays as it is while the others are served
  served_done : (seen : List TrackSeen) (tracks : List TrackKept) (n : ℕ) → i < n → n ≤ length tracks → IsDone (served c k (seen_at seen i).looks (served_to c k seen tracks i) i) → IsDone (track_at (served_to c k seen tracks n) i)
  served_done seen tracks zero low few done = absurd (let z : ⊥ = omega (arith, low) in z)
  served_done seen tracks (suc n) low few done =
      let now = served_to c k seen tracks n in
      let next = served c k (seen_at seen n).looks now n in
      elim (cases_eq i n) [
        | inl same ↦ (let long = served_len c k seen tracks n in
            subst IsDone (sym (get_or-set_at now n i next new_track same (omega (arith, few, long)))) (subst (λ j. IsDone (served c k (seen_at seen j).looks (served_to c k seen tracks j) j)) same done))
        | inr other ↦ subst IsDone (sym (at_other now n next i other)) (served_done seen tracks n (omega (arith, low, other)) (omega (arith, few)) done)
      ]

-- the stream proxy of a track that is found shut is home after the turn if it was home before its part of it
pub shut_home : (c : Setup) (k : Learnt) (m : NormalKept) (e : Turn) (i : ℕ) → Sound m → e.ended ≡ false → (i < length m.tracks → LegalTrack c k (track_in e i) (tracks_at c k m e i) i) → is_home (track_at (tracks_at c k m e i) i).holder ≡ true
    → is_shut_now k (track_in e i) (tracks_at c k m e i) i ≡ true → is_home (track_at (turn_after c k m e).tracks i).holder ≡ true
unfolding turn_after
shut_home c k m e i sound runs legal home found = elim (cases_lt i (length m.tracks)) [
  | inl low ↦ (by_end e.ended runs low).0
  | inr high ↦ (let long = turn_len c k m e in ap (λ (s : TrackKept). is_home s.holder) (get_or_past (turn_after c k m e).tracks i new_track (omega (arith, high, long))))
]
  where
    acked : NormalKept
    acked = after_ack e.ack m

    part : i < length m.tracks → IsDone (served c k (track_in e i).looks (tracks_at c k m e i) i)
    part low = (
      ap is_home (goes_served c k (track_in e i).looks (tracks_at c k m e i) i ((sound_served c k e.tracks acked.draft acked.tracks i (sound_acked e.ack m sound)).slotted i).unopened).holder ∙ home,
      served_ends c k (track_in e i) (tracks_at c k m e i) i (legal low) found,
    )

    edits : NormalKept
    edits = after_edits c k e m

    goes : i < length m.tracks → IsDone (track_at (fold (after_take (asked c)) (after_push e.push edits).tracks e.mixes) i)
    goes low =
        let long = acked_len e.ack m in
        takes_done c k i e.mixes (after_push e.push edits).tracks (subst (λ ts. IsDone (track_at ts i)) (sym (push_tracks e.push edits))
        (mutated_done c k i e.room (after_tracks c k e acked) (served_done c k i e.tracks acked.tracks (length acked.tracks) (omega (arith, low, long)) (omega arith) (part low))))

    by_end : (b : Bool) → b ≡ false → i < length m.tracks → IsDone (track_at (let x : NormalKept = if b then record m { ended = true } else after_takes c e.mixes (after_push e.push edits) in x.tracks) i)
    by_end true is low = absurd (true≢false is)
    by_end false is low = goes low
