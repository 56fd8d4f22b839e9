-- A track that isn't there yet or has a slot, and hasn't ended after a turn: it was so before the turn, which neither found it shut nor mixed it.
use Rattle.std.proofs.Common.{◌≡◌, ◌⊎◌, inl, inr, ℕ, zero, suc, ◌<◌, ◌≤◌, ◌==◌, ◌&&◌, not, nat_le, Bool, true, false, true≢false, MatchBool, if◌then◌else◌, is_some, fold, map, List, [], ◌∷◌, length, All, Option, refl, sym, ap, ◌∙◌, subst, arith, eqb-true}
use Rattle.af_render_law.proofs.Common.{All-head, All-nil, All-tail, FastState, IsServed, Learnt, LegalTrack, Life, NormalKept, Setup, TakeSeen, TrackKept, TrackSeen, Turn, after_ack, after_edits, after_part, after_push, after_take, after_takes, after_tracks, asked, cases_eq, comes_home, edited, edited_to, filter_passes, get_or-set_at, get_or-set_other, heard, invalid, is_absent, is_found_shut, is_mixed_here, lend, let_go, mixed_here, must_enter, must_leave, mutated, never_true, no, nothing_seen, ordered, plays, push_tracks, range_with_len, ready, seen_at, served, served_to, slice_set, takes_from, track_at, track_in, tracks_at, tracks_due, turn_after, welcomed}
use Rattle.af_base.specs.declared.event.ServerEvent.TheVariants as server
use Rattle.af_life.specs.declared.kept.Holder.TheVariants.{Home}
use Rattle.af_life.specs.Kept.{new_track}
use Rattle.af_life.specs.Obeys.{slot_for}
use Rattle.af_life.proofs.Lives.{acked_len, not_yet, served_len}
use Rattle.af_render_law.proofs.ShutEnds.{found_ends}
use Rattle.af_render_law.proofs.Unmixed.{IsOut, IsUnmixed, Unmixed, Moves, moves_served}

-- ## Lives and slots in the rest of the turn

abbrev kind : TrackKept → Life × Option ℕ
kind s = (s.life, s.slot)

abbrev kind_at : List TrackKept → ℕ → Life × Option ℕ
kind_at tracks i = kind (track_at tracks i)

either_kind : (b : Bool) (s t : TrackKept) → kind s ≡ kind t → kind (if b then s else t) ≡ kind t
either_kind true s t e = e
either_kind false s t e = refl

welcome_kinds : (last : FastState) (tracks : List TrackKept) (i : ℕ) → kind_at (map (welcomed last) tracks) i ≡ kind_at tracks i
unfolding welcomed
welcome_kinds last [] i = refl
welcome_kinds last (s ∷ tracks) zero = either_kind (comes_home last s) (record s { holder = Home }) s refl
welcome_kinds last (s ∷ tracks) (suc i) = welcome_kinds last tracks i

ack_kinds : (ack : Bool) (m : NormalKept) (i : ℕ) → kind_at (after_ack ack m).tracks i ≡ kind_at m.tracks i
ack_kinds true m i = welcome_kinds m.last m.tracks i
ack_kinds false m i = refl

set_kinds : (tracks : List TrackKept) (k : ℕ) (s : TrackKept) (i : ℕ) → kind s ≡ kind_at tracks k → kind_at (slice_set tracks k s) i ≡ kind_at tracks i
set_kinds [] k s i e = refl
set_kinds (x ∷ tracks) zero s zero e = e
set_kinds (x ∷ tracks) zero s (suc i) e = refl
set_kinds (x ∷ tracks) (suc k) s zero e = refl
set_kinds (x ∷ tracks) (suc k) s (suc i) e = set_kinds tracks k s i e

either_kinds : (b : Bool) (m n : NormalKept) (i : ℕ) (x : Life × Option ℕ) → kind_at m.tracks i ≡ x → kind_at n.tracks i ≡ x → kind_at (if b then m else n).tracks i ≡ x
either_kinds true m n i x e f = e
either_kinds false m n i x e f = f

edits_kinds : (c : Setup) (k : Learnt) (m : NormalKept) (n i : ℕ) → kind_at (edited_to c k m n).tracks i ≡ kind_at m.tracks i
unfolding edited let_go lend
edits_kinds c k m zero i = refl
edits_kinds c k m (suc n) i = let edits : NormalKept = edited_to c k m n in
    either_kinds (must_leave (track_at edits.tracks n)) (let_go n edits) _ i _ (set_kinds edits.tracks n _ i refl ∙ edits_kinds c k m n i)
    (either_kinds (must_enter (track_at edits.tracks n)) (lend c n (k.own n) edits) edits i _ (set_kinds edits.tracks n _ i refl ∙ edits_kinds c k m n i) (edits_kinds c k m n i))

mutation_kinds : (c : Setup) (k : Learnt) (room : ℕ) (m : NormalKept) (i : ℕ) → kind_at (mutated c k room m).tracks i ≡ kind_at m.tracks i
unfolding mutated ordered
mutation_kinds c k room m i = let edits : NormalKept = edited_to c k m (length m.tracks) in
    either_kinds _ edits _ i _ (edits_kinds c k m (length m.tracks) i) (edits_kinds c k m (length m.tracks) i)

takes_kinds : (many : ℕ) (takes : List TakeSeen) (tracks : List TrackKept) (i : ℕ) → kind_at (fold (after_take many) tracks takes) i ≡ kind_at tracks i
takes_kinds many [] tracks i = refl
takes_kinds many (take ∷ takes) tracks i = takes_kinds many takes (after_take many tracks take) i ∙ set_kinds tracks take.track _ i refl

-- a track that was served stays so
served_then : (c : Setup) (k : Learnt) (turns : List TrackSeen) (tracks : List TrackKept) (n i : ℕ) → i < n → n ≤ length tracks → track_at (served_to c k turns tracks n) i ≡ served c k (seen_at turns i).looks (served_to c k turns tracks i) i
served_then c k turns tracks zero i lt le = absurd (omega (arith, lt))
served_then c k turns tracks (suc n) i lt le = elim (cases_eq i n) as (λ x. track_at (slice_set (served_to c k turns tracks n) n (served c k (seen_at turns n).looks (served_to c k turns tracks n) n)) i ≡ served c k (seen_at turns i).looks (served_to c k turns tracks i) i) [
  | inl p ↦ get_or-set_at (served_to c k turns tracks n) n i (served c k (seen_at turns n).looks (served_to c k turns tracks n) n) new_track p (let l : length (served_to c k turns tracks n) ≡ length tracks = served_len c k turns tracks n in omega (arith, l, le))
      ∙ ap (λ (j : ℕ). served c k (seen_at turns j).looks (served_to c k turns tracks j) j) (sym p)
  | inr other ↦ get_or-set_other (served_to c k turns tracks n) n i (served c k (seen_at turns n).looks (served_to c k turns tracks n) n) new_track other ∙ served_then c k turns tracks n i (omega (arith, lt, other)) (omega (arith, le))
]

-- ## Who is mixed

due_hold : (c : Setup) (room : ℕ) (tracks : List TrackKept) → All (λ i. is_mixed_here (track_at tracks i) ≡ true) (tracks_due c room tracks)
due_hold c room tracks = by_room (nat_le (asked c) room)
  where
    by_room : (b : Bool) → All (λ i. is_mixed_here (track_at tracks i) ≡ true) (if b then mixed_here tracks else [])
    by_room true = filter_passes (λ i. is_mixed_here (track_at tracks i)) (range_with_len 0 (length tracks))
    by_room false = All-nil (λ i. is_mixed_here (track_at tracks i) ≡ true)

-- either nothing was taken from the track, or the test holds of it
taken_holds : (p : ℕ → Bool) (n : ℕ) (takes : List TakeSeen) → All (λ i. p i ≡ true) (map (λ (take : TakeSeen). take.track) takes) → (takes_from takes n ≡ []) ⊎ (p n ≡ true)
taken_holds p n [] h = inl refl
taken_holds p n (take ∷ takes) h =
    by_track (take.track == n) refl (taken_holds p n takes (All-tail (λ i. p i ≡ true) take.track (map (λ (take : TakeSeen). take.track) takes) h))
  where
    by_track : (b : Bool) → (take.track == n) ≡ b → (takes_from takes n ≡ []) ⊎ (p n ≡ true) → ((if b then take ∷ takes_from takes n else takes_from takes n) ≡ []) ⊎ (p n ≡ true)
    by_track true is rest = inr (subst (λ i. p i ≡ true) (eqb-true take.track n is) (All-head (λ i. p i ≡ true) take.track (map (λ (take : TakeSeen). take.track) takes) h))
    by_track false is rest = rest

not_mixed : (life : Life) (slot : Option ℕ) → IsUnmixed life slot → IsOut life → (not (is_some slot) && plays life) ≡ false
not_mixed life slot h out = by_case h.apart
  where
    no_member : (a b d : Bool) → b ≡ false → (not a && (b && d)) ≡ false
    no_member true b d e = refl
    no_member false true d e = absurd (true≢false e)
    no_member false false d e = refl

    has_slot : (a b : Bool) → a ≡ true → (not a && b) ≡ false
    has_slot true b e = refl
    has_slot false b e = no e

    by_case : (is_absent life ≡ true) ⊎ (is_some slot ≡ true) → (not (is_some slot) && plays life) ≡ false
    by_case (inl absent) = no_member (is_some slot) life.member (not life.ended) (out absent)
    by_case (inr some) = has_slot (is_some slot) (plays life) some

-- ## The turn

none_set : (a b : Bool) → b ≡ false → (if not a && b then server.SetFlags 4 ∷ [] else []) ≡ []
none_set true b e = refl
none_set false true e = absurd (true≢false e)
none_set false false e = refl

module _ (c : Setup) (k : Learnt) (m : NormalKept) (e : Turn) (n : ℕ) where
  abbrev tracks : List TrackKept
  tracks = tracks_at c k m e n

  -- the track as its part of the turn finds it, and as that leaves it
  abbrev found : TrackKept
  found = track_at tracks n

  abbrev part : TrackKept
  part = served c k (track_in e n).looks tracks n

  abbrev edits : NormalKept
  edits = after_edits c k e m

  abbrev after : TrackKept
  after = track_at (turn_after c k m e).tracks n

  found_kind : kind found ≡ kind_at m.tracks n
  found_kind = ap kind (not_yet c k e.tracks (after_ack e.ack m).tracks n n (omega arith)) ∙ ack_kinds e.ack m n

  moved : Moves found part
  moved = moves_served c k (track_in e n).looks tracks n

  part_out : IsOut (track_at m.tracks n).life → IsOut part.life
  part_out out = moved.out (subst (λ (x : Life × Option ℕ). IsOut x.0) (sym found_kind) out)

  part_unmixed : Unmixed part → Unmixed found
  part_unmixed h = record { lives = never_true found.life.ended (λ over. true≢false (sym (moved.life.ended over) ∙ h.lives)); apart = by_slot h.apart moved.slot }
    where
      by_slot : (is_absent part.life ≡ true) ⊎ (is_some part.slot ≡ true) → (part.slot ≡ found.slot) ⊎ (is_absent found.life ≡ true) → (is_absent found.life ≡ true) ⊎ (is_some found.slot ≡ true)
      by_slot (inl absent) x = inl (moved.life.absent absent)
      by_slot (inr some) (inl same) = inr (ap is_some (sym same) ∙ some)
      by_slot (inr some) (inr absent) = inl absent

  module _ (low : n < length m.tracks) where
    edits_kind : kind_at edits.tracks n ≡ kind part
    edits_kind = let acked : NormalKept = after_ack e.ack m in let l : length acked.tracks ≡ length m.tracks = acked_len e.ack m in
        mutation_kinds c k e.room (after_tracks c k e acked) n ∙ ap kind (served_then c k e.tracks acked.tracks (length acked.tracks) n (omega (arith, low, l)) (omega arith))

    after_kind : e.ended ≡ false → kind after ≡ kind part
    unfolding turn_after
    after_kind runs = by_end e.ended runs
      where
        by_end : (b : Bool) → b ≡ false → kind_at (let x : NormalKept = if b then record m { ended = true } else after_takes c e.mixes (after_push e.push edits) in x.tracks) n ≡ kind part
        by_end true is = absurd (true≢false is)
        by_end false is = takes_kinds (asked c) e.mixes (after_push e.push edits).tracks n ∙ ap (λ ts. kind_at ts n) (push_tracks e.push edits) ∙ edits_kind

    ended_kind : e.ended ≡ true → kind after ≡ kind_at m.tracks n
    unfolding turn_after
    ended_kind over = by_end e.ended over
      where
        by_end : (b : Bool) → b ≡ true → kind_at (let x : NormalKept = if b then record m { ended = true } else after_takes c e.mixes (after_push e.push edits) in x.tracks) n ≡ kind_at m.tracks n
        by_end true is = refl
        by_end false is = no is

    pub turn_out : IsOut (track_at m.tracks n).life → IsOut after.life
    turn_out out = by_end e.ended refl
      where
        by_end : (b : Bool) → e.ended ≡ b → IsOut after.life
        by_end true is = subst (λ (x : Life × Option ℕ). IsOut x.0) (sym (ended_kind is)) out
        by_end false is = subst (λ (x : Life × Option ℕ). IsOut x.0) (sym (after_kind is)) (part_out out)

    as_part : e.ended ≡ false → Unmixed after → Unmixed part
    as_part runs h = subst (λ (x : Life × Option ℕ). IsUnmixed x.0 x.1) (after_kind runs) h

    pub turn_unmixed : Unmixed after → Unmixed (track_at m.tracks n)
    turn_unmixed h = by_end e.ended refl
      where
        by_end : (b : Bool) → e.ended ≡ b → Unmixed (track_at m.tracks n)
        by_end true is = subst (λ (x : Life × Option ℕ). IsUnmixed x.0 x.1) (ended_kind is) h
        by_end false is = subst (λ (x : Life × Option ℕ). IsUnmixed x.0 x.1) found_kind (part_unmixed (as_part is h))

    part_is : found.life.ended ≡ false → part ≡ after_part (slot_for c tracks n) (heard k n found) (track_in e n).looks (ready k n found)
    unfolding served
    part_is lives = ap (λ (b : Bool). if b then found else after_part (slot_for c tracks n) (heard k n found) (track_in e n).looks (ready k n found)) lives

    -- a track that isn't there yet or has a slot wasn't found shut
    pub none_found : e.ended ≡ false → LegalTrack c k (track_in e n) tracks n → Unmixed after → invalid k (track_in e n) tracks n ≡ []
    none_found runs legal h =
        let u : Unmixed part = as_part runs h in
        let lives : found.life.ended ≡ false = (part_unmixed u).lives in
        let fine : IsServed (slot_for c tracks n) (heard k n found) (track_in e n) (ready k n found) =
        subst (λ (b : Bool). MatchBool b (track_in e n ≡ nothing_seen) (IsServed (slot_for c tracks n) (heard k n found) (track_in e n) (ready k n found))) lives legal in
        none_set found.life.ended (is_found_shut (heard k n found) (track_in e n).looks) (never_true (is_found_shut (heard k n found) (track_in e n).looks)
        (λ shut. true≢false (sym (found_ends (slot_for c tracks n) (heard k n found) (track_in e n) (ready k n found) fine shut) ∙ sym (ap (λ (s : TrackKept). s.life.ended) (part_is lives)) ∙ u.lives)))

    -- a track that isn't there yet or has a slot wasn't mixed
    pub none_taken : e.ended ≡ false → map (λ (take : TakeSeen). take.track) e.mixes ≡ tracks_due c e.room edits.tracks → IsOut (track_at m.tracks n).life → Unmixed after → takes_from e.mixes n ≡ []
    none_taken runs due out h = by_taken (taken_holds (λ i. is_mixed_here (track_at edits.tracks i)) n e.mixes (subst (All (λ i. is_mixed_here (track_at edits.tracks i) ≡ true)) (sym due) (due_hold c e.room edits.tracks)))
      where
        not_here : is_mixed_here (track_at edits.tracks n) ≡ false
        not_here = ap (λ (x : Life × Option ℕ). not (is_some x.1) && plays x.0) edits_kind ∙ not_mixed part.life part.slot (as_part runs h) (part_out out)

        by_taken : (takes_from e.mixes n ≡ []) ⊎ (is_mixed_here (track_at edits.tracks n) ≡ true) → takes_from e.mixes n ≡ []
        by_taken (inl none) = none
        by_taken (inr here) = no (sym not_here ∙ here)

  -- a track that is found shut hadn't ended before
  pub found_lives : (invalid k (track_in e n) tracks n ≡ []) ⊎ ((track_at m.tracks n).life.ended ≡ false)
  found_lives = by_end found.life.ended refl
    where
      by_end : (b : Bool) → found.life.ended ≡ b → (invalid k (track_in e n) tracks n ≡ []) ⊎ ((track_at m.tracks n).life.ended ≡ false)
      by_end true is = inl (ap (λ (b : Bool). if not b && is_found_shut (heard k n found) (track_in e n).looks then server.SetFlags 4 ∷ [] else []) is)
      by_end false is = inr (sym (ap (λ (x : Life × Option ℕ). x.0.ended) found_kind) ∙ is)
