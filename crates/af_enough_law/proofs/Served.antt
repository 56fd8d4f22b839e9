-- What a turn of the normal mixer makes of one track.
use Rattle.std.proofs.Common.{◌≡◌, ◌≢◌, inl, inr, ℕ, zero, suc, ◌<◌, ◌≤◌, ◌==◌, Bool, true, false, List, [], ◌∷◌, length, fold, refl, sym, ap, ◌∙◌, subst, arith, true≢false, if◌then◌else◌}
use Rattle.af_enough_law.proofs.Common.{CommandLook, Learnt, NormalKept, Returning, Setup, TakeSeen, TrackKept, TrackSeen, Turn, acked_len, after_ack, after_edits, after_push, after_take, after_takes, after_tracks, asked as buffer, at_here, at_other, by_test, cases_eq, look_counted, edited, edited_to, edits_len, entered, get_or-set_at, lend, length-set, lent_by, let_go, must_enter, must_leave, mutated, new_track, not_yet, ordered, push_tracks, seen_at, served, served_len, served_to, slice_set, track_at, track_in, tracks_at, turn_after, welcomed_at}
use Rattle.af_life.specs.Obeys.{slot_for}
use Rattle.af_enough_law.proofs.TrackTurns.{greeted, attended, Edited, stays, leaves, enters, own_after, TrackTurned}

-- ## The acknowledgement and the part of the track

pub greeted_at : (ack : Bool) (m : NormalKept) (i : ℕ) → track_at (after_ack ack m).tracks i ≡ greeted ack m.last (track_at m.tracks i)
greeted_at true m i = welcomed_at m.last m.tracks i
greeted_at false m i = refl

pub attended_at : (c : Setup) (k : Learnt) (looks : List CommandLook) (tracks : List TrackKept) (i : ℕ) → served c k looks tracks i ≡ attended (slot_for c tracks i) k i looks (track_at tracks i)
unfolding served
attended_at c k looks tracks i = refl

-- a track that is served stays as its part left it
then_on : (c : Setup) (k : Learnt) (turns : List TrackSeen) (tracks : List TrackKept) (n i : ℕ) → i < n → n ≤ length tracks
    → track_at (served_to c k turns tracks n) i ≡ served c k (seen_at turns i).looks (served_to c k turns tracks i) i
then_on c k turns tracks zero i lt le = absurd (omega arith)
then_on c k turns tracks (suc n) i lt le = elim (cases_eq i n) as (λ x. track_at (slice_set (served_to c k turns tracks n) n (served c k (seen_at turns n).looks (served_to c k turns tracks n) n)) i ≡ served c k (seen_at turns i).looks (served_to c k turns tracks i) i) [
  | inl p ↦ get_or-set_at (served_to c k turns tracks n) n i (served c k (seen_at turns n).looks (served_to c k turns tracks n) n) new_track p (let l : length (served_to c k turns tracks n) ≡ length tracks = served_len c k turns tracks n in omega arith)
      ∙ ap (λ (j : ℕ). served c k (seen_at turns j).looks (served_to c k turns tracks j) j) (sym p)
  | inr other ↦ at_other (served_to c k turns tracks n) n _ i other ∙ then_on c k turns tracks n i (omega arith) (omega arith)
]

-- ## The edits

-- what the edit of its own number makes of a track
edited_here : (c : Setup) (k : Learnt) (i : ℕ) (m : NormalKept) → i < length m.tracks → Edited (k.own i) (track_at m.tracks i) (track_at (edited c k i m).tracks i)
unfolding edited let_go lend
edited_here c k i m lt = let s : TrackKept = track_at m.tracks i in
    by_test (λ (n : NormalKept). Edited (k.own i) s (track_at n.tracks i)) (must_leave s) (let_go i m) _
    (λ e. subst (Edited (k.own i) s) (sym (at_here m.tracks i (record s { holder = Returning }) lt)) (leaves e))
    (λ e. by_test (λ (n : NormalKept). Edited (k.own i) s (track_at n.tracks i)) (must_enter s) (lend c i (k.own i) m) m
    (λ f. subst (Edited (k.own i) s) (sym (at_here m.tracks i (lent_by (entered c i m) (k.own i) s) lt)) (enters (entered c i m) f))
    (λ f. stays e f))

-- a track stays by the edit of another number
edited_other : (c : Setup) (k : Learnt) (j i : ℕ) (m : NormalKept) → i ≢ j → track_at (edited c k j m).tracks i ≡ track_at m.tracks i
unfolding edited let_go lend
edited_other c k j i m ne =
    by_test (λ (n : NormalKept). track_at n.tracks i ≡ track_at m.tracks i) (must_leave (track_at m.tracks j)) (let_go j m) _ (λ e. at_other m.tracks j _ i ne)
    (λ e. by_test (λ (n : NormalKept). track_at n.tracks i ≡ track_at m.tracks i) (must_enter (track_at m.tracks j)) (lend c j (k.own j) m) m (λ f. at_other m.tracks j _ i ne) (λ f. refl))

-- a track is as it was until its own edit
edits_before : (c : Setup) (k : Learnt) (m : NormalKept) (n i : ℕ) → n ≤ i → track_at (edited_to c k m n).tracks i ≡ track_at m.tracks i
edits_before c k m zero i le = refl
edits_before c k m (suc n) i le = edited_other c k n i (edited_to c k m n) (λ e. absurd (omega arith)) ∙ edits_before c k m n i (omega arith)

-- a track is, from its own edit on, as that left it
edits_more : (c : Setup) (k : Learnt) (m : NormalKept) (n i : ℕ) (b : Bool) → (n == i) ≡ b → i < suc n → i < length m.tracks
    → (i < n → Edited (k.own i) (track_at m.tracks i) (track_at (edited_to c k m n).tracks i)) → Edited (k.own i) (track_at m.tracks i) (track_at (edited c k n (edited_to c k m n)).tracks i)
edits_more c k m n i true e lt in_list before = let same : n ≡ i = search (arith, e) in
    let here : i < length (edited_to c k m i).tracks = (let l = edits_len c k m i in omega arith) in
    subst (λ (j : ℕ). Edited (k.own i) (track_at m.tracks i) (track_at (edited c k j (edited_to c k m j)).tracks i)) (sym same)
    (subst (λ (s : TrackKept). Edited (k.own i) s (track_at (edited c k i (edited_to c k m i)).tracks i)) (edits_before c k m i i (omega arith)) (edited_here c k i (edited_to c k m i) here))
edits_more c k m n i false e lt in_list before = let other : i ≢ n = (λ h. true≢false (sym (search (arith, h)) ∙ e)) in
    subst (Edited (k.own i) (track_at m.tracks i)) (sym (edited_other c k n i (edited_to c k m n) other)) (before (omega arith))

pub edits_from : (c : Setup) (k : Learnt) (m : NormalKept) (n i : ℕ) → i < n → i < length m.tracks → Edited (k.own i) (track_at m.tracks i) (track_at (edited_to c k m n).tracks i)
edits_from c k m zero i lt in_list = absurd (omega arith)
edits_from c k m (suc n) i lt in_list = edits_more c k m n i (n == i) refl lt in_list (λ h. edits_from c k m n i h in_list)

pub ordered_tracks : (c : Setup) (k : Learnt) (room : ℕ) (m : NormalKept) → (mutated c k room m).tracks ≡ (edited_to c k m (length m.tracks)).tracks
unfolding mutated ordered
ordered_tracks c k room m = by_test (λ (n : NormalKept). n.tracks ≡ (edited_to c k m (length m.tracks)).tracks) _ _ _ (λ e. refl) (λ e. refl)

-- ## The looks of the mix

own_here : (asked : ℕ) (tracks : List TrackKept) (take : TakeSeen) (i : ℕ) → i < length tracks
    → track_at (after_take asked tracks take) i ≡ record (track_at tracks i) { own = (if take.track == i then look_counted asked take.slot.seen (track_at tracks i).own else (track_at tracks i).own) }
own_here asked tracks take i lt = by_equal (take.track == i) refl
  where
    by_equal : (b : Bool) → (take.track == i) ≡ b → track_at (after_take asked tracks take) i ≡ record (track_at tracks i) { own = (if b then look_counted asked take.slot.seen (track_at tracks i).own else (track_at tracks i).own) }
    by_equal true e = let same : take.track ≡ i = search (arith, e) in
        subst (λ (j : ℕ). track_at (slice_set tracks j (record (track_at tracks j) { own = look_counted asked take.slot.seen (track_at tracks j).own })) i ≡ record (track_at tracks i) { own = look_counted asked take.slot.seen (track_at tracks i).own }) (sym same)
        (at_here tracks i (record (track_at tracks i) { own = look_counted asked take.slot.seen (track_at tracks i).own }) lt)
    by_equal false e = at_other tracks take.track _ i (λ h. true≢false (sym (search (arith, h)) ∙ e))

pub own_all : (asked : ℕ) (takes : List TakeSeen) (tracks : List TrackKept) (i : ℕ) → i < length tracks
    → track_at (fold (after_take asked) tracks takes) i ≡ record (track_at tracks i) { own = own_after asked i (track_at tracks i).own takes }
own_all asked [] tracks i lt = refl
own_all asked (take ∷ takes) tracks i lt = let long : length (after_take asked tracks take) ≡ length tracks = length-set tracks take.track _ in
    own_all asked takes (after_take asked tracks take) i (omega arith) ∙ ap (λ (s : TrackKept). record s { own = own_after asked i s.own takes }) (own_here asked tracks take i lt)

-- ## The whole turn

pub served_here : (c : Setup) (k : Learnt) (e : Turn) (m : NormalKept) (i : ℕ) → i < length m.tracks
    → track_at (after_tracks c k e (after_ack e.ack m)).tracks i ≡ attended (slot_for c (tracks_at c k m e i) i) k i (track_in e i).looks (greeted e.ack m.last (track_at m.tracks i))
served_here c k e m i lt = let acked : NormalKept = after_ack e.ack m in
    let long : length acked.tracks ≡ length m.tracks = acked_len e.ack m in
    then_on c k e.tracks acked.tracks (length acked.tracks) i (omega arith) (omega arith)
    ∙ attended_at c k (track_in e i).looks (tracks_at c k m e i) i
    ∙ ap (λ (s : TrackKept). attended (slot_for c (tracks_at c k m e i) i) k i (track_in e i).looks s) (not_yet c k e.tracks acked.tracks i i (omega arith) ∙ greeted_at e.ack m i)

pub track_turned : (c : Setup) (k : Learnt) (m : NormalKept) (e : Turn) (i : ℕ) → i < length m.tracks → e.ended ≡ false → TrackTurned c k m e i
unfolding turn_after
track_turned c k m e i lt runs =
    let served_m : NormalKept = after_tracks c k e (after_ack e.ack m) in
    let long : length served_m.tracks ≡ length m.tracks = served_len c k e.tracks (after_ack e.ack m).tracks (length (after_ack e.ack m).tracks) ∙ acked_len e.ack m in
    let there : length (edited_to c k served_m (length served_m.tracks)).tracks ≡ length m.tracks = edits_len c k served_m (length served_m.tracks) ∙ long in
    let pushed : (after_push e.push (after_edits c k e m)).tracks ≡ (edited_to c k served_m (length served_m.tracks)).tracks = push_tracks e.push (after_edits c k e m) ∙ ordered_tracks c k e.room served_m in
    let same : length (after_push e.push (after_edits c k e m)).tracks ≡ length (edited_to c k served_m (length served_m.tracks)).tracks = ap (λ (xs : List TrackKept). length xs) pushed in
    record {
      given = slot_for c (tracks_at c k m e i) i;
      free = refl;
      edited = track_at (edited_to c k served_m (length served_m.tracks)).tracks i;
      edit = subst (λ (s : TrackKept). Edited (k.own i) s (track_at (edited_to c k served_m (length served_m.tracks)).tracks i)) (served_here c k e m i lt) (edits_from c k served_m (length served_m.tracks) i (omega arith) (omega arith));
      after = ap (λ (b : Bool). track_at (if b then record m { ended = true } else after_takes c e.mixes (after_push e.push (after_edits c k e m))).tracks i) runs
          ∙ own_all (buffer c) e.mixes (after_push e.push (after_edits c k e m)).tracks i (omega arith)
          ∙ ap (λ (s : TrackKept). record s { own = own_after (buffer c) i s.own e.mixes }) (ap (λ (xs : List TrackKept). track_at xs i) pushed);
    }
