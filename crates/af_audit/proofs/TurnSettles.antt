-- What a turn of the normal mixer settles of a track, and what its status says of that.
use Rattle.std.proofs.Common.{◌≡◌, inl, inr, ℕ, zero, suc, ◌<◌, ◌≤◌, ◌==◌, Bool, true, false, if◌then◌else◌, fold, map, List, [], ◌∷◌, ◌++◌, length, Option, Some, None, refl, sym, ap, ◌∙◌, subst, append-nil, arith}
use Rattle.af_audit.proofs.Common.{Busy, Clean, FastState, Home, IsServed, Learnt, LegalTurn, Life, MatchBool, NormalKept, Outside, Push, Pushed, Setup, TakeSeen, TrackKept, TrackSeen, Turn, acked_len, after_ack, after_edits, after_part, after_push, after_report, after_take, after_takes, after_tracks, asked, cases_eq, comes_home, edited, edited_to, get_or-set_at, get_or-set_other, going, heard, is_found_shut, learnt, lend, let_go, must_enter, must_leave, mutated, not_yet, nothing_seen, ordered, ready, seen_at, served, served_len, served_to, settled_in, slice_set, status_due, status_events, stored_over, track_at, track_in, tracks_at, turn_after, welcomed, words_taken}
use Rattle.af_life.specs.Kept.{new_track}
use Rattle.af_life.specs.Obeys.{slot_for}
use Rattle.af_audit.proofs.StartsSettled.{SettledCore, SettledSo, over_so, served_so}
use Rattle.af_audit.proofs.StatusWords.{StatusesLow, status_settles}

-- ## What only a track's own part of a turn changes: the START that waits, the commands settled and the life

abbrev Core : Type 0
Core = Option ℕ × ℕ × Life

abbrev core : TrackKept → Core
core s = (s.awaits, s.settled, s.life)

abbrev core_at : List TrackKept → ℕ → Core
core_at tracks i = core (track_at tracks i)

either_core : (b : Bool) (s t : TrackKept) → core s ≡ core t → core (if b then s else t) ≡ core t
either_core true s t e = e
either_core false s t e = refl

welcome_keeps : (last : FastState) (tracks : List TrackKept) (i : ℕ) → core_at (map (welcomed last) tracks) i ≡ core_at tracks i
unfolding welcomed
welcome_keeps last [] i = refl
welcome_keeps last (s ∷ tracks) zero = either_core (comes_home last s) (record s { holder = Home }) s refl
welcome_keeps last (s ∷ tracks) (suc i) = welcome_keeps last tracks i

ack_keeps : (ack : Bool) (m : NormalKept) (i : ℕ) → core_at (after_ack ack m).tracks i ≡ core_at m.tracks i
ack_keeps true m i = welcome_keeps m.last m.tracks i
ack_keeps false m i = refl

set_keeps : (tracks : List TrackKept) (k : ℕ) (s : TrackKept) (i : ℕ) → core s ≡ core_at tracks k → core_at (slice_set tracks k s) i ≡ core_at tracks i
set_keeps [] k s i e = refl
set_keeps (x ∷ tracks) zero s zero e = e
set_keeps (x ∷ tracks) zero s (suc i) e = refl
set_keeps (x ∷ tracks) (suc k) s zero e = refl
set_keeps (x ∷ tracks) (suc k) s (suc i) e = set_keeps tracks k s i e

either_keeps : (b : Bool) (m n : NormalKept) (i : ℕ) (l : Core) → core_at m.tracks i ≡ l → core_at n.tracks i ≡ l → core_at (if b then m else n).tracks i ≡ l
either_keeps true m n i l e f = e
either_keeps false m n i l e f = f

edit_keeps : (c : Setup) (k : Learnt) (n : ℕ) (m : NormalKept) (i : ℕ) → core_at (edited c k n m).tracks i ≡ core_at m.tracks i
unfolding edited let_go lend
edit_keeps c k n m i =
    either_keeps (must_leave (track_at m.tracks n)) (let_go n m) _ i _ (set_keeps m.tracks n _ i refl)
    (either_keeps (must_enter (track_at m.tracks n)) (lend c n (k.own n) m) m i _ (set_keeps m.tracks n _ i refl) refl)

edits_keep : (c : Setup) (k : Learnt) (m : NormalKept) (n i : ℕ) → core_at (edited_to c k m n).tracks i ≡ core_at m.tracks i
edits_keep c k m zero i = refl
edits_keep c k m (suc n) i = edit_keeps c k n (edited_to c k m n) i ∙ edits_keep c k m n i

mutation_keeps : (c : Setup) (k : Learnt) (room : ℕ) (m : NormalKept) (i : ℕ) → core_at (mutated c k room m).tracks i ≡ core_at m.tracks i
unfolding mutated ordered
mutation_keeps c k room m i = let edits : NormalKept = edited_to c k m (length m.tracks) in
    either_keeps _ edits _ i _ (edits_keep c k m (length m.tracks) i) (edits_keep c k m (length m.tracks) i)

push_keeps : (push : Push) (m : NormalKept) (i : ℕ) → core_at (after_push push m).tracks i ≡ core_at m.tracks i
push_keeps (Pushed number) m i = refl
push_keeps Clean m i = refl
push_keeps (Busy seen expected) m i = refl

takes_keep : (asked : ℕ) (takes : List TakeSeen) (tracks : List TrackKept) (i : ℕ) → core_at (fold (after_take asked) tracks takes) i ≡ core_at tracks i
takes_keep asked [] tracks i = refl
takes_keep asked (take ∷ takes) tracks i = takes_keep asked takes (after_take asked tracks take) i ∙ set_keeps tracks take.track _ i refl

-- ## All tracks

-- a track that was served stays so
served_then : (c : Setup) (k : Learnt) (turns : List TrackSeen) (tracks : List TrackKept) (n i : ℕ) → i < n → n ≤ length tracks → track_at (served_to c k turns tracks n) i ≡ served c k (seen_at turns i).looks (served_to c k turns tracks i) i
served_then c k turns tracks zero i lt le = absurd (omega (arith, lt))
served_then c k turns tracks (suc n) i lt le = elim (cases_eq i n) as (λ x. track_at (slice_set (served_to c k turns tracks n) n (served c k (seen_at turns n).looks (served_to c k turns tracks n) n)) i ≡ served c k (seen_at turns i).looks (served_to c k turns tracks i) i) [
  | inl p ↦ get_or-set_at (served_to c k turns tracks n) n i (served c k (seen_at turns n).looks (served_to c k turns tracks n) n) new_track p (let l : length (served_to c k turns tracks n) ≡ length tracks = served_len c k turns tracks n in omega (arith, l, le))
      ∙ ap (λ (j : ℕ). served c k (seen_at turns j).looks (served_to c k turns tracks j) j) (sym p)
  | inr other ↦ get_or-set_other (served_to c k turns tracks n) n i (served c k (seen_at turns n).looks (served_to c k turns tracks n) n) new_track other ∙ served_then c k turns tracks n i (omega (arith, lt, other)) (omega (arith, le))
]

module _ (c : Setup) (k : Learnt) (m : NormalKept) (e : Turn) (n : ℕ) where
  -- the track when it is served
  then_core : core_at (tracks_at c k m e n) n ≡ core_at m.tracks n
  then_core = ap core (not_yet c k e.tracks (after_ack e.ack m).tracks n n (omega arith)) ∙ ack_keeps e.ack m n

  -- the track after a turn that goes on
  after_core : e.ended ≡ false → n < length m.tracks → core_at (turn_after c k m e).tracks n ≡ core (served c k (track_in e n).looks (tracks_at c k m e n) n)
  unfolding turn_after
  after_core runs low =
      let acked : NormalKept = after_ack e.ack m in
      ap (λ (b : Bool). core_at (if b then record m { ended = true } else after_takes c e.mixes (after_push e.push (after_edits c k e m))).tracks n) runs
      ∙ takes_keep (asked c) e.mixes (after_push e.push (after_edits c k e m)).tracks n
      ∙ push_keeps e.push (after_edits c k e m) n
      ∙ mutation_keeps c k e.room (after_tracks c k e acked) n
      ∙ ap core (served_then c k e.tracks acked.tracks (length acked.tracks) n (let l = acked_len e.ack m in omega (arith, l, low)) (omega arith))

  ended_core : e.ended ≡ true → core_at (turn_after c k m e).tracks n ≡ core_at m.tracks n
  unfolding turn_after
  ended_core ends = ap (λ (b : Bool). core_at (if b then record m { ended = true } else after_takes c e.mixes (after_push e.push (after_edits c k e m))).tracks n) ends

-- ## A turn

core_so : (most least : ℕ) (taken : List ℕ) (x y : Core) → x ≡ y → SettledCore most least taken x.0 x.1 x.2 → SettledCore most least taken y.0 y.1 y.2
core_so most least taken x y same h = subst (λ (z : Core). SettledCore most least taken z.0 z.1 z.2) same h

-- after a turn the words that it took are those of commands settled or waiting, as before, and its status counts what is settled
pub record TurnSettles (most least : ℕ) (taken : List ℕ) (e : Turn) (n : ℕ) (after : TrackKept) : Type 0 where
  pub so : SettledSo most least (taken ++ going e (words_taken (track_in e n).looks)) after
  pub status : StatusesLow after.settled (going e (status_events (track_in e n).status))

stored_low : (most last word : ℕ) → settled_in word ≤ most → StatusesLow most (status_events (stored_over last word))
stored_low most last word is = by (word == last)
  where
    by : (b : Bool) → StatusesLow most (status_events (if b then None else Some word))
    by true = tt
    by false = (is, tt)

module _ (most least : ℕ) (taken : List ℕ) (c : Setup) (o : Outside) (m : NormalKept) (e : Turn) (n : ℕ) (low : n < length m.tracks) (legal : LegalTurn c o m e) where
  abbrev k : Learnt
  k = learnt o

  abbrev tracks : List TrackKept
  tracks = tracks_at c k m e n

  abbrev s : TrackKept
  s = track_at tracks n

  abbrev after : TrackKept
  after = track_at (turn_after c k m e).tracks n

  module _ (heard_low : (heard k n s).flush_seen ≤ most) (h : SettledSo most least taken (track_at m.tracks n)) where
    then_so : SettledSo most least taken s
    then_so = core_so most least taken (core_at m.tracks n) (core s) (sym (then_core c k m e n)) h

    abbrev looks_words : List ℕ
    looks_words = words_taken (track_in e n).looks

    -- what is settled of a track that plays on
    part_settles : e.ended ≡ false → s.life.ended ≡ false → IsServed (slot_for c tracks n) (heard k n s) (track_in e n) (ready k n s)
        → SettledSo most least (taken ++ looks_words) after × StatusesLow after.settled (status_events (track_in e n).status)
    unfolding served after_part
    part_settles runs lives is =
        let now : core after ≡ core (served c k (track_in e n).looks tracks n) = after_core c k m e n runs low in
        let so = served_so most least c k (track_in e n).looks tracks n taken lives heard_low is.looks then_so in
        let t : TrackKept = after_report (slot_for c tracks n) (heard k n s) (track_in e n).looks (ready k n s) in
        let part : (served c k (track_in e n).looks tracks n).settled ≡ t.settled = ap (λ (b : Bool). (if b then s else after_part (slot_for c tracks n) (heard k n s) (track_in e n).looks (ready k n s)).settled) lives in
        let many : after.settled ≡ t.settled = ap (λ (x : Core). x.1) now ∙ part in
        let word : settled_in (status_due (slot_for c tracks n) (heard k n s) (track_in e n).looks (ready k n s)) ≤ after.settled = subst (λ (count : ℕ). settled_in (status_due (slot_for c tracks n) (heard k n s) (track_in e n).looks (ready k n s)) ≤ count) (sym many) (status_settles (is_found_shut (heard k n s) (track_in e n).looks) t) in (
          core_so most least (taken ++ looks_words) (core (served c k (track_in e n).looks tracks n)) (core after) (sym now) so,
          subst (λ (o : Option ℕ). StatusesLow after.settled (status_events o)) (sym is.status) (stored_low after.settled (ready k n s).status _ word),
        )

    -- what is settled of a track that had ended
    over_settles : e.ended ≡ false → s.life.ended ≡ true → track_in e n ≡ nothing_seen
        → SettledSo most least (taken ++ looks_words) after × StatusesLow after.settled (status_events (track_in e n).status)
    over_settles runs ended none =
        let now : core after ≡ core (served c k (track_in e n).looks tracks n) = after_core c k m e n runs low in
        let so = over_so most least c k (track_in e n).looks tracks n taken ended then_so in (
          subst (λ (l : List ℕ). SettledSo most least l after) (sym (ap (λ (seen : TrackSeen). taken ++ words_taken seen.looks) none ∙ append-nil taken)) (core_so most least taken (core (served c k (track_in e n).looks tracks n)) (core after) (sym now) so),
          subst (λ (seen : TrackSeen). StatusesLow after.settled (status_events seen.status)) (sym none) tt,
        )

    runs_settles : e.ended ≡ false → SettledSo most least (taken ++ looks_words) after × StatusesLow after.settled (status_events (track_in e n).status)
    runs_settles runs = by s.life.ended refl ((legal.goes_on runs).tracks n low)
      where
        by : (b : Bool) → s.life.ended ≡ b → MatchBool b (track_in e n ≡ nothing_seen) (IsServed (slot_for c tracks n) (heard k n s) (track_in e n) (ready k n s))
            → SettledSo most least (taken ++ looks_words) after × StatusesLow after.settled (status_events (track_in e n).status)
        by true ended none = over_settles runs ended none
        by false lives is = part_settles runs lives is

    pub turn_settles : TurnSettles most least taken e n after
    turn_settles = by e.ended refl
      where
        by : (b : Bool) → e.ended ≡ b → TurnSettles most least taken e n after
        by true ends = record {
          so = subst (λ (d : Bool). SettledSo most least (taken ++ (if d then [] else looks_words)) after) (sym ends) (subst (λ (l : List ℕ). SettledSo most least l after) (sym (append-nil taken)) (core_so most least taken (core_at m.tracks n) (core after) (sym (ended_core c k m e n ends)) h));
          status = subst (λ (d : Bool). StatusesLow after.settled (if d then [] else status_events (track_in e n).status)) (sym ends) tt;
        }
        by false runs = let r = runs_settles runs in record {
          so = subst (λ (d : Bool). SettledSo most least (taken ++ (if d then [] else looks_words)) after) (sym runs) r.0;
          status = subst (λ (d : Bool). StatusesLow after.settled (if d then [] else status_events (track_in e n).status)) (sym runs) r.1;
        }
