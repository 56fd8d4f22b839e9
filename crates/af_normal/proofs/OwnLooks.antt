-- How few looks of its own the mixer has not told of: one of each track at most, and of a track that it may mix none until it is mixed.
use Rattle.std.proofs.Common.{◌≡◌, ◌≢◌, ℕ, zero, suc, ◌<◌, ◌≤◌, ◌&&◌, not, Bool, true, false, true≢false, if◌then◌else◌, is_some, MatchBool, refl, sym, ap, subst, ◌∙◌, List, [], ◌∷◌, length, Option, ⊎_elim, get_or-set_same, arith}
use Rattle.af_normal.proofs.Common.{AreUpTo, CommandLook, FastState, Heard, Holder, Home, Learnt, NormalKept, Seen, Setup, SlotReport, TrackKept, TrackSeen, after_ack, after_look, after_looks, after_part, cases_eq, cases_lt, comes_home, look_counted, counts_in, edited, edited_to, ended, goes_on, heard, is_empty, is_full, is_home, is_mixed_here, is_partial, is_reached, is_reported, is_shut, lend, let_go, map, must_enter, must_leave, must_wait, mutated, new_track, no, no_counts, noted, obeyed, one_few, ordered, out_of, ready, seen_at, served, served_len, served_to, set_all, set_each, settled_at, shows_command, slice_set, slot_for, slot_reported, track_at, welcomed}
use Rattle.af_life.specs.declared.kept.Counts.{Counts}
use Rattle.af_life.specs.Obeys.{commanded}
use Rattle.af_normal.specs.Mixing.{Mixing, TakesOf, MixesTo}
use Rattle.af_normal.specs.Order.{HaveFewLooks}
use Rattle.af_normal.proofs.DueTracks.{other_track}

-- a track that may be mixed has no look yet that wasn't told
abbrev pub IsTold : TrackKept → Type 0
IsTold s = is_home s.holder ≡ true → s.life.ended ≡ false → AreUpTo 0 s.own

-- at most one, and none if it may be mixed
abbrev pub IsFew : TrackKept → Type 0
IsFew s = AreUpTo 1 s.own × IsTold s

-- ## A track's part of the turn

-- its own looks, and who has its proxy
abbrev Has : Counts → Holder → TrackKept → Type 0
Has own holder s = (s.own ≡ own) × (s.holder ≡ holder)

module _ (own : Counts) (holder : Holder) where
  either_has : (b : Bool) (s t : TrackKept) → Has own holder s → Has own holder t → Has own holder (if b then s else t)
  either_has true s t p q = p
  either_has false s t p q = q

  module _ (given : Option ℕ) (flush_seen : ℕ) where
    look_has : (look : CommandLook) (s : TrackKept) → Has own holder s → Has own holder (after_look given flush_seen look s)
    unfolding after_look obeyed
    look_has look s h = either_has (shows_command look.seen) _ _
        (either_has (must_wait flush_seen look.code look.argument s.life) _ _ (h.0, h.1) (h.0, h.1))
        (either_has (is_shut look.seen) (ended s) s (h.0, h.1) h)

    looks_have : (looks : List CommandLook) (s : TrackKept) → Has own holder s → Has own holder (after_looks given flush_seen looks s)
    looks_have [] s h = h
    looks_have (look ∷ looks) s h = let t : TrackKept = after_look given flush_seen look s in
        either_has (goes_on look t) _ _ (looks_have looks t (look_has look s h)) (look_has look s h)

    commands_have : (looks : List CommandLook) (s : TrackKept) → Has own holder s → Has own holder (commanded given flush_seen looks s)
    commands_have looks s h = either_has (is_some s.awaits) _ _ h (looks_have looks s h)

  part_has : (given : Option ℕ) (h : Heard) (looks : List CommandLook) (s : TrackKept) → Has own holder s → Has own holder (after_part given h looks s)
  unfolding after_part
  part_has given h looks s has = let t = commands_have given h.flush_seen looks s has in (t.0, t.1)

  settled_has : (flush_seen : ℕ) (s : TrackKept) → Has own holder s → Has own holder (settled_at flush_seen s)
  unfolding settled_at
  settled_has flush_seen s h = either_has (is_reached flush_seen s.awaits) _ _ (h.0, h.1) h

-- of a proxy that is home the looks are told
home_has : (r : SlotReport) (s : TrackKept) (b : Bool) → b ≡ true → Has no_counts s.holder (if b then record s { own = no_counts } else if is_reported r s then record s { reported = counts_in r } else s)
home_has r s true e = (refl, refl)
home_has r s false e = absurd (true≢false (sym e))

noted_home : (r : SlotReport) (s : TrackKept) → is_home s.holder ≡ true → Has no_counts s.holder (noted r s)
unfolding noted
noted_home r s home = home_has r s (is_home s.holder) home

-- of one elsewhere they are as they were
away_has : (r : SlotReport) (s : TrackKept) (b : Bool) → b ≡ false → Has s.own s.holder (if b then record s { own = no_counts } else if is_reported r s then record s { reported = counts_in r } else s)
away_has r s true e = absurd (true≢false e)
away_has r s false e = either_has s.own s.holder (is_reported r s) _ s (refl, refl) (refl, refl)

noted_away : (r : SlotReport) (s : TrackKept) → is_home s.holder ≡ false → Has s.own s.holder (noted r s)
unfolding noted
noted_away r s away = away_has r s (is_home s.holder) away

none_told : (n : ℕ) → AreUpTo n no_counts
none_told n = (omega arith, omega arith, omega arith)

module _ (c : Setup) (k : Learnt) (looks : List CommandLook) (tracks : List TrackKept) (i : ℕ) (few : AreUpTo 1 (track_at tracks i).own) where
  abbrev s : TrackKept
  s = track_at tracks i

  abbrev t : TrackKept
  t = after_part (slot_for c tracks i) (heard k i s) looks (ready k i s)

  has : (own : Counts) → Has own s.holder (noted (slot_reported k s) s) → Has own s.holder t
  has own h = part_has own s.holder (slot_for c tracks i) (heard k i s) looks (ready k i s) (settled_has own s.holder (heard k i s).flush_seen (noted (slot_reported k s) s) h)

  by_home : (b : Bool) → is_home s.holder ≡ b → IsFew t
  by_home true home = let own : no_counts ≡ t.own = sym (has no_counts (noted_home (slot_reported k s) s home)).0 in
      (subst (λ (x : Counts). AreUpTo 1 x) own (none_told 1), λ h g. subst (λ (x : Counts). AreUpTo 0 x) own (none_told 0))
  by_home false away = let same = has s.own (noted_away (slot_reported k s) s away) in
      (subst (λ (x : Counts). AreUpTo 1 x) (sym same.0) few, λ h g. absurd (true≢false (sym h ∙ ap is_home same.1 ∙ away)))

  by_ended : (b : Bool) → s.life.ended ≡ b → IsFew (if b then s else t)
  by_ended true over = (few, λ h g. absurd (true≢false (sym over ∙ g)))
  by_ended false lives = by_home (is_home s.holder) refl

  served_few : IsFew (served c k looks tracks i)
  unfolding served
  served_few = by_ended s.life.ended refl

-- ## All tracks

module _ (c : Setup) (k : Learnt) (seen : List TrackSeen) (tracks : List TrackKept) (few : HaveFewLooks tracks) where
  abbrev now : ℕ → List TrackKept
  now n = served_to c k seen tracks n

  -- once the first ones were served, these may be mixed
  first_few : (n : ℕ) → n ≤ length tracks → (j : ℕ) → AreUpTo 1 (track_at (served_to c k seen tracks n) j).own × (j < n → IsTold (track_at (served_to c k seen tracks n) j))
  first_few zero le j = (few j, λ lt. absurd (omega (arith, lt)))
  first_few (suc n) le j =
      let before : (j : ℕ) → AreUpTo 1 (track_at (now n) j).own × (j < n → IsTold (track_at (now n) j)) = first_few n (omega (arith, le)) in
      let is : TrackKept = served c k (seen_at seen n).looks (now n) n in
      let here : IsFew is = served_few c k (seen_at seen n).looks (now n) n (before n).0 in
      let long : length (now n) ≡ length tracks = served_len c k seen tracks n in
      ⊎_elim
      (λ (e : j ≡ n). let at : track_at (slice_set (now n) n is) j ≡ is = ap (λ (m : ℕ). track_at (slice_set (now n) n is) m) e ∙ get_or-set_same (now n) n is new_track (omega (arith, le, long)) in
      (subst (λ (s : TrackKept). AreUpTo 1 s.own) (sym at) here.0, λ lt. subst IsTold (sym at) here.1))
      (λ (ne : j ≢ n). let all = set_each (λ (i : ℕ) (s : TrackKept). AreUpTo 1 s.own × (i < n → IsTold s)) (now n) n is (here.0, λ lt. absurd (omega (arith, lt))) before j in
      (all.0, λ lt. ⊎_elim (λ (below : j < n). all.1 below) (λ (above : n ≤ j). absurd (ne (omega (arith, lt, above)))) (cases_lt j n)))
      (cases_eq j n)

  -- once all were
  pub all_few : (j : ℕ) → IsFew (track_at (served_to c k seen tracks (length tracks)) j)
  all_few j = ⊎_elim
      (λ (lt : j < length tracks). let h = first_few (length tracks) (omega arith) j in (h.0, h.1 lt))
      (λ (le : length tracks ≤ j). subst IsFew (sym (out_of (now (length tracks)) j (let l = served_len c k seen tracks (length tracks) in omega (arith, l, le)))) (none_told 1, λ h g. none_told 0))
      (cases_lt j (length tracks))

-- ## The acknowledgement, the edits and the command

abbrev AreFew : NormalKept → Type 0
AreFew m = (j : ℕ) → IsFew (track_at m.tracks j)

welcome_few : (b : Bool) (s : TrackKept) → AreUpTo 1 s.own → AreUpTo 1 (if b then record s { holder = Home } else s).own
welcome_few true s few = few
welcome_few false s few = few

welcomed_few : (last : FastState) (tracks : List TrackKept) → HaveFewLooks tracks → HaveFewLooks (map (welcomed last) tracks)
unfolding welcomed
welcomed_few last [] few i = few i
welcomed_few last (s ∷ tracks) few zero = welcome_few (comes_home last s) s (few zero)
welcomed_few last (s ∷ tracks) few (suc i) = welcomed_few last tracks (λ j. few (suc j)) i

pub acked_few : (ack : Bool) (m : NormalKept) → HaveFewLooks m.tracks → HaveFewLooks (after_ack ack m).tracks
acked_few true m few = welcomed_few m.last m.tracks few
acked_few false m few = few

either_few : (b : Bool) (x y : NormalKept) → AreFew x → AreFew y → AreFew (if b then x else y)
either_few true x y h g = h
either_few false x y h g = g

go_few : (i : ℕ) (x : NormalKept) → AreFew x → AreFew (let_go i x)
unfolding let_go
go_few i x h = set_all IsFew x.tracks i _ h ((h i).0, λ e g. no e)

lend_few : (c : Setup) (i : ℕ) (own : Heard) (x : NormalKept) → AreFew x → AreFew (lend c i own x)
unfolding lend
lend_few c i own x h = set_all IsFew x.tracks i _ h ((h i).0, λ e g. no e)

edit_few : (c : Setup) (k : Learnt) (i : ℕ) (x : NormalKept) → AreFew x → AreFew (edited c k i x)
unfolding edited
edit_few c k i x h = either_few (must_leave (track_at x.tracks i)) (let_go i x) _ (go_few i x h) (either_few (must_enter (track_at x.tracks i)) (lend c i (k.own i) x) x (lend_few c i (k.own i) x h) h)

edits_few : (c : Setup) (k : Learnt) (x : NormalKept) → AreFew x → (i : ℕ) → AreFew (edited_to c k x i)
edits_few c k x h zero = h
edits_few c k x h (suc i) = edit_few c k i (edited_to c k x i) (edits_few c k x h i)

pub mutated_few : (c : Setup) (k : Learnt) (room : ℕ) (x : NormalKept) → ((j : ℕ) → IsFew (track_at x.tracks j)) → (j : ℕ) → IsFew (track_at (mutated c k room x).tracks j)
unfolding mutated ordered
mutated_few c k room x h = let edits : AreFew (edited_to c k x (length x.tracks)) = edits_few c k x h (length x.tracks) in
    either_few _ (edited_to c k x (length x.tracks)) _ edits edits

-- ## The mix

counted_one : (asked : ℕ) (answer : Seen) (own : Counts) → AreUpTo 0 own → AreUpTo 1 (look_counted asked answer own)
counted_one asked answer own none = let a = one_few (is_full asked answer) in let b = one_few (is_partial asked answer) in let d = one_few (is_empty answer) in
    (omega (arith, a, none.0), omega (arith, b, none.1), omega (arith, d, none.2))

-- a track that is mixed here has no slot, and has not ended
mixed_parts : (slotted member over : Bool) → (not slotted && (member && not over)) ≡ true → (slotted ≡ false) × (over ≡ false)
mixed_parts true member over e = absurd (true≢false (sym e))
mixed_parts false false over e = absurd (true≢false (sym e))
mixed_parts false true true e = absurd (true≢false (sym e))
mixed_parts false true false e = (refl, refl)

module _ (asked : ℕ) (x : Mixing) (few : (j : ℕ) → IsFew (track_at x.tracks j)) (homely : (j : ℕ) → is_some (track_at x.tracks j).slot ≡ false → is_home (track_at x.tracks j).holder ≡ true) where
  -- the first ones were mixed, and the others are as they were
  mixes_few : (n : ℕ) (y : Mixing) → MixesTo asked n x y → (j : ℕ) → AreUpTo 1 (track_at y.tracks j).own × (n ≤ j → track_at y.tracks j ≡ track_at x.tracks j)
  mixes_few zero y same j = (subst (λ (z : Mixing). AreUpTo 1 (track_at z.tracks j).own) (sym same) (few j).0, λ le. ap (λ (z : Mixing). track_at z.tracks j) same)
  mixes_few (suc n) y (z, first, one) j = (by (mixes_few n z first) (is_mixed_here (track_at z.tracks n)) refl one, λ le. other_track asked n z y j (omega (arith, le)) one ∙ (mixes_few n z first j).1 (omega (arith, le)))
    where
      by : ((k : ℕ) → AreUpTo 1 (track_at z.tracks k).own × (n ≤ k → track_at z.tracks k ≡ track_at x.tracks k)) → (b : Bool) → is_mixed_here (track_at z.tracks n) ≡ b → MatchBool b (TakesOf asked n z y) (y ≡ z) → AreUpTo 1 (track_at y.tracks j).own
      by before true mixed t =
          let at : track_at z.tracks t.take.track ≡ track_at x.tracks n = ap (λ (m : ℕ). track_at z.tracks m) t.takes.track ∙ (before n).1 (omega arith) in
          let is : is_mixed_here (track_at x.tracks n) ≡ true = sym (ap is_mixed_here ((before n).1 (omega arith))) ∙ mixed in
          let parts = mixed_parts (is_some (track_at x.tracks n).slot) (track_at x.tracks n).life.member (track_at x.tracks n).life.ended is in
          let none : AreUpTo 0 (track_at z.tracks t.take.track).own = subst (λ (s : TrackKept). AreUpTo 0 s.own) (sym at) ((few n).1 (homely n parts.0) parts.1) in
          subst (λ (w : Mixing). AreUpTo 1 (track_at w.tracks j).own) (sym t.then)
          (set_all (λ (s : TrackKept). AreUpTo 1 s.own) z.tracks t.take.track _ (λ (i : ℕ). (before i).0) (counted_one asked t.take.slot.seen (track_at z.tracks t.take.track).own none) j)
      by before false passed e = subst (λ (w : Mixing). AreUpTo 1 (track_at w.tracks j).own) (sym e) (before j).0

  pub mixed_few : (n : ℕ) (y : Mixing) → MixesTo asked n x y → HaveFewLooks y.tracks
  mixed_few n y mixes j = (mixes_few n y mixes j).0
