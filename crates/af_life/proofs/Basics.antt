-- Basic lemmas that several files here, and of the crates above, cite.
use Rattle.std.proofs.Common.{All, Bool, List, None, Option, [], ap, arith, false, fold, get_or-set_other, get_or-set_same, if◌then◌else◌, inl, inr, is_some, length, map, not, refl, replicate, subst, suc, sym, true, true≢false, zero, ℕ, ⊎_elim, ◌&&◌, ◌+◌, ◌<◌, ◌==◌, ◌∙◌, ◌∷◌, ◌≡◌, ◌≢◌, ◌≤◌, ◌⊎◌}
use Rattle.af_life.proofs.Common.{All-get_or, Command, CommandLook, FastState, SlotReport, TakeSeen, and_none, cases_eq, equal_is, is_equal, length-set, list_any, neither, never_false, no, slice_set, zero_is}
use Rattle.af_life.specs.Edits.{welcomed}
use Rattle.af_life.specs.Heard.{counts_in, heard, is_reached, is_reported, noted, ready, settled_at, slot_reported}
use Rattle.af_life.specs.Kept.{Learnt, Setup, is_home, is_lent, is_returning, new_track, no_counts, setting_of, slot_number, track_at}
use Rattle.af_life.specs.Obeys.{after_look, are_due, goes_on, holds}
use Rattle.af_life.specs.Plays.{after_take}
use Rattle.af_life.specs.Sound.{IsSlotted, IsSound}
use Rattle.af_life.specs.declared.kept.Holder.TheVariants.{Home, Lent, Returning}
use Rattle.af_life.specs.declared.kept.Holder.{Holder}
use Rattle.af_life.specs.declared.kept.Setting.{Setting}
use Rattle.af_life.specs.declared.kept.TrackKept.{TrackKept}
use Rattle.af_life.specs.declared.track.Life.{Life}
use Rattle.af_model.specs.Draft.{draft_commanded as with_command}

pub all_of : (a b c : Bool) → a ≡ true → b ≡ true → c ≡ false → (a && b && not c) ≡ true
all_of true true false e f g = refl
all_of true true true e f g = absurd (true≢false g)
all_of true false c e f g = no f
all_of false b c e f g = no e

pub all_three : (b c d : Bool) → (b && (not c && d)) ≡ true → (b ≡ true) × (c ≡ false) × (d ≡ true)
all_three true false true e = (refl, refl, refl)
all_three true false false e = no e
all_three true true d e = no e
all_three false c d e = no e

pub at_here : (tracks : List TrackKept) (i : ℕ) (s : TrackKept) → i < length tracks → track_at (slice_set tracks i s) i ≡ s
at_here tracks i s lt = get_or-set_same tracks i s new_track lt

pub at_new : (n i : ℕ) → track_at (replicate n new_track) i ≡ new_track
at_new zero i = refl
at_new (suc n) zero = refl
at_new (suc n) (suc i) = at_new n i

pub at_other : (tracks : List TrackKept) (i : ℕ) (s : TrackKept) (j : ℕ) → j ≢ i → track_at (slice_set tracks i s) j ≡ track_at tracks j
at_other tracks i s j ne = get_or-set_other tracks i j s new_track ne

-- a track that is set stands at its place, and the others are as they were
pub at_set : (tracks : List TrackKept) (i : ℕ) (s : TrackKept) (j : ℕ) → ((j ≡ i) × (track_at (slice_set tracks i s) j ≡ s)) ⊎ (track_at (slice_set tracks i s) j ≡ track_at tracks j)
at_set [] i s j = inr refl
at_set (t ∷ tracks) zero s zero = inl (refl, refl)
at_set (t ∷ tracks) zero s (suc j) = inr refl
at_set (t ∷ tracks) (suc i) s zero = inr refl
at_set (t ∷ tracks) (suc i) s (suc j) = elim (at_set tracks i s j) as (λ x. ((suc j ≡ suc i) × (track_at (slice_set tracks i s) j ≡ s)) ⊎ (track_at (slice_set tracks i s) j ≡ track_at tracks j)) [
  | inl p ↦ inl (ap suc p.0, p.1)
  | inr q ↦ inr q
]

pub slot_is : (k : ℕ) (s : TrackKept) → is_some s.slot ≡ true → slot_number s ≡ k → (s.life.ended && is_home s.holder) ≡ false → holds k s ≡ true
slot_is k s some number here = all_of (is_some s.slot) (slot_number s == k) (s.life.ended && is_home s.holder) some (is_equal (slot_number s) k number) here

-- a track that isn't home has a slot
pub slot_of_away : (s : TrackKept) → IsSlotted s → is_home s.holder ≡ false → is_some s.slot ≡ true
slot_of_away s slotted away = never_false (is_some s.slot) (λ none. true≢false (sym (slotted.homely none) ∙ away))

pub away_holds : (s : TrackKept) → IsSlotted s → is_home s.holder ≡ false → holds (slot_number s) s ≡ true
away_holds s slotted away = slot_is (slot_number s) s (slot_of_away s slotted away) refl (and_none s.life.ended (is_home s.holder) away)

pub by_next : (b : Bool) (n k : ℕ) (due : Bool) → (due ≡ true → k ≤ n) → (if b then due else k == 0) ≡ true → suc k ≤ suc n
by_next true n k due more f = let l : k ≤ n = more f in omega arith
by_next false n k due more f = let l : k ≡ 0 = zero_is k f in omega arith

pub due_len : (given : Option ℕ) (flush_seen n : ℕ) (looks : List CommandLook) (s : TrackKept) → are_due n given flush_seen looks s ≡ true → length looks ≤ n
due_len given flush_seen zero [] s e = omega arith
due_len given flush_seen zero (look ∷ looks) s e = absurd (true≢false (sym e))
due_len given flush_seen (suc n) [] s e = absurd (true≢false (sym e))
due_len given flush_seen (suc n) (look ∷ looks) s e = by_next (goes_on look (after_look given flush_seen look s)) n (length looks) (are_due n given flush_seen looks (after_look given flush_seen look s))
    (due_len given flush_seen n looks (after_look given flush_seen look s)) e

-- a fact of each track, if one of the list was replaced
pub each_set : (P : ℕ → TrackKept → Type 0) (tracks : List TrackKept) (i : ℕ) (s : TrackKept) → i < length tracks → P i s → ((j : ℕ) → j ≢ i → P j (track_at tracks j)) → (j : ℕ) → P j (track_at (slice_set tracks i s) j)
each_set P tracks i s lt here others j = ⊎_elim
    (λ (e : j ≡ i). subst (λ (n : ℕ). P n (track_at (slice_set tracks i s) n)) (sym e) (subst (P i) (sym (at_here tracks i s lt)) here))
    (λ (ne : j ≢ i). subst (P j) (sym (at_other tracks i s j ne)) (others j ne))
    (cases_eq j i)

pub either : (P : TrackKept → Type 0) (b : Bool) (s t : TrackKept) → (b ≡ true → P s) → P t → P (if b then s else t)
either P true s t f p = f refl
either P false s t f p = p

pub either_life : (b : Bool) (s t : TrackKept) (l : Life) → s.life ≡ l → t.life ≡ l → (if b then s else t).life ≡ l
either_life true s t l e f = e
either_life false s t l e f = f

pub three : (a b c : Bool) → (a && b && not c) ≡ true → (a ≡ true) × (b ≡ true) × (c ≡ false)
three true true false e = (refl, refl, refl)
three true true true e = no e
three true false c e = no e
three false b c e = no e

pub has_slot : (k : ℕ) (s : TrackKept) → holds k s ≡ true → (is_some s.slot ≡ true) × (slot_number s ≡ k) × ((s.life.ended && is_home s.holder) ≡ false)
has_slot k s h = let parts = three (is_some s.slot) (slot_number s == k) (s.life.ended && is_home s.holder) h in (parts.0, equal_is (slot_number s) k parts.1, parts.2)

-- a track that has a slot is one of the list
pub inside : (tracks : List TrackKept) (i : ℕ) → is_some (track_at tracks i).slot ≡ true → i < length tracks
inside [] i e = no e
inside (s ∷ tracks) zero e = omega arith
inside (s ∷ tracks) (suc i) e = let l : i < length tracks = inside tracks i e in omega arith

-- a proxy that is lent or returning isn't home
pub lent_away : (h : Holder) → is_lent h ≡ true → is_home h ≡ false
lent_away Home e = no e
lent_away Lent e = refl
lent_away Returning e = no e

pub none_holds : (k : ℕ) (tracks : List TrackKept) → list_any (holds k) tracks ≡ false → (j : ℕ) → holds k (track_at tracks j) ≡ false
none_holds k [] e j = refl
none_holds k (s ∷ tracks) e zero = none.0
  where
    none : (holds k s ≡ false) × (list_any (holds k) tracks ≡ false)
    none = neither (holds k s) (list_any (holds k) tracks) e
none_holds k (s ∷ tracks) e (suc j) = none_holds k tracks (neither (holds k s) (list_any (holds k) tracks) e).1 j

pub not_ended : (b e h : Bool) → (e ≡ true → b ≡ true) → (b && h) ≡ false → (e && h) ≡ false
not_ended b false h f g = refl
not_ended true true h f g = g
not_ended false true h f g = no (f refl)

pub out_of : (tracks : List TrackKept) (j : ℕ) → length tracks ≤ j → track_at tracks j ≡ new_track
out_of [] j le = refl
out_of (s ∷ tracks) zero le = absurd (omega arith)
out_of (s ∷ tracks) (suc j) le = out_of tracks j (omega arith)

pub picks : (b c d : Bool) (l x y : Life) → b ≡ false → c ≡ true → d ≡ true → (if b then l else if c && (d && true) then x else y) ≡ x
picks true c d l x y e f g = absurd (true≢false e)
picks false false d l x y e f g = no f
picks false true false l x y e f g = no g
picks false true true l x y e f g = refl

-- before its looks a turn leaves a life as it was
pub ready_life : (k : Learnt) (i : ℕ) (s : TrackKept) → (ready k i s).life ≡ s.life
unfolding noted settled_at
ready_life k i s =
    let r : SlotReport = slot_reported k s in
    let t : TrackKept = noted r s in
    let first : t.life ≡ s.life = either_life (is_home s.holder) (record s { own = no_counts }) (if is_reported r s then record s { reported = counts_in r } else s) s.life refl (either_life (is_reported r s) (record s { reported = counts_in r }) s s.life refl refl) in
    either_life (is_reached (heard k i s).flush_seen t.awaits) (record t { awaits = None; settled = t.settled + 1 }) t s.life first first

pub returning_away : (h : Holder) → is_returning h ≡ true → is_home h ≡ false
returning_away Home e = no e
returning_away Lent e = no e
returning_away Returning e = refl

pub scale_fits : (c : Setup) (i : ℕ) → All (λ (s : Setting). s.scale ≤ 4096) c.settings → i < length c.settings → (setting_of c i).scale ≤ 4096
scale_fits c i all lt = All-get_or (λ (s : Setting). s.scale ≤ 4096) c.settings i (record { fast = false; mono = false; scale = 0 }) lt all

-- a fact of each track by its number
pub set_each : (P : ℕ → TrackKept → Type 0) (tracks : List TrackKept) (i : ℕ) (s : TrackKept) → P i s → ((j : ℕ) → P j (track_at tracks j)) → (j : ℕ) → P j (track_at (slice_set tracks i s) j)
set_each P tracks i s here all j = elim (at_set tracks i s j) as (λ x. P j (track_at (slice_set tracks i s) j)) [
  | inl p ↦ subst (P j) (sym p.1) (subst (λ (n : ℕ). P n s) (sym p.0) here)
  | inr q ↦ subst (P j) (sym q) (all j)
]

-- a draft with another command carries the same tracks
pub sound_ordered : (tracks : List TrackKept) (draft : FastState) (command : Command) → IsSound tracks draft → IsSound tracks (with_command command draft)
sound_ordered tracks draft command h = record {
  slotted = h.slotted;
  drafted = (λ i. record { lent = (h.drafted i).lent; returning = (h.drafted i).returning; own = (h.drafted i).own });
  alone = h.alone;
  state = record { whole = h.state.whole; submix = h.state.submix; scaled = h.state.scaled };
}

pub takes_len : (asked : ℕ) (takes : List TakeSeen) (tracks : List TrackKept) → length (fold (after_take asked) tracks takes) ≡ length tracks
takes_len asked [] tracks = refl
takes_len asked (t ∷ takes) tracks = takes_len asked takes (after_take asked tracks t) ∙ length-set tracks t.track _

pub welcomed_at : (last : FastState) (tracks : List TrackKept) (i : ℕ) → track_at (map (welcomed last) tracks) i ≡ welcomed last (track_at tracks i)
unfolding welcomed
welcomed_at last [] i = refl
welcomed_at last (s ∷ tracks) zero = refl
welcomed_at last (s ∷ tracks) (suc i) = welcomed_at last tracks i
