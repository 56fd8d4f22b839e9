-- A turn of the normal mixer, whatever it saw, keeps what holds of the slots that the draft and the last state carry.
use Rattle.std.proofs.Common.{◌≡◌, ◌≢◌, ℕ, zero, suc, ◌<◌, ◌≤◌, ◌&&◌, not, Bool, true, false, if◌then◌else◌, true≢false, is_some, sym, refl, ap, subst, ◌∙◌, inl, inr, List, [], ◌∷◌, length, fold, All, ⊎_elim, Option, Some, ◌+◌, arith}
use Rattle.af_judge.proofs.Common.{Busy, Clean, Command, FastState, FastTrack, Heard, Holder, Home, IsSound, Learnt, Lent, NormalKept, Push, Pushed, Returning, Setting, Setup, TakeSeen, TrackKept, TrackSeen, Turn, acked_len, after_ack, after_edits, after_push, after_take, after_takes, after_tracks, and_false, asked, at_here, at_other, at_set, away_holds, both, carries, cases_eq, detached, edited, edited_to, edits_len, entered, holds, inside, is_home, is_lent, is_returning, lend, lent_away, lent_by, let_go, must_enter, must_leave, mutated, new_normal, no, number_of, ordered, scale_fits, seen_at, served, served_len, served_to, setting_of, slice_set, slot_for, slot_number, slot_of, slots, sound_ordered, stays_out, track_at, turn_after, welcomed_at}
use Rattle.af_judge.proofs.Basics.{some_number}
use Rattle.af_judge.specs.Entries.{CarriesApart, CarriesWithin}
use Rattle.af_judge.specs.StatesKept.{Carried, CarriesBy, IsAway, IsLent, SameSlots}
use Rattle.af_life.proofs.DraftBits.{attached_else, detached_else, detached_here, initial_none, slot_else, slot_here}
use Rattle.af_life.proofs.SoundEdits.{comer_holds, comer_home, comer_inside, comer_slot, leaver_slot, sound_go, sound_lend}
use Rattle.af_life.proofs.SoundLives.{Goes, goes_served}
use Rattle.af_life.proofs.SoundSlots.{sound_served}
use Rattle.af_life.proofs.SoundTurns.{sound_acked, sound_new, sound_takes}

-- ## Tracks that stay away

-- a track whose proxy is away keeps its slot, and its proxy stays where it is
abbrev StayAway : List TrackKept → List TrackKept → Type 0
StayAway before after = (i : ℕ) → is_home (track_at before i).holder ≡ false → ((track_at after i).slot ≡ (track_at before i).slot) × ((track_at after i).holder ≡ (track_at before i).holder)

stay_then : (a b c : List TrackKept) → StayAway a b → StayAway b c → StayAway a c
stay_then a b c p q i away = let x = p i away in let y = q i (ap is_home x.1 ∙ away) in (y.0 ∙ x.0, y.1 ∙ x.1)

carried_stay : (Is : Holder → Type 0) → ((h : Holder) → Is h → is_home h ≡ false) → (before after : List TrackKept) → StayAway before after → (x : FastState) → CarriesBy Is before x → CarriesBy Is after x
carried_stay Is away before after stay x c k lt on = let h = c k lt on in let s = stay (slot_of x k).track (away _ h.1) in (s.0 ∙ h.0, subst Is (sym s.1) h.1)

-- tracks that are away stay if one is replaced that leaves its own track so
set_stay : (tracks : List TrackKept) (i : ℕ) (t : TrackKept) → (is_home (track_at tracks i).holder ≡ false → (t.slot ≡ (track_at tracks i).slot) × (t.holder ≡ (track_at tracks i).holder)) → StayAway tracks (slice_set tracks i t)
set_stay tracks i t stays j away = elim (at_set tracks i t j) as (λ x. ((track_at (slice_set tracks i t) j).slot ≡ (track_at tracks j).slot) × ((track_at (slice_set tracks i t) j).holder ≡ (track_at tracks j).holder)) [
  | inl p ↦ (
    ap (λ (x : TrackKept). x.slot) p.1 ∙ (stays (ap (λ (n : ℕ). is_home (track_at tracks n).holder) (sym p.0) ∙ away)).0 ∙ ap (λ (n : ℕ). (track_at tracks n).slot) (sym p.0),
    ap (λ (x : TrackKept). x.holder) p.1 ∙ (stays (ap (λ (n : ℕ). is_home (track_at tracks n).holder) (sym p.0) ∙ away)).1 ∙ ap (λ (n : ℕ). (track_at tracks n).holder) (sym p.0),
  )
  | inr q ↦ (ap (λ (x : TrackKept). x.slot) q, ap (λ (x : TrackKept). x.holder) q)
]

-- the tracks are served
one_stays : (c : Setup) (k : Learnt) (seen : List TrackSeen) (draft : FastState) (tracks : List TrackKept) (i : ℕ) → IsSound tracks draft → StayAway tracks (slice_set tracks i (served c k (seen_at seen i).looks tracks i))
one_stays c k seen draft tracks i sound =
    let s : TrackKept = track_at tracks i in
    let t : TrackKept = served c k (seen_at seen i).looks tracks i in
    let goes : Goes (slot_for c tracks i) s t = goes_served c k (seen_at seen i).looks tracks i (sound.slotted i).unopened in
    set_stay tracks i t (λ away. (
      elim goes.slot as (λ x. t.slot ≡ s.slot) [
        | inl e ↦ e
        | inr g ↦ absurd (true≢false (sym ((sound.slotted i).homely g.0) ∙ away))
      ],
      goes.holder,
    ))

served_stay : (c : Setup) (k : Learnt) (seen : List TrackSeen) (draft : FastState) (tracks : List TrackKept) (n : ℕ) → IsSound tracks draft → StayAway tracks (served_to c k seen tracks n)
served_stay c k seen draft tracks zero sound = λ i away. (refl, refl)
served_stay c k seen draft tracks (suc n) sound = stay_then tracks (served_to c k seen tracks n) (served_to c k seen tracks (suc n)) (served_stay c k seen draft tracks n sound)
    (one_stays c k seen draft (served_to c k seen tracks n) n (sound_served c k seen draft tracks n sound))

-- tracks that are away stay if takes are counted
takes_stay : (asked : ℕ) (takes : List TakeSeen) (tracks : List TrackKept) → StayAway tracks (fold (after_take asked) tracks takes)
takes_stay asked [] tracks = λ i away. (refl, refl)
takes_stay asked (take ∷ takes) tracks = stay_then tracks (after_take asked tracks take) (fold (after_take asked) tracks (take ∷ takes)) (set_stay tracks take.track _ (λ away. (refl, refl))) (takes_stay asked takes (after_take asked tracks take))

lent_is_away : (h : Holder) → IsLent h → is_home h ≡ false
lent_is_away h e = lent_away h e

-- ## A state whose slots stay those of their tracks

-- each slot that it carries is that of its track, whose proxy is away, and is the same in the draft
record IsKnown (m : NormalKept) (x : FastState) : Type 0 where
  away : CarriesBy IsAway m.tracks x
  same : SameSlots m.draft x

-- ## The acknowledgement

lent_no_return : (h : Holder) → is_lent h ≡ true → is_returning h ≡ false
lent_no_return Home e = no e
lent_no_return Lent e = refl
lent_no_return Returning e = no e

pub carried_acked : (ack : Bool) (m : NormalKept) → Carried m → Carried (after_ack ack m)
carried_acked false m c = c
carried_acked true m c = record {
  sound = sound_acked true m c.sound;
  draft = (λ k lt on. let h = c.draft k lt on in let n : ℕ = (slot_of m.draft k).track in let s : TrackKept = track_at m.tracks n in
      subst (λ (t : TrackKept). (t.slot ≡ Some k) × IsLent t.holder) (sym (welcomed_at m.last m.tracks n ∙ stays_out m.last s (ap (λ (b : Bool). b && not (carries m.last (slot_number s))) (lent_no_return s.holder h.1)))) h);
  last = (λ k lt on. let h = c.last k lt on in let n : ℕ = (slot_of m.last k).track in let s : TrackKept = track_at m.tracks n in
      let carried : carries m.last (slot_number s) ≡ true = ap (λ (o : Option ℕ). carries m.last (number_of o)) h.0 ∙ on in
      subst (λ (t : TrackKept). (t.slot ≡ Some k) × IsAway t.holder) (sym (welcomed_at m.last m.tracks n ∙ stays_out m.last s (ap (λ (b : Bool). is_returning s.holder && not b) carried ∙ and_false (is_returning s.holder)))) h);
  same = c.same;
}

-- ## The tracks are served

known_served : (c : Setup) (k : Learnt) (e : Turn) (m : NormalKept) (x : FastState) → Carried m → IsKnown m x → IsKnown (after_tracks c k e m) x
known_served c k e m x h known = record {
  away = carried_stay IsAway (λ h e. e) m.tracks (served_to c k e.tracks m.tracks (length m.tracks)) (served_stay c k e.tracks m.draft m.tracks (length m.tracks) h.sound) x known.away;
  same = known.same;
}

pub carried_served : (c : Setup) (k : Learnt) (e : Turn) (m : NormalKept) → Carried m → Carried (after_tracks c k e m)
carried_served c k e m h =
    let after : List TrackKept = served_to c k e.tracks m.tracks (length m.tracks) in
    let stay : StayAway m.tracks after = served_stay c k e.tracks m.draft m.tracks (length m.tracks) h.sound in
    let known = known_served c k e m m.last h (record { away = h.last; same = h.same }) in record {
      sound = sound_served c k e.tracks m.draft m.tracks (length m.tracks) h.sound;
      draft = carried_stay IsLent lent_is_away m.tracks after stay m.draft h.draft;
      last = known.away;
      same = known.same;
    }

-- ## The edits

-- a track that has another slot, or is elsewhere, is another track
other_track : (tracks : List TrackKept) (n i k : ℕ) → (track_at tracks n).slot ≡ Some k → k ≢ slot_number (track_at tracks i) → n ≢ i
other_track tracks n i k slot ne e = ne (sym (ap number_of slot) ∙ ap (λ (j : ℕ). slot_number (track_at tracks j)) e)

other_place : (tracks : List TrackKept) (n i : ℕ) → is_home (track_at tracks n).holder ≡ false → is_home (track_at tracks i).holder ≡ true → n ≢ i
other_place tracks n i away home e = true≢false (sym home ∙ ap (λ (j : ℕ). is_home (track_at tracks j).holder) (sym e) ∙ away)

-- a track leaves
module _ (m : NormalKept) (c : Carried m) (i : ℕ) (leaves : must_leave (track_at m.tracks i) ≡ true) where
  abbrev k0 : ℕ
  k0 = slot_number (track_at m.tracks i)

  still : (k : ℕ) → k < slots → carries (detached (slot_number (track_at m.tracks i)) m.draft) k ≡ true → (k ≢ slot_number (track_at m.tracks i)) × (carries m.draft k ≡ true)
  still k lt on =
      let low = leaver_slot m c.sound i leaves in
      ⊎_elim
      (λ (e : k ≡ k0). no (sym (ap (carries (detached k0 m.draft)) e ∙ detached_here k0 m.draft low.0 low.1) ∙ on))
      (λ (ne : k ≢ k0). (ne, sym (detached_else k0 m.draft low.0 low.1 k lt ne) ∙ on))
      (cases_eq k k0)

  known_go : (x : FastState) → IsKnown m x → IsKnown (let_go i m) x
  unfolding let_go
  known_go x known =
      let s : TrackKept = record (track_at m.tracks i) { holder = Returning } in record {
        away = (λ k lt on. let h = known.away k lt on in let n : ℕ = (slot_of x k).track in elim (at_set m.tracks i s n) as (λ w. ((track_at (slice_set m.tracks i s) n).slot ≡ Some k) × IsAway (track_at (slice_set m.tracks i s) n).holder) [
          | inl p ↦ (ap (λ (t : TrackKept). t.slot) p.1 ∙ ap (λ (j : ℕ). (track_at m.tracks j).slot) (sym p.0) ∙ h.0, ap (λ (t : TrackKept). is_home t.holder) p.1)
          | inr q ↦ subst (λ (t : TrackKept). (t.slot ≡ Some k) × IsAway t.holder) (sym q) h
        ]);
        same = (λ k lt on also. let p = still k lt on in known.same k lt p.1 also);
      }

  carried_go : Carried (let_go i m)
  unfolding let_go
  carried_go =
      let s : TrackKept = record (track_at m.tracks i) { holder = Returning } in
      let known = known_go m.last (record { away = c.last; same = c.same }) in record {
        sound = sound_go m c.sound i leaves;
        draft = (λ k lt on. let p = still k lt on in let h = c.draft k lt p.1 in let n : ℕ = (slot_of m.draft k).track in
            subst (λ (t : TrackKept). (t.slot ≡ Some k) × IsLent t.holder) (sym (at_other m.tracks i s n (other_track m.tracks n i k h.0 p.0))) h);
        last = known.away;
        same = known.same;
      }

-- a track enters
module _ (m : NormalKept) (c : Carried m) (b : Setup) (i : ℕ) (own : Heard) (enters : must_enter (track_at m.tracks i) ≡ true) (fine : (setting_of b i).scale ≤ 4096) where
  abbrev k1 : ℕ
  k1 = slot_number (track_at m.tracks i)

  abbrev more : FastState
  more = entered b i m

  abbrev s1 : TrackKept
  s1 = lent_by (entered b i m) own (track_at m.tracks i)

  low1 : (1 ≤ slot_number (track_at m.tracks i)) × (slot_number (track_at m.tracks i) < slots)
  low1 = comer_slot m c.sound b i own enters

  -- a state that is known doesn't carry the slot of a track that enters
  known_not : (x : FastState) → IsKnown m x → carries x (slot_number (track_at m.tracks i)) ≡ true → ⊥
  known_not x known on =
      let h = known.away k1 low1.1 on in
      let n : ℕ = (slot_of x k1).track in
      let holds_it : holds k1 (track_at m.tracks n) ≡ true = ap (λ (k : ℕ). holds k (track_at m.tracks n)) (sym (ap number_of h.0)) ∙ away_holds (track_at m.tracks n) (c.sound.slotted n) h.1 in
      other_place m.tracks n i h.1 (comer_home m c.sound b i own enters) (c.sound.alone n i k1 holds_it (comer_holds m c.sound b i own enters))

  slot_so : slot_of (entered b i m) (slot_number (track_at m.tracks i)) ≡ record { generation = (slot_of m.draft k1).generation + 1; track = i; mono = (setting_of b i).mono; scale = (setting_of b i).scale }
  slot_so = slot_here k1 (setting_of b i).mono (setting_of b i).scale i m.draft low1.0 low1.1 c.sound.state

  else_so : (k : ℕ) → k ≢ slot_number (track_at m.tracks i) → (carries (entered b i m) k ≡ carries m.draft k) × (slot_of (entered b i m) k ≡ slot_of m.draft k)
  else_so k ne = (attached_else k1 (setting_of b i).mono (setting_of b i).scale i m.draft low1.0 low1.1 c.sound.state k ne, slot_else k1 (setting_of b i).mono (setting_of b i).scale i m.draft low1.0 low1.1 c.sound.state k ne)

  abbrev LentHere : ℕ → ℕ → Type 0
  LentHere k n = ((track_at (slice_set m.tracks i s1) n).slot ≡ Some k) × IsLent (track_at (slice_set m.tracks i s1) n).holder

  draft_lent : CarriesBy IsLent (slice_set m.tracks i s1) (entered b i m)
  draft_lent k lt on = ⊎_elim
      (λ (e : k ≡ k1). subst (LentHere k) (sym (ap (λ (j : ℕ). (slot_of more j).track) e ∙ ap (λ (t : FastTrack). t.track) slot_so))
      (subst (λ (t : TrackKept). (t.slot ≡ Some k) × IsLent t.holder) (sym (at_here m.tracks i s1 (comer_inside m c.sound b i own enters)))
      (some_number (track_at m.tracks i).slot (both _ _ (both _ _ enters).1).0 ∙ ap (λ (j : ℕ). Some j) (sym e), refl)))
      (λ (ne : k ≢ k1). let other = else_so k ne in let h = c.draft k lt (sym other.0 ∙ on) in let n : ℕ = (slot_of m.draft k).track in
      subst (LentHere k) (sym (ap (λ (t : FastTrack). t.track) other.1))
      (subst (λ (t : TrackKept). (t.slot ≡ Some k) × IsLent t.holder) (sym (at_other m.tracks i s1 n (other_place m.tracks n i (lent_away _ h.1) (comer_home m c.sound b i own enters)))) h))
      (cases_eq k k1)

  known_lend : (x : FastState) → IsKnown m x → IsKnown (lend b i own m) x
  unfolding lend
  known_lend x known = record {
    away = (λ k lt on. let h = known.away k lt on in let n : ℕ = (slot_of x k).track in
        subst (λ (t : TrackKept). (t.slot ≡ Some k) × IsAway t.holder) (sym (at_other m.tracks i s1 n (other_place m.tracks n i h.1 (comer_home m c.sound b i own enters)))) h);
    same = (λ k lt on also. ⊎_elim
        (λ (e : k ≡ k1). absurd (known_not x known (ap (carries x) (sym e) ∙ also)))
        (λ (ne : k ≢ k1). let other = else_so k ne in other.1 ∙ known.same k lt (sym other.0 ∙ on) also)
        (cases_eq k k1));
  }

  carried_lend : Carried (lend b i own m)
  unfolding lend
  carried_lend =
      let known = known_lend m.last (record { away = c.last; same = c.same }) in record {
        sound = sound_lend m c.sound b i own enters fine;
        draft = draft_lent;
        last = known.away;
        same = known.same;
      }

by_test : (b : Bool) (m n : NormalKept) → (b ≡ true → Carried m) → (b ≡ false → Carried n) → Carried (if b then m else n)
by_test true m n f g = f refl
by_test false m n f g = g refl

known_by : (x : FastState) (b : Bool) (m n : NormalKept) → (b ≡ true → IsKnown m x) → (b ≡ false → IsKnown n x) → IsKnown (if b then m else n) x
known_by x true m n f g = f refl
known_by x false m n f g = g refl

module _ (b : Setup) (scales : All (λ (s : Setting). s.scale ≤ 4096) b.settings) (k : Learnt) where
  carried_edited : (i : ℕ) (m : NormalKept) → length m.tracks ≤ length b.settings → Carried m → Carried (edited b k i m)
  unfolding edited
  carried_edited i m few h = by_test (must_leave (track_at m.tracks i)) _ _ (λ e. carried_go m h i e)
      (λ stays. by_test (must_enter (track_at m.tracks i)) _ m
      (λ e. carried_lend m h b i (k.own i) e (scale_fits b i scales (let l = comer_inside m h.sound b i (k.own i) e in omega (arith, l, few))))
      (λ f. h))

  carried_edits : (n : ℕ) (m : NormalKept) → length m.tracks ≤ length b.settings → Carried m → Carried (edited_to b k m n)
  carried_edits zero m few h = h
  carried_edits (suc n) m few h = carried_edited n (edited_to b k m n) (let l = edits_len b k m n in omega (arith, l, few)) (carried_edits n m few h)

  -- ## The command

  carried_command : (command : Command) (m : NormalKept) → Carried m → Carried (ordered command m)
  unfolding ordered
  carried_command command m h = by_test _ m _ (λ e. h) (λ e. record { sound = sound_ordered m.tracks m.draft command h.sound; draft = h.draft; last = h.last; same = h.same })

  carried_mutated : (room : ℕ) (m : NormalKept) → length m.tracks ≤ length b.settings → Carried m → Carried (mutated b k room m)
  unfolding mutated
  carried_mutated room m few h = carried_command _ (edited_to b k m (length m.tracks)) (carried_edits (length m.tracks) m few h)

  -- all edits of a turn keep what is carried
  pub carried_after_edits : (e : Turn) (m : NormalKept) → length m.tracks ≤ length b.settings → Carried m → Carried (after_edits b k e m)
  carried_after_edits e m few h = carried_mutated e.room (after_tracks b k e (after_ack e.ack m))
      (let l = served_len b k e.tracks (after_ack e.ack m).tracks (length (after_ack e.ack m).tracks) in let a = acked_len e.ack m in omega (arith, l, a, few))
      (carried_served b k e (after_ack e.ack m) (carried_acked e.ack m h))

  known_edited : (i : ℕ) (m : NormalKept) (x : FastState) → length m.tracks ≤ length b.settings → Carried m → IsKnown m x → IsKnown (edited b k i m) x
  unfolding edited
  known_edited i m x few h known = known_by x (must_leave (track_at m.tracks i)) _ _ (λ e. known_go m h i e x known)
      (λ stays. known_by x (must_enter (track_at m.tracks i)) _ m
      (λ e. known_lend m h b i (k.own i) e (scale_fits b i scales (let l = comer_inside m h.sound b i (k.own i) e in omega (arith, l, few))) x known)
      (λ f. known))

  known_edits : (n : ℕ) (m : NormalKept) (x : FastState) → length m.tracks ≤ length b.settings → Carried m → IsKnown m x → IsKnown (edited_to b k m n) x
  known_edits zero m x few h known = known
  known_edits (suc n) m x few h known = known_edited n (edited_to b k m n) x (let l = edits_len b k m n in omega (arith, l, few)) (carried_edits n m few h) (known_edits n m x few h known)

  known_command : (command : Command) (m : NormalKept) (x : FastState) → IsKnown m x → IsKnown (ordered command m) x
  unfolding ordered
  known_command command m x known = known_by x _ m _ (λ e. known) (λ e. record { away = known.away; same = known.same })

  known_mutated : (room : ℕ) (m : NormalKept) (x : FastState) → length m.tracks ≤ length b.settings → Carried m → IsKnown m x → IsKnown (mutated b k room m) x
  unfolding mutated
  known_mutated room m x few h known = known_command _ (edited_to b k m (length m.tracks)) x (known_edits (length m.tracks) m x few h known)

  -- a slot that the draft carries before a turn and after its edits is the same in both
  pub draft_stays : (e : Turn) (m : NormalKept) → length m.tracks ≤ length b.settings → Carried m → SameSlots (after_edits b k e m).draft m.draft
  draft_stays e m few h =
      let acked : NormalKept = after_ack e.ack m in
      let c : Carried acked = carried_acked e.ack m h in
      let known = known_mutated e.room (after_tracks b k e acked) m.draft
      (let l = served_len b k e.tracks acked.tracks (length acked.tracks) in let a = acked_len e.ack m in omega (arith, l, a, few))
      (carried_served b k e acked c) (known_served b k e acked m.draft c (by_ack e.ack c)) in
      known.same
    where
      by_ack : (ack : Bool) → Carried (after_ack ack m) → IsKnown (after_ack ack m) m.draft
      by_ack true c = record { away = (λ k lt on. let p = c.draft k lt on in (p.0, lent_away _ p.1)); same = (λ k lt on also. refl) }
      by_ack false c = record { away = (λ k lt on. let p = c.draft k lt on in (p.0, lent_away _ p.1)); same = (λ k lt on also. refl) }

  -- ## The push and the takes

  carried_pushed : (push : Push) (m : NormalKept) → Carried m → Carried (after_push push m)
  carried_pushed (Pushed number) m h = record { sound = h.sound; draft = h.draft; last = (λ k lt on. let x = h.draft k lt on in (x.0, lent_away _ x.1)); same = (λ k lt on also. refl) }
  carried_pushed Clean m h = h
  carried_pushed (Busy seen expected) m h = h

  carried_takes : (takes : List TakeSeen) (m : NormalKept) → Carried m → Carried (after_takes b takes m)
  carried_takes takes m h =
      let after : List TrackKept = fold (after_take (asked b)) m.tracks takes in
      let stay : StayAway m.tracks after = takes_stay (asked b) takes m.tracks in record {
        sound = sound_takes (asked b) m.draft takes m.tracks h.sound;
        draft = carried_stay IsLent lent_is_away m.tracks after stay m.draft h.draft;
        last = carried_stay IsAway (λ h e. e) m.tracks after stay m.last h.last;
        same = h.same;
      }

  -- ## The whole turn

  pub carried_turn : (m : NormalKept) (e : Turn) → length m.tracks ≤ length b.settings → Carried m → Carried (turn_after b k m e)
  unfolding turn_after
  carried_turn m e few h = by_test e.ended (record m { ended = true }) _ (λ f. record { sound = h.sound; draft = h.draft; last = h.last; same = h.same })
      (λ f. carried_takes e.mixes (after_push e.push (after_edits b k e m)) (carried_pushed e.push (after_edits b k e m) (carried_after_edits e m few h)))

-- what is carried is so before the first turn
pub carried_new : (c : Setup) → Carried (new_normal c)
carried_new c = record {
  sound = sound_new c;
  draft = (λ k lt on. no (sym (initial_none c.frames k) ∙ on));
  last = (λ k lt on. no (sym (initial_none c.frames k) ∙ on));
  same = (λ k lt on also. no (sym (initial_none c.frames k) ∙ on));
}

-- ## What a state carries

-- each track in one slot at most
pub carries_apart : (tracks : List TrackKept) (x : FastState) → CarriesBy IsLent tracks x → CarriesApart x
carries_apart tracks x c i j li lj on also same =
    let h = (c i li on).0 in
    let g = (c j lj also).0 in
    ap number_of (sym h ∙ ap (λ (n : ℕ). (track_at tracks n).slot) same ∙ g)

-- a state carries no track that isn't there
pub carries_within : (tracks : List TrackKept) (x : FastState) → CarriesBy IsLent tracks x → CarriesWithin (length tracks) x
carries_within tracks x c i lt on = inside tracks (slot_of x i).track (ap is_some (c i lt on).0)
