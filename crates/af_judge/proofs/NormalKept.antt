-- What a judge keeps of the normal mixer, after a turn.
use Rattle.std.proofs.Common.{◌≡◌, ◌↔◌, ℕ, ◌+◌, ◌-◌, ◌^◌, ◌<◌, ◌≤◌, ◌&&◌, ◌||◌, Bool, true, false, true≢false, IsTrue, if◌then◌else◌, refl, sym, ap, ◌∙◌, subst, List, [], ◌∷◌, length, map, nat_eq, nat_le, inl, inr, arith}
use Rattle.af_judge.proofs.Common.{AllByRecursion, Busy, Clean, FastState, IsTake, IsTurn, Learnt, LegalTrack, NormalKept, NormalTake, Part, Plain, Push, Pushed, Setup, Take, TakeSeen, TrackKept, TrackSeen, TrackTurn, TracksRise, Turn, after_ack, after_edits, after_push, after_takes, asked, comes_home, is_pushed, mix, mixed_here, put_by, recursion_from_All, seen_at, served_to, slot_number, slots, take_of, take_seen, track_at, track_seen, tracks_due, turn_after, welcomed}
use Rattle.af_base.specs.Part.{take_of as part_of}
use Rattle.af_judge.proofs.Basics.{push_draft}
use Rattle.af_life.specs.Small.{IsSmall, turn_weight, most_tracks}
use Rattle.af_life.proofs.SmallTurns as small_turns
use Rattle.af_life.proofs.Weights.{looks_up_to}
use Rattle.af_judge.specs.NormalChanges.{is_edited}
use Rattle.af_judge.specs.NormalJudged.{NormalJudged, IsJudged}
use Rattle.af_judge.proofs.TurnEdits.{turn_changes, due_after}

-- ## What is put into the pipe

map_twice : {A B C : Type 0} (f : B → C) (g : A → B) (xs : List A) → map (λ x. f (g x)) xs ≡ map f (map g xs)
map_twice f g [] = refl
map_twice f g (x ∷ xs) = ap (λ ys. f (g x) ∷ ys) (map_twice f g xs)

-- the mix of the parts is what some takes put
pub put_is : (c : Setup) (takes : List NormalTake) (parts : List Part) (n : ℕ) → map part_of parts ≡ map (λ (t : NormalTake). take_of c (take_seen t)) takes → n ≡ asked c → nat_eq (length takes) 0 ≡ false → mix (map part_of parts) n ≡ put_by c (map take_seen takes)
put_is c [] parts n is many some = absurd (true≢false some)
put_is c (t ∷ takes) parts n is many some =
    ap (λ (ts : List Take). mix ts n) (is ∙ map_twice (take_of c) take_seen (t ∷ takes)) ∙ ap (λ (k : ℕ). mix (map (take_of c) (map take_seen (t ∷ takes))) k) many

-- ## What a turn finds

map_same : (ts : List TrackKept) → map (λ (t : TrackKept). t) ts ≡ ts
map_same [] = refl
map_same (t ∷ ts) = ap (λ xs. t ∷ xs) (map_same ts)

pub acked_is : (ack : Bool) (m : NormalKept) → map (λ (t : TrackKept). if ack then welcomed m.last t else t) m.tracks ≡ (after_ack ack m).tracks
acked_is true m = refl
acked_is false m = map_same m.tracks

either_slot : (b : Bool) (s t : TrackKept) → slot_number s ≡ slot_number t → slot_number (if b then s else t) ≡ slot_number t
either_slot true s t e = e
either_slot false s t e = refl

-- a track that comes home keeps its slot
pub found_slot : (ack : Bool) (last : FastState) (t : TrackKept) → slot_number (if ack then welcomed last t else t) ≡ slot_number t
unfolding welcomed
found_slot true last t = either_slot (comes_home last t) _ t refl
found_slot false last t = refl

-- the tracks found have slots that there are
pub found_slots : (t : ℕ) (c : Setup) (m : NormalKept) (ack : Bool) (found : List TrackKept) → IsSmall t c m → found ≡ (after_ack ack m).tracks → (i : ℕ) → slot_number (track_at found i) < slots
found_slots t c m ack found small is i =
    let a = ((small_turns.acked c t ack m small).tracks i).slot in let b = ap (λ (ts : List TrackKept). slot_number (track_at ts i)) is in omega (arith, a, b)

-- the tracks found have room for the commands of a turn
pub found_room : (t : ℕ) (c : Setup) (m : NormalKept) (e : Turn) (found : List TrackKept) (seen : List TrackSeen) → IsSmall t c m → t + turn_weight e ≤ 131072 → found ≡ (after_ack e.ack m).tracks → seen ≡ e.tracks
    → (i : ℕ) → (track_at found i).settled + length (seen_at seen i).looks < 2 ^ 24 - 1
found_room t c m e found seen small few is of i =
    let a = ((small_turns.acked c t e.ack m small).tracks i).settled in
    let b = ap (λ (ts : List TrackKept). (track_at ts i).settled) is in
    let l = looks_up_to e i in
    let n = ap (λ (ts : List TrackSeen). length (seen_at ts i).looks) of in
    omega (arith, a, b, l, n, few)

-- the tracks of takes rise, so there are no more takes than tracks
few_from : (tracks low : ℕ) (takes : List TakeSeen) → low ≤ tracks → TracksRise low takes → AllByRecursion (IsTake tracks) takes → low + length takes ≤ tracks
few_from tracks low [] le rise all = omega (arith, le)
few_from tracks low (t ∷ takes) le rise all =
    let below = all.0.track in let from = rise.0 in let more = few_from tracks (t.track + 1) takes (omega (arith, below)) rise.1 all.1 in omega (arith, below, from, more)

pub takes_so : (tracks : ℕ) (e : Turn) → IsTurn tracks e → tracks ≤ most_tracks → TracksRise 0 e.mixes × (length e.mixes ≤ most_tracks)
takes_so tracks e (inl ended) few = (subst (λ (x : Turn). TracksRise 0 x.mixes) (sym ended) tt, let n = ap (λ (x : Turn). length x.mixes) ended in omega (arith, n))
takes_so tracks e (inr form) few = (form.rise, let n = few_from tracks 0 e.mixes (omega arith) form.rise (recursion_from_All (IsTake tracks) e.mixes form.takes) in omega (arith, n, few))

-- ## What a turn leaves

pub goes_on_so : (c : Setup) (k : Learnt) (m : NormalKept) (e : Turn) → e.ended ≡ false → turn_after c k m e ≡ after_takes c e.mixes (after_push e.push (after_edits c k e m))
unfolding turn_after
goes_on_so c k m e open_is = ap (λ (b : Bool). if b then record m { ended = true } else after_takes c e.mixes (after_push e.push (after_edits c k e m))) open_is

pub rests_so : (c : Setup) (k : Learnt) (m : NormalKept) (e : Turn) → e.ended ≡ true → turn_after c k m e ≡ record m { ended = true }
unfolding turn_after
rests_so c k m e ended = ap (λ (b : Bool). if b then record m { ended = true } else after_takes c e.mixes (after_push e.push (after_edits c k e m))) ended

-- the state pushed last
push_last : (push : Push) (x : NormalKept) → (after_push push x).last ≡ (if is_pushed push then x.draft else x.last)
push_last (Pushed number) x = refl
push_last Clean x = refl
push_last (Busy seen expected) x = refl

-- `p` is the mixer after the turn
module _ (c : Setup) (k : Learnt) (m : NormalKept) (e : Turn) (p : Plain) (after : p.kept ≡ turn_after c k m e) (open_is : e.ended ≡ false) where
  went : p.kept ≡ after_takes c e.mixes (after_push e.push (after_edits c k e m))
  went = after ∙ goes_on_so c k m e open_is

  pub draft_so : p.kept.draft ≡ (after_edits c k e m).draft
  draft_so = ap (λ (x : NormalKept). x.draft) went ∙ push_draft e.push (after_edits c k e m)

  pub last_so : p.kept.last ≡ (if is_pushed e.push then p.kept.draft else m.last)
  last_so = ap (λ (x : NormalKept). x.last) went ∙ push_last e.push (after_edits c k e m)
      ∙ ap (λ (x : FastState). if is_pushed e.push then x else (after_edits c k e m).last) (sym draft_so)
      ∙ ap (λ (x : FastState). if is_pushed e.push then p.kept.draft else x) (turn_changes c k e m).last

  pub dirty_so : (dirty : Bool) (before now : FastState) (to_push : Bool) → dirty ≡ m.dirty → before ≡ m.draft → now ≡ p.kept.draft → to_push ≡ (dirty || is_edited before now) → (after_edits c k e m).dirty ≡ to_push
  dirty_so dirty before now to_push is_dirty is_before is_now is =
      (turn_changes c k e m).dirty
      ∙ ap (λ (x : FastState). m.dirty || is_edited m.draft x) (sym (is_now ∙ draft_so))
      ∙ ap (λ (x : FastState). m.dirty || is_edited x now) (sym is_before)
      ∙ ap (λ (b : Bool). b || is_edited before now) (sym is_dirty)
      ∙ sym is

  pub pushed_so : (after_edits c k e m).pushed ≡ m.pushed
  pushed_so = (turn_changes c k e m).pushed

  pub due_so : (room : ℕ) → tracks_due c room p.kept.tracks ≡ tracks_due c room (after_edits c k e m).tracks
  due_so room = ap (λ (ns : List ℕ). if nat_le (asked c) room then ns else []) (ap (λ (x : NormalKept). mixed_here x.tracks) went ∙ due_after (asked c) e.mixes e.push (after_edits c k e m))

-- what is judged stays so
pub still_judged : (j : NormalJudged) (p : Plain) (states : List FastState) (last : FastState) → IsJudged j → p.setup ≡ j.plain.setup → last ≡ p.kept.last → IsSmall p.turns p.setup p.kept → IsJudged (record j { plain = p; last = last; states = states })
still_judged j p states last judged setup is small = record { setup = judged.setup ∙ sym setup; last = is; small = small }

-- both of two tests
pub both_so : {A B : Type 0} (a b : Bool) → (IsTrue a ↔ A) → (IsTrue b ↔ B) → IsTrue (a && b) ↔ (A × B)
both_so true b f g = ((λ x. (f.0 refl, g.0 x)), (λ x. g.1 x.1))
both_so false b f g = ((λ x. absurd (true≢false (sym x))), (λ x. absurd (true≢false (sym (f.1 x.0)))))

-- the tracks were served, by what is judged
pub served_so : (c d : Setup) (k : Learnt) (turns all : List TrackTurn) (found tracks : List TrackKept) (n : ℕ) (r : Bool) → c ≡ d → turns ≡ all → found ≡ tracks → length tracks ≡ n
    → (IsTrue r ↔ ((i : ℕ) → i < length found → LegalTrack c k (seen_at (map track_seen turns) i) (served_to c k (map track_seen turns) found i) i))
    → IsTrue r ↔ ((i : ℕ) → i < n → LegalTrack d k (seen_at (map track_seen all) i) (served_to d k (map track_seen all) tracks i) i)
served_so c d k turns all found tracks n r setup given is many h =
    subst (λ (n : ℕ). IsTrue r ↔ ((i : ℕ) → i < n → LegalTrack d k (seen_at (map track_seen all) i) (served_to d k (map track_seen all) tracks i) i)) many
    (subst (λ (ts : List TrackKept). IsTrue r ↔ ((i : ℕ) → i < length ts → LegalTrack d k (seen_at (map track_seen all) i) (served_to d k (map track_seen all) ts i) i)) is
    (subst (λ (xs : List TrackTurn). IsTrue r ↔ ((i : ℕ) → i < length found → LegalTrack d k (seen_at (map track_seen xs) i) (served_to d k (map track_seen xs) found i) i)) given
    (subst (λ (x : Setup). IsTrue r ↔ ((i : ℕ) → i < length found → LegalTrack x k (seen_at (map track_seen turns) i) (served_to x k (map track_seen turns) found i) i)) setup h)))

-- the tracks of the takes are those due, if they are so by what is the same
pub due_by : (takes all : List NormalTake) (c d : Setup) (room : ℕ) (tracks now : List TrackKept) (due : List ℕ) (r : Bool) → takes ≡ all → c ≡ d → tracks ≡ now → tracks_due d room now ≡ due
    → (IsTrue r ↔ (map (λ (t : TakeSeen). t.track) (map take_seen takes) ≡ tracks_due c room tracks)) → IsTrue r ↔ (map (λ (t : TakeSeen). t.track) (map take_seen all) ≡ due)
due_by takes all c d room tracks now due r given setup same is h =
    subst (λ (xs : List NormalTake). IsTrue r ↔ (map (λ (t : TakeSeen). t.track) (map take_seen xs) ≡ due)) given
    (subst (λ (ns : List ℕ). IsTrue r ↔ (map (λ (t : TakeSeen). t.track) (map take_seen takes) ≡ ns)) (ap (λ (x : Setup). tracks_due x room tracks) setup ∙ ap (tracks_due d room) same ∙ is) h)
