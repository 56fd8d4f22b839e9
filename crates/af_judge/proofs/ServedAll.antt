-- The tracks served so far, one after the other.
use Rattle.std.proofs.Common.{◌≡◌, ◌↔◌, ℕ, suc, ◌<◌, Bool, IsTrue, sym, ap, ◌∙◌, subst, List, length, map, arith}
use Rattle.af_judge.proofs.Common.{CommandLook, Learnt, LegalTrack, Setup, TrackKept, TrackSeen, TrackTurn, not_yet, nothing_seen, seen_at, served, served_len, served_to, slice_index_or, slice_set, slot_number, track_at, track_seen}
use Rattle.std.proofs.lemmas.List as lists

-- what a turn did of the track of a number, by the program's list
pub seen_is : (turns : List TrackTurn) (i : ℕ) (t : TrackTurn) → i < length turns → t ≡ slice_index_or turns i t → seen_at (map track_seen turns) i ≡ track_seen t
seen_is turns i t there is = lists.get_or-map track_seen turns i t nothing_seen there ∙ ap track_seen (sym is)

-- how many looks a turn made at the track of a number
pub looks_are : (turns : List TrackTurn) (i : ℕ) (t : TrackTurn) (looks : List CommandLook) → i < length turns → t ≡ slice_index_or turns i t → looks ≡ t.looks.items → length looks ≡ length (seen_at (map track_seen turns) i).looks
looks_are turns i t looks there is of = ap (λ (ls : List CommandLook). length ls) of ∙ sym (ap (λ (x : TrackSeen). length x.looks) (seen_is turns i t there is))

-- `now` are the tracks once the first ones were served
module _ (c : Setup) (k : Learnt) (seen : List TrackSeen) (tracks now : List TrackKept) (i : ℕ) (so_far : now ≡ served_to c k seen tracks i) where
  pub as_many : length now ≡ length tracks
  as_many = ap (λ (ts : List TrackKept). length ts) so_far ∙ served_len c k seen tracks i

  -- the next one is as it was
  track_is : track_at now i ≡ track_at tracks i
  track_is = ap (λ (ts : List TrackKept). track_at ts i) so_far ∙ not_yet c k seen tracks i i (omega arith)

  pub slot_is : slot_number (track_at now i) ≡ slot_number (track_at tracks i)
  slot_is = ap slot_number track_is

  pub settled_is : (track_at now i).settled ≡ (track_at tracks i).settled
  settled_is = ap (λ (t : TrackKept). t.settled) track_is

  pub next : (ts : List TrackKept) (looks : List CommandLook) (t : TrackKept) (j : ℕ) → ts ≡ now → looks ≡ (seen_at seen i).looks → t ≡ served c k looks ts i → j ≡ suc i → slice_set now i t ≡ served_to c k seen tracks j
  next ts looks t j same seen_so is one =
      ap (slice_set now i) (is ∙ ap (λ (ls : List CommandLook). served c k ls ts i) seen_so ∙ ap (λ (xs : List TrackKept). served c k (seen_at seen i).looks xs i) same)
      ∙ ap (λ (xs : List TrackKept). slice_set xs i (served c k (seen_at seen i).looks xs i)) so_far
      ∙ ap (served_to c k seen tracks) (sym one)

  pub legal_so : (s : TrackSeen) (r : Bool) → s ≡ seen_at seen i → (IsTrue r ↔ LegalTrack c k s now i) → IsTrue r ↔ LegalTrack c k (seen_at seen i) (served_to c k seen tracks i) i
  legal_so s r is legal = subst (λ (xs : List TrackKept). IsTrue r ↔ LegalTrack c k (seen_at seen i) xs i) so_far (subst (λ (x : TrackSeen). IsTrue r ↔ LegalTrack c k x now i) is legal)
