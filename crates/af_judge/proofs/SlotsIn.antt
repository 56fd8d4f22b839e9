-- No slot behind the last one of a state's mask is carried: such slots change nothing.
use Rattle.std.specs.Prelude.{◌↔◌}
use Rattle.std.proofs.Common.{◌≡◌, ◌⊎◌, inl, inr, ℕ, zero, suc, ◌+◌, ◌-◌, ◌<◌, ◌≤◌, ◌==◌, ◌&&◌, ◌||◌, ◌^◌, Bool, true, false, true≢false, if◌then◌else◌, not, List, map, refl, sym, ap, ◌∙◌, subst, arith}
use Rattle.std.specs.Int.{bit_at}
use Rattle.std.specs.Int.Bits.{bit_or, or_zero_r}
use Rattle.af_judge.proofs.Common.{CycleEntry, FastState, Frame, and_false, carries, cases_lt, entry_slot, frames_taken, is_shown, list_any, mono_marks, or_false, packed_word, range_with_len, slot_of, slots}
use Rattle.af_judge.specs.declared.track_judge.TrackJudge.{TrackJudge}
use Rattle.af_judge.specs.Blocks.{played_told}
use Rattle.af_judge.specs.FastKept.{AreSlotsRight, IsSlotRight, carries_track, slot_played, slots_played, stream_changed}
use Rattle.af_judge.proofs.Ranges.{any_more}

-- no slot from this one on is carried
abbrev pub NoneFrom : FastState → ℕ → Type 0
NoneFrom x n = (i : ℕ) → n ≤ i → carries x i ≡ false

pub none_here : (x : FastState) (i : ℕ) → bit_at x.mask i ≡ 0 → carries x i ≡ false
none_here x i off = ap (λ (b : ℕ). not (i == 0) && (b == 1)) off ∙ and_false (not (i == 0))

-- what holds up to a slot, and isn't changed by later ones, holds up to the end
pub to_end : (P : ℕ → Type 0) (n : ℕ) → n ≤ slots → ((k : ℕ) → n ≤ k → P k → P (k + 1)) → P n → P slots
to_end P n within step at = subst P (let e : n + (slots - n) ≡ slots = omega (arith, within) in e) (go (slots - n))
  where
    go : (k : ℕ) → P (n + k)
    go zero = subst P (let e : n ≡ n + 0 = omega arith in e) at
    go (suc k) = subst P (let e : n + k + 1 ≡ n + suc k = omega arith in e) (step (n + k) (omega arith) (go k))

pub marks_end : (x : FastState) (n : ℕ) → n ≤ slots → NoneFrom x n → mono_marks x slots ≡ mono_marks x n
marks_end x n within none = to_end (λ k. mono_marks x k ≡ mono_marks x n) n within step refl
  where
    step : (k : ℕ) → n ≤ k → mono_marks x k ≡ mono_marks x n → mono_marks x (k + 1) ≡ mono_marks x n
    step k more is =
        ap (mono_marks x) (let e : k + 1 ≡ suc k = omega arith in e)
        ∙ (ap (λ (c : Bool). bit_or (mono_marks x k) (if c && (slot_of x k).mono then 2 ^ k else 0)) (none k more)
        ∙ (or_zero_r (mono_marks x k) ∙ is))

pub any_end : (x : FastState) (track n : ℕ) → n ≤ slots → NoneFrom x n
    → carries_track x track ≡ list_any (λ i. carries x i && ((slot_of x i).track == track)) (range_with_len 0 n)
any_end x track n within none = to_end (λ k. list_any p (range_with_len 0 k) ≡ list_any p (range_with_len 0 n)) n within step refl
  where
    p : ℕ → Bool
    p i = carries x i && ((slot_of x i).track == track)

    step : (k : ℕ) → n ≤ k → list_any p (range_with_len 0 k) ≡ list_any p (range_with_len 0 n) → list_any p (range_with_len 0 (k + 1)) ≡ list_any p (range_with_len 0 n)
    step k more is =
        any_more p k
        ∙ (ap (λ (c : Bool). list_any p (range_with_len 0 k) || (c && ((slot_of x k).track == track))) (none k more)
        ∙ (or_false (list_any p (range_with_len 0 k)) ∙ is))

-- a slot that isn't carried isn't played
unplayed : (asked : ℕ) (x : FastState) (frames : List Frame) (entry : CycleEntry) (i : ℕ) (tracks : List TrackJudge) → carries x i ≡ false → slot_played asked x frames entry i tracks ≡ tracks
unplayed asked x frames entry i tracks none =
    ap (λ (c : Bool). if c && is_shown (entry_slot entry i).seen then stream_changed (slot_of x i).track (played_told asked (entry_slot entry i) (map packed_word (frames_taken frames (entry_slot entry i)))) tracks else tracks) none

pub played_end : (asked : ℕ) (x : FastState) (frames : List Frame) (entry : CycleEntry) (n : ℕ) (tracks : List TrackJudge) → n ≤ slots → NoneFrom x n
    → slots_played asked x frames entry slots tracks ≡ slots_played asked x frames entry n tracks
unfolding slots_played
played_end asked x frames entry n tracks within none = to_end (λ k. slots_played asked x frames entry k tracks ≡ slots_played asked x frames entry n tracks) n within step refl
  where
    step : (k : ℕ) → n ≤ k → slots_played asked x frames entry k tracks ≡ slots_played asked x frames entry n tracks → slots_played asked x frames entry (k + 1) tracks ≡ slots_played asked x frames entry n tracks
    step k more is =
        ap (λ m. slots_played asked x frames entry m tracks) (let e : k + 1 ≡ suc k = omega arith in e)
        ∙ (unplayed asked x frames entry k (slots_played asked x frames entry k tracks) (none k more) ∙ is)

pub right_end : (asked : ℕ) (x : FastState) (frames : List Frame) (entry : CycleEntry) (n : ℕ) (tracks : List TrackJudge) → n ≤ slots → NoneFrom x n
    → AreSlotsRight asked x frames entry n tracks ↔ AreSlotsRight asked x frames entry slots tracks
right_end asked x frames entry n tracks within none = (λ are i low. here are i (cases_lt i n), λ are i low. are i (omega (arith, low, within)))
  where
    here : AreSlotsRight asked x frames entry n tracks → (i : ℕ) → (i < n) ⊎ (n ≤ i) → IsSlotRight asked x entry i (slots_played asked x frames entry i tracks)
    here are i (inl less) = are i less
    here are i (inr more) = λ mixed on. absurd (true≢false (sym on ∙ none i more))
