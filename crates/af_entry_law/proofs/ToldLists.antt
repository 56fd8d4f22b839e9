-- What entries tell of a list of tracks.
use Rattle.std.proofs.Common.{◌≡◌, ℕ, zero, suc, ◌-◌, ◌&&◌, ◌||◌, not, Bool, if◌then◌else◌, List, [], ◌∷◌, length, map, None, refl, sym, ap, ◌∙◌}
use Rattle.af_entry_law.proofs.Common.{Setup, TrackKept, find, holds, list_all, list_any, range_with_len, setting_of, slice_set, slot_for, track_at}
use Rattle.std.proofs.lemmas.List.{length-map}
use Rattle.af_base.specs.Log.{slots}
use Rattle.af_entry_law.specs.Told.{track_told}

abbrev pub tracks_told : List TrackKept → List TrackKept
tracks_told ts = map track_told ts

pub told_at : (ts : List TrackKept) (i : ℕ) → track_at (tracks_told ts) i ≡ track_told (track_at ts i)
told_at [] i = refl
told_at (t ∷ ts) zero = refl
told_at (t ∷ ts) (suc i) = told_at ts i

pub told_set : (ts : List TrackKept) (i : ℕ) (s : TrackKept) → tracks_told (slice_set ts i s) ≡ slice_set (tracks_told ts) i (track_told s)
told_set [] i s = refl
told_set (t ∷ ts) zero s = refl
told_set (t ∷ ts) (suc i) s = ap (λ (l : List TrackKept). track_told t ∷ l) (told_set ts i s)

-- a test that asks for what is told alone
module _ (test : TrackKept → Bool) (same : (t : TrackKept) → test (track_told t) ≡ test t) where
  pub any_told : (ts : List TrackKept) → list_any test (tracks_told ts) ≡ list_any test ts
  any_told [] = refl
  any_told (t ∷ ts) = λ j. same t j || any_told ts j

  pub all_told : (ts : List TrackKept) → list_all test (tracks_told ts) ≡ list_all test ts
  all_told [] = refl
  all_told (t ∷ ts) = λ j. same t j && all_told ts j

-- the slot that an OPEN gives goes by what is told
pub slot_told : (c : Setup) (ts : List TrackKept) (i : ℕ) → slot_for c (tracks_told ts) i ≡ slot_for c ts i
slot_told c ts i = λ j. if (setting_of c i).fast then find (λ (slot : ℕ). not (any_told (holds slot) (λ t. refl) ts j)) (range_with_len 1 (slots - 1)) else None

-- ## Two lists of which the same is told

module _ (ts us : List TrackKept) (same : tracks_told ts ≡ tracks_told us) where
  pub same_at : (i : ℕ) → track_told (track_at ts i) ≡ track_told (track_at us i)
  same_at i = sym (told_at ts i) ∙ ap (λ (l : List TrackKept). track_at l i) same ∙ told_at us i

  pub same_length : length ts ≡ length us
  same_length = sym (length-map ts track_told) ∙ ap (λ (l : List TrackKept). length l) same ∙ length-map us track_told

  pub same_slot : (c : Setup) (i : ℕ) → slot_for c ts i ≡ slot_for c us i
  same_slot c i = sym (slot_told c ts i) ∙ ap (λ (l : List TrackKept). slot_for c l i) same ∙ slot_told c us i

  pub same_set : (i : ℕ) (s t : TrackKept) → track_told s ≡ track_told t → tracks_told (slice_set ts i s) ≡ tracks_told (slice_set us i t)
  same_set i s t one = told_set ts i s ∙ (λ j. slice_set (same j) i (one j)) ∙ sym (told_set us i t)
