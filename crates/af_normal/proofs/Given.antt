-- What the takes of a turn give to the mix.
use Rattle.std.proofs.Common.{◌≡◌, ℕ, ◌<◌, ◌≤◌, List, [], ◌∷◌, length, map, take, All, slice_index_or, slice_set, ◌+◌, ◌≢◌, ⊎_elim, sym, ap, subst, ◌∙◌, length-take, get_or-take, get_or-set_same, get_or-set_other, arith}
use Rattle.af_normal.proofs.Common.{All-from_get_or, All-get_or, NormalTake, Part, Setting, Setup, Take, absent, asked, cases_eq, ext_get_or, false, get_or-map, get_or_default, length-map, mix, no_part, put_by, take_of as take_of_part, take_seen}
use Rattle.std.proofs.lemmas.Simd.{map-map}
use Rattle.af_life.specs.Plays.{take_of}
use Rattle.af_normal.specs.Sums.{Fits}

pub no_take : NormalTake
no_take = record { track = 0; slot = absent; frames = record { items = []; room = 0 } }

abbrev pub setup_of : List Setting → Setup
setup_of settings = record { frames = 0; normal = 0; settings = settings }

-- what a take gives the mix, by the settings alone
abbrev pub given : List Setting → NormalTake → Take
given settings t = take_of (setup_of settings) (take_seen t)

pub put_is : (c : Setup) (takes : List NormalTake) → 1 ≤ length takes → put_by c (map take_seen takes) ≡ mix (map (given c.settings) takes) (asked c)
put_is c [] some = absurd (omega arith)
put_is c (t ∷ takes) some = ap (λ (ts : List Take). mix (given c.settings t ∷ ts) (asked c)) (map-map (take_of c) take_seen takes)

abbrev pub AreGiven : List Setting → List NormalTake → List Part → ℕ → Type 0
AreGiven settings takes parts n = (k : ℕ) → k < n → take_of_part (slice_index_or parts k no_part) ≡ given settings (slice_index_or takes k no_take)

pub read_take : (takes : List NormalTake) (i : ℕ) (t : NormalTake) → i < length takes → t ≡ slice_index_or takes i t → t ≡ slice_index_or takes i no_take
read_take takes i t lt is = is ∙ get_or_default takes i t no_take lt

-- the parts with one part more
pub given_more : (settings : List Setting) (takes : List NormalTake) (parts : List Part) (i : ℕ) (part : Part) → i < length parts → AreGiven settings takes parts i
    → take_of_part part ≡ given settings (slice_index_or takes i no_take) → AreGiven settings takes (slice_set parts i part) (i + 1)
given_more settings takes parts i part lt before here k below = ⊎_elim
    (λ (e : k ≡ i). ap (λ (n : ℕ). take_of_part (slice_index_or (slice_set parts i part) n no_part)) e ∙ ap take_of_part (get_or-set_same parts i part no_part lt) ∙ here
    ∙ ap (λ (n : ℕ). given settings (slice_index_or takes n no_take)) (sym e))
    (λ (ne : k ≢ i). ap take_of_part (get_or-set_other parts i k part no_part ne) ∙ before k (omega arith))
    (cases_eq k i)

module _ (settings : List Setting) (takes : List NormalTake) (parts : List Part) (long : length takes ≤ length parts) (each : AreGiven settings takes parts (length takes)) where
  few : length (take (length takes) parts) ≡ length takes
  few = omega (arith, length-take (length takes) parts)

  pub parts_are : map take_of_part (take (length takes) parts) ≡ map (given settings) takes
  parts_are = ext_get_or (take_of_part no_part) _ _ (length-map (take (length takes) parts) take_of_part ∙ few ∙ sym (length-map takes (given settings)))
      (λ k lt. let inside : k < length takes = omega (arith, few, length-map (take (length takes) parts) take_of_part) in
      get_or-map take_of_part (take (length takes) parts) k no_part (take_of_part no_part) (omega (arith, few))
      ∙ ap take_of_part (get_or-take (length takes) parts k no_part inside)
      ∙ each k inside
      ∙ sym (get_or-map (given settings) takes k no_take (take_of_part no_part) inside))

  abbrev FitsPart : ℕ → Take → Type 0
  FitsPart asked t = (length t.frames ≤ asked) × (t.scale ≤ 4096)

  pub parts_fit : (asked : ℕ) → All (Fits asked (length settings)) takes → All (λ (s : Setting). s.scale ≤ 4096) settings
      → All (λ (part : Part). (length part.frames.now ≤ asked) × (part.scale ≤ 4096)) (take (length takes) parts)
  parts_fit asked fit scales = All-from_get_or (λ (part : Part). (length part.frames.now ≤ asked) × (part.scale ≤ 4096)) (take (length takes) parts) no_part
      (λ k lt. let inside : k < length takes = omega (arith, few) in
      let f : Fits asked (length settings) (slice_index_or takes k no_take) = All-get_or (Fits asked (length settings)) takes k no_take inside fit in
      subst (FitsPart asked) (sym (each k inside) ∙ ap take_of_part (sym (get_or-take (length takes) parts k no_part inside)))
      (f.short, All-get_or (λ (s : Setting). s.scale ≤ 4096) settings (slice_index_or takes k no_take).track (record { fast = false; mono = false; scale = 0 }) f.track scales))
