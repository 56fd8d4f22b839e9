-- How the cycles of a fast turn are a chain, from its beginning on.
use Rattle.std.proofs.Common.{◌≡◌, ℕ, suc, ◌+◌, ◌-◌, ◌*◌, ◌<◌, ◌≤◌, if◌then◌else◌, Bool, true, false, true≢false, List, [], ◌∷◌, ◌++◌, length, refl, sym, ap, subst, ◌∙◌, append-nil, append_assoc, arith}
use Rattle.af_session.proofs.Common.{Cycle, Frame, Roomy, StepsOn, flat_map-cons, frame_bytes, is_mixed, length-append, pcm_bytes, written}
use Rattle.std.proofs.Math.Nat.{add-zero, mul-le-mul_right}

module _ {S : Type 0} (Once : S → Cycle → List ℕ → S → Type 0) (count : ℕ) (first : S) where
  -- After i cycles that wrote `front` the state is `now`: what the other cycles do from there on completes the turn
  abbrev pub GoesTo : ℕ → S → List ℕ → Type 0
  GoesTo i now front = (left : ℕ) (back : List ℕ) (last : S) → left + i ≡ count → StepsOn Once left now back last → StepsOn Once count first
      (front ++ back) last

  -- before the first cycle the state is that at the beginning
  pub goes_first : GoesTo 0 first []
  goes_first left back last is turn = subst (λ (n : ℕ). StepsOn Once n first back last) (sym (add-zero left) ∙ is) turn

  -- after one more mix the turn goes on
  pub goes_on : (i : ℕ) (now next : S) (answer : Cycle) (front more : List ℕ) → GoesTo i now front → Once now answer more next → is_mixed answer ≡ true
      → GoesTo (i + 1) next (front ++ more)
  goes_on i now next answer front more goes w mixed left back last is turn =
      let whole : StepsOn Once (suc left) now (more ++ back) last = (answer, next, more, back, w, refl, λ _. turn, λ dry. absurd (true≢false (sym mixed ∙ dry)))
      in
      subst (λ (bytes : List ℕ). StepsOn Once count first bytes last) (sym (append_assoc front more back))
      (goes (suc left) (more ++ back) last (omega (arith, is)) whole)

  -- after all cycles the turn is over
  pub goes_whole : (i : ℕ) (now : S) (front : List ℕ) → i ≡ count → GoesTo i now front → StepsOn Once count first front now
  goes_whole i now front all goes = subst (λ (bytes : List ℕ). StepsOn Once count first bytes now) (append-nil front)
      (goes 0 [] now (omega (arith, all)) (refl, refl))

  -- after a cycle that mixes nothing the turn is over
  pub goes_over : (i : ℕ) (now next : S) (answer : Cycle) (front more : List ℕ) → GoesTo i now front → Once now answer more next → is_mixed answer ≡ false
      → i < count → StepsOn Once count first (front ++ more) next
  goes_over i now next answer front more goes w dry lt =
      let left : ℕ = count - i - 1 in
      let turn : StepsOn Once (suc left) now more next =
      (answer, next, more, [], w, sym (append-nil more), (λ mixed. absurd (true≢false (sym mixed ∙ dry))), λ _. (refl, refl)) in
      goes (suc left) more next (omega arith) turn

-- the sound of some frames has four bytes a frame
pub long_pcm : (frames : List Frame) → length (pcm_bytes frames) ≡ 4 * length frames
long_pcm [] = refl
long_pcm (f ∷ fs) =
    let rest = long_pcm fs in
    let both = ap length (flat_map-cons frame_bytes f fs) ∙ length-append (frame_bytes f) (pcm_bytes fs) in
    let four : length (frame_bytes f) ≡ 4 = refl in
    omega (arith, rest, both, four)

-- a cycle writes four bytes for each frame of its buffer, or none
pub long_written : (answer : Cycle) (out : List Frame) → length (written answer out) ≤ 4 * length out
long_written answer out = by_mixed (is_mixed answer)
  where
    by_mixed : (mixed : Bool) → length (if mixed then pcm_bytes out else []) ≤ 4 * length out
    by_mixed true = omega (arith, long_pcm out)
    by_mixed false = omega arith

-- if bytes are put behind others in two steps, the result is the same as in one step
pub put_behind : (a b c : Roomy ℕ) (front more : List ℕ) → b ≡ record a { items = a.items ++ front } → c ≡ record b { items = b.items ++ more } → c ≡ record a { items = a.items ++ (front ++ more) }
put_behind a b c front more first second =
    second ∙ ap (λ (y : Roomy ℕ). record y { items = y.items ++ more }) first ∙ ap (λ (l : List ℕ). record a { items = l }) (append_assoc a.items front more)

-- after fewer than all cycles there is room for the bytes of one more
pub room_on : (bytes bytes' : Roomy ℕ) (added : List ℕ) (count i frames frames' : ℕ) → bytes' ≡ record bytes { items = bytes.items ++ added } → length added ≤ 4 * (i * frames) → i < count → frames' ≡ frames
    → length bytes.items + 4 * (count * frames) ≤ bytes.room → length bytes'.items + 4 * (1 * frames') ≤ bytes'.room
room_on bytes bytes' added count i frames frames' is few lt same room =
    let long : length bytes'.items ≡ length bytes.items + length added = ap (λ (y : Roomy ℕ). length y.items) is ∙ length-append bytes.items added in
    let wide : bytes'.room ≡ bytes.room = ap (λ (y : Roomy ℕ). y.room) is in
    let fits : (i + 1) * frames ≤ count * frames = mul-le-mul_right frames (omega (arith, lt)) in
    omega (arith, long, wide, fits, few, same, room)
