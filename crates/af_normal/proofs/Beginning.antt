-- A turn begins in order: the last entry's lists are empty again, and the hands are there.
use Rattle.std.proofs.Common.{◌≡◌, ◌≢◌, All, ℕ, zero, suc, ◌+◌, ◌<◌, List, [], ◌∷◌, ◌++◌, length, reverse, take, drop, append_assoc, slice_get, Some, None, refl, sym, ap, subst, ◌∙◌, get_or-set_other, length-append, length-set, arith, ⊎_elim}
use Rattle.af_normal.proofs.Common.{All-append, All-head, All-nil, All-push, All-tail, HandSide, Made, NormalTake, Roomy, ServerState, TrackTurn, at_last, cases_eq, hand_made, length-reverse, most_looks, reverse-append, reverse-reverse, slice_get_within, some_same, take-append-drop}
use Rattle.af_normal.specs.AllMixed.{HasFrames, HasTakes}
use Rattle.af_normal.specs.Mixing.{stream_at}
use Rattle.af_normal.specs.Order.{HasTurns}
use Rattle.af_normal.specs.State.{NormalState}
use Rattle.af_normal.specs.Turning.{Hands, HasWhole, hand_of}

-- ## The lists of the entry go back to the spare ones

-- if all items of a list have a property, all items of the reversed list have it
All-reverse : {A : Type 0} (P : A → Type 0) (xs : List A) → All P xs → All P (reverse xs)
All-reverse P [] h = All-nil P
All-reverse P (x ∷ xs) h = subst (All P) (sym (reverse-append (x ∷ []) xs)) (All-push P (reverse xs) x (All-reverse P xs (All-tail P x xs h)) (All-head P x xs h))

pub turns_back : (n : ℕ) (turns spare turns' spare' : Roomy TrackTurn) → HasTurns n turns spare → turns'.items ≡ [] → turns'.room ≡ turns.room → spare' ≡ record spare { items = spare.items ++ reverse turns.items } → HasTurns n turns' spare'
turns_back n turns spare turns' spare' h none room e = record {
  together = (let l : length spare'.items ≡ length spare.items + length turns.items = ap (λ (r : Roomy TrackTurn). length r.items) e ∙ length-append spare.items (reverse turns.items) ∙ ap (λ (m : ℕ). length spare.items + m) (length-reverse turns.items) in
      let z = ap length none in omega (arith, h.together));
  turns_room = omega (arith, h.turns_room);
  spare_room = (let r = ap (λ (r : Roomy TrackTurn). r.room) e in omega (arith, h.spare_room));
  seen = subst (λ (xs : List TrackTurn). All (λ (t : TrackTurn). t.looks.room ≡ most_looks) xs) (sym none) (All-nil (λ (t : TrackTurn). t.looks.room ≡ most_looks));
  left = subst (λ (r : Roomy TrackTurn). All (λ (t : TrackTurn). t.looks.room ≡ most_looks) r.items) (sym e)
      (All-append (λ (t : TrackTurn). t.looks.room ≡ most_looks) spare.items (reverse turns.items) h.left (All-reverse (λ (t : TrackTurn). t.looks.room ≡ most_looks) turns.items h.seen));
}

pub takes_back : (asked n : ℕ) (takes spare takes' spare' : Roomy NormalTake) → HasTakes asked n takes spare → takes'.items ≡ [] → takes'.room ≡ takes.room → spare' ≡ record spare { items = spare.items ++ reverse takes.items } → HasTakes asked n takes' spare'
takes_back asked n takes spare takes' spare' h none room e = record {
  together = (let l : length spare'.items ≡ length spare.items + length takes.items = ap (λ (r : Roomy NormalTake). length r.items) e ∙ length-append spare.items (reverse takes.items) ∙ ap (λ (m : ℕ). length spare.items + m) (length-reverse takes.items) in
      let z = ap length none in omega (arith, h.together));
  mixes_room = omega (arith, h.mixes_room);
  spare_room = (let r = ap (λ (r : Roomy NormalTake). r.room) e in omega (arith, h.spare_room));
  mixed = subst (λ (xs : List NormalTake). All (HasFrames asked) xs) (sym none) (All-nil (HasFrames asked));
  left = subst (λ (r : Roomy NormalTake). All (HasFrames asked) r.items) (sym e)
      (All-append (HasFrames asked) spare.items (reverse takes.items) h.left (All-reverse (HasFrames asked) takes.items h.mixed));
}

-- ## The hands

module _ (i : ℕ) (x y : NormalState) (h : Hands i x y) where
  pub hands_long : (length y.tracks ≡ length x.tracks) × (length y.streams ≡ length x.streams) × (length y.hands ≡ length x.hands + 1)
  hands_long = (
    ap (λ (z : NormalState). length z.tracks) h.leaves,
    ap (λ (z : NormalState). length z.streams) h.leaves ∙ length-set x.streams i _,
    ap (λ (z : NormalState). length z.hands) h.leaves ∙ length-append x.hands (hand_of h.stream ∷ []),
  )

  pub hands_same : y ≡ record x { streams = y.streams; hands = y.hands }
  hands_same = h.leaves ∙ sym (ap (λ (z : NormalState). record x { streams = z.streams; hands = z.hands }) h.leaves)

  pub hands_other : (k : ℕ) → k ≢ i → stream_at y.streams k ≡ stream_at x.streams k
  hands_other k ne = ap (λ (z : NormalState). stream_at z.streams k) h.leaves ∙ get_or-set_other x.streams i k _ None ne

-- the items before the last one stay
get_before : {A : Type 0} (xs : List A) (a : A) (n : ℕ) → n < length xs → slice_get (xs ++ a ∷ []) n ≡ slice_get xs n
get_before [] a n lt = absurd (omega arith)
get_before (x ∷ xs) a zero lt = refl
get_before (x ∷ xs) a (suc n) lt = get_before xs a n (omega arith)

-- each hand so far is of its track's block
abbrev pub HandsOf : List Made → List HandSide → Type 0
HandsOf blocks hands = (k : ℕ) (flag : HandSide) → slice_get hands k ≡ Some flag → slice_get blocks k ≡ Some (hand_made flag)

pub hand_more : (blocks : List Made) (i : ℕ) (x y : NormalState) → length x.hands ≡ i → HasWhole blocks i x.streams → HandsOf blocks x.hands → Hands i x y → HandsOf blocks y.hands
hand_more blocks i x y count whole of h = λ k flag at.
    let grown : y.hands ≡ x.hands ++ hand_of h.stream ∷ [] = ap (λ (z : NormalState). z.hands) h.leaves in
    let here : slice_get (x.hands ++ hand_of h.stream ∷ []) k ≡ Some flag = sym (ap (λ (l : List HandSide). slice_get l k) grown) ∙ at in
    let inside : k < length (x.hands ++ hand_of h.stream ∷ []) = slice_get_within (x.hands ++ hand_of h.stream ∷ []) k flag here in
    ⊎_elim
    (λ (e : k ≡ i).
    let is : flag ≡ hand_of h.stream = some_same flag (hand_of h.stream) (sym here ∙ ap (λ (n : ℕ). slice_get (x.hands ++ hand_of h.stream ∷ []) n) e ∙ at_last x.hands (hand_of h.stream) i count) in
    let same : whole.stream ≡ h.stream = some_same whole.stream h.stream (sym whole.is_home ∙ h.is_home) in
    ap (λ (n : ℕ). slice_get blocks n) e ∙ whole.fits.made ∙ ap (λ (s : ServerState). Some (hand_made (hand_of s))) same ∙ ap (λ (f : HandSide). Some (hand_made f)) (sym is))
    (λ (ne : k ≢ i).
    let lt : k < length x.hands = omega (arith, inside, length-append x.hands (hand_of h.stream ∷ []), count) in
    of k flag (sym (get_before x.hands (hand_of h.stream) k lt) ∙ here))
    (cases_eq k i)

-- if the last item of a list is moved behind another list, the first list and the reverse of the other make up the same list
pub one_back : {A : Type 0} (xs a b ys : List A) (item : A) → b ≡ a ++ item ∷ [] → b ++ reverse ys ≡ xs → a ++ reverse (ys ++ item ∷ []) ≡ xs
one_back xs a b ys item e h = ap (λ (zs : List _). a ++ zs) (reverse-append ys (item ∷ [])) ∙ sym (append_assoc a (item ∷ []) (reverse ys)) ∙ ap (λ (zs : List _). zs ++ reverse ys) (sym e) ∙ h

-- all items went back
pub all_back : {A : Type 0} (xs a to to' : List A) → length a ≡ 0 → a ++ reverse (drop (length to) to') ≡ xs → take (length to) to' ≡ to → to' ≡ to ++ reverse xs
all_back xs [] to to' none h front = sym (take-append-drop (length to) to') ∙ ap (λ (zs : List _). zs ++ drop (length to) to') front ∙ ap (λ (zs : List _). to ++ zs) (sym (reverse-reverse (drop (length to) to')) ∙ ap reverse h)
all_back xs (x ∷ a) to to' none h front = absurd (omega arith)
