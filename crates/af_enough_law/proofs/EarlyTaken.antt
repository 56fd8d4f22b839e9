-- A turn before which no status said that two commands were settled takes no more than two, whatever their client is answered.
use Rattle.std.proofs.Common.{◌≡◌, ◌⊎◌, inl, inr, ℕ, zero, suc, ◌≤◌, ◌&&◌, nat_le, Bool, true, List, [], ◌∷◌, ◌++◌, length, take, fold, get_or, refl, sym, ap, ◌∙◌, subst, arith, drop}
use Rattle.af_enough_law.proofs.Common.{Client, ClientEvent, HandEvent, HasHistory, IsLegal, ServerEvent, Shape, both_first, both_right, both_true, by_client, drops_none, in_turn, legal_cut, server_append, server_of, settled_in, start}
use Rattle.af_base.specs.declared.event.ClientEvent.TheVariants as client
use Rattle.af_base.specs.declared.event.ServerEvent.TheVariants as server
use Rattle.af_enough_law.proofs.Basics.{taken-append}
use Rattle.af_enough_law.specs.Seen.{frames_put, frames_taken, status_by, last_status}
use Rattle.af_enough_law.proofs.EarlyCalls.{no_stop, Early, opening, starting, settling, SawSettled}
use Rattle.af_enough_law.proofs.SeenBlocks.{client_cut, released_is, consumed_is, drops_split, status_is}

-- no status among these says that more than one command is settled
abbrev pub is_low : ServerEvent → Bool
is_low (server.SetStatus word) = nat_le (settled_in word) 1
is_low _ = true

abbrev pub are_low : List ServerEvent → Bool
are_low [] = true
are_low (e ∷ es) = is_low e && are_low es

pub low_append : (xs ys : List ServerEvent) → are_low xs ≡ true → are_low ys ≡ true → are_low (xs ++ ys) ≡ true
low_append [] ys a b = b
low_append (x ∷ xs) ys a b = both_true (is_low x) (are_low (xs ++ ys)) (both_first (is_low x) (are_low xs) a) (low_append xs ys (both_right (is_low x) (are_low xs) a) b)

low_one : (e : ServerEvent) (word : ℕ) → is_low e ≡ true → settled_in word ≤ 1 → settled_in (status_by word e) ≤ 1
low_one (server.SetStatus next) word low few = search (arith, low)
low_one _ word low few = few

-- the last status of each front says no more
front_low : (xs ys : List ServerEvent) (word : ℕ) → are_low (xs ++ ys) ≡ true → settled_in word ≤ 1 → settled_in (fold status_by word xs) ≤ 1
front_low [] ys word low few = few
front_low (x ∷ xs) ys word low few = front_low xs ys (status_by word x) (both_right (is_low x) (are_low (xs ++ ys)) low) (low_one x word (both_first (is_low x) (are_low (xs ++ ys)) low) few)

-- events that leave each status word, or all leave the same one
data Stores (es : List ServerEvent) : Type 0 where
  nothing : are_low es ≡ true → Stores es
  one : (word : ℕ) → ((w : ℕ) → fold status_by w es ≡ word) → Stores es

stores : (es : List ServerEvent) → Stores es
stores [] = nothing refl
stores (server.SetStatus word ∷ es) = one (fold status_by word es) (λ w. refl)
stores (server.SawGain w ∷ es) = elim (stores es) as (λ _. Stores (server.SawGain w ∷ es)) [ nothing h ↦ nothing h | one word f ↦ one word f ]
stores (server.SawFlush w ∷ es) = elim (stores es) as (λ _. Stores (server.SawFlush w ∷ es)) [ nothing h ↦ nothing h | one word f ↦ one word f ]
stores (server.SawRear w ∷ es) = elim (stores es) as (λ _. Stores (server.SawRear w ∷ es)) [ nothing h ↦ nothing h | one word f ↦ one word f ]
stores (server.SawFront w ∷ es) = elim (stores es) as (λ _. Stores (server.SawFront w ∷ es)) [ nothing h ↦ nothing h | one word f ↦ one word f ]
stores (server.Drop w ∷ es) = elim (stores es) as (λ _. Stores (server.Drop w ∷ es)) [ nothing h ↦ nothing h | one word f ↦ one word f ]
stores (server.Take w ∷ es) = elim (stores es) as (λ _. Stores (server.Take w ∷ es)) [ nothing h ↦ nothing h | one word f ↦ one word f ]
stores (server.Tally w ∷ es) = elim (stores es) as (λ _. Stores (server.Tally w ∷ es)) [ nothing h ↦ nothing h | one word f ↦ one word f ]
stores (server.SetFlags w ∷ es) = elim (stores es) as (λ _. Stores (server.SetFlags w ∷ es)) [ nothing h ↦ nothing h | one word f ↦ one word f ]
stores (server.Learn w ∷ es) = elim (stores es) as (λ _. Stores (server.Learn w ∷ es)) [ nothing h ↦ nothing h | one word f ↦ one word f ]

-- events that leave each status word store none
pub still_low : (es : List ServerEvent) → ((w : ℕ) → fold status_by w es ≡ w) → are_low es ≡ true
still_low es still = elim (stores es) as (λ _. are_low es ≡ true) [ nothing h ↦ h | one word f ↦ (let a = sym (f 0) ∙ still 0 in let b = sym (f 1) ∙ still 1 in absurd (let z : ⊥ = omega (arith, a, b) in z)) ]

-- ## Two ways to cut a list

cut_cases : (xs ys ls bs : List ServerEvent) → xs ++ ys ≡ ls ++ bs → ((m : List ServerEvent) × (ls ≡ xs ++ m)) ⊎ ((m : List ServerEvent) × (xs ≡ ls ++ m) × (bs ≡ m ++ ys))
cut_cases [] ys ls bs e = inl (ls, refl)
cut_cases (x ∷ xs) ys [] bs e = inr (x ∷ xs, refl, sym e)
cut_cases (x ∷ xs) ys (a ∷ ls) bs e =
    let first : x ≡ a = ap (λ l. get_or l 0 x) e in
    elim (cut_cases xs ys ls bs (ap (drop 1) e)) as (λ _. ((m : List ServerEvent) × (a ∷ ls ≡ (x ∷ xs) ++ m)) ⊎ ((m : List ServerEvent) × (x ∷ xs ≡ (a ∷ ls) ++ m) × (bs ≡ m ++ ys))) [
      | inl front ↦ inl (front.0, λ j. sym first j ∷ front.1 j)
      | inr front ↦ inr (front.0, (λ j. first j ∷ front.1 j), front.2)
    ]

-- ## What was taken

module _ (k : Shape) (cs : List ClientEvent) (released : List ℕ) (ss : List ServerEvent) (taken : List ℕ) (hs : List HandEvent) (h : HasHistory k cs released ss taken hs) (none : drops_none ss ≡ true) where
  -- no more is taken than was put
  pub taken_put : frames_taken ss ≤ frames_put cs
  taken_put =
      let within = (in_turn k h.order h.legal).within in
      let a = consumed_is k h.order (ap drops_none h.server_is ∙ none) in
      let b = released_is k h.order in
      let c = ap frames_taken h.server_is in
      let d = ap frames_put h.client_is in
      omega (arith, within, a, b, c, d)

  -- A client that saw a status which says that two are settled had sent two commands at most: before that status was stored no more were taken
  pub taken_few : SawSettled cs → (ls bs : List ServerEvent) → ss ≡ ls ++ bs → are_low ls ≡ true → frames_taken bs ≡ 0 → frames_taken ss ≤ 4
  taken_few saw ls bs whole low free =
      let cut = client_cut h.order saw.before (client.SawStatus saw.word) saw.behind (h.client_is ∙ saw.whole) in
      let legal = legal_cut (start k) cut.late (by_client (client.SawStatus saw.word)) cut.early (subst (IsLegal (start k)) cut.whole h.legal) in
      let parts : ss ≡ server_of cut.early ++ server_of cut.late = sym h.server_is ∙ ap server_of cut.whole ∙ server_append cut.late (by_client (client.SawStatus saw.word) ∷ cut.early) in
      let word : saw.word ≡ last_status (server_of cut.early) = legal.0 ∙ status_is k cut.early in
      let within = (in_turn k cut.early legal.1).within in
      let a = consumed_is k cut.early (drops_split (server_of cut.early) (server_of cut.late) (ap drops_none (sym parts) ∙ none)).0 in
      let b = released_is k cut.early in
      let c = ap frames_put cut.before in
      let d = saw.few in
      let front : frames_taken (server_of cut.early) ≤ 4 = omega (arith, within, a, b, c, d) in
      by (server_of cut.early) (server_of cut.late) parts word front (cut_cases (server_of cut.early) (server_of cut.late) ls bs (sym parts ∙ whole))
    where
      by : (early late : List ServerEvent) → ss ≡ early ++ late → saw.word ≡ last_status early → frames_taken early ≤ 4 → ((m : List ServerEvent) × (ls ≡ early ++ m)) ⊎ ((m : List ServerEvent) × (early ≡ ls ++ m) × (bs ≡ m ++ late)) → frames_taken ss ≤ 4
      by early late parts word front (inl f) =
          let few = front_low early f.0 0 (ap are_low (sym f.1) ∙ low) (search arith) in
          let same = ap settled_in word in
          let two = saw.settled in
          absurd (let z : ⊥ = omega (arith, few, same, two) in z)
      by early late parts word front (inr f) =
          let a = ap frames_taken parts in
          let b = taken-append early late in
          let c = ap frames_taken f.2 in
          let d = taken-append f.0 late in
          omega (arith, a, b, c, d, free, front)

pub early_few : (c : Client) (sent : ℕ) → Early c sent → sent ≤ 2
early_few _ _ (opening w d ops) = omega arith
early_few _ _ (starting w d ops) = omega arith
early_few _ _ (settling w d ops) = omega arith

-- ## Words

pub stop_take : (n : ℕ) (words : List ℕ) → no_stop words ≡ true → no_stop (take n words) ≡ true
stop_take zero words h = refl
stop_take (suc n) [] h = refl
stop_take (suc zero) (code ∷ words) h = refl
stop_take (suc (suc n)) (code ∷ []) h = refl
stop_take (suc (suc n)) (code ∷ argument ∷ words) h = both_true _ (no_stop (take n words)) (both_first _ (no_stop words) h) (stop_take n words (both_right _ (no_stop words) h))

pub short_take : (m n : ℕ) (xs : List ℕ) → length (take n xs) ≤ m → take n xs ≡ take n (take m xs)
short_take m zero xs few = refl
short_take zero (suc n) [] few = refl
short_take zero (suc n) (x ∷ xs) few = absurd (let z : ⊥ = omega (arith, few) in z)
short_take (suc m) (suc n) [] few = refl
short_take (suc m) (suc n) (x ∷ xs) few = ap (λ l. x ∷ l) (short_take m n xs (omega (arith, few)))
