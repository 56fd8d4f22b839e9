-- From the places where walks of one length end to those of the next.
use Rattle.std.proofs.Common.{◌≡◌, ◌⊎◌, ℕ, ◌+◌, ◌<◌, ◌≤◌, List, [], ◌∷◌, ◌++◌, length, take, get_or, Option, Some, None, Bool, true, false, cond, ◌==◌, refl, ap, ◌∙◌, sym, subst, inl, inr, arith}
use Rattle.af_merges.proofs.Common.{All, All-contains, Contains, Contains-append_left, Contains-get_or, Contains-push, Contains-push_cases, IfSome, MatchOption-at_some, cases_lt, is_equal, option_and_then, option_and_then_some, same_Some, take_more}
use Rattle.af_merges.specs.Walks.{walk, IsNext, IsLevel, IsFoundBelow, IsReached, Collects, Adds, Spreads, HasSame}

-- one step more at the end of a walk
pub walk-push : {W M : Type 0} (step : W → M → Option M) (ws : List W) (w : W) (start m n : M)
    → walk step ws start ≡ Some m → step w m ≡ Some n → walk step (ws ++ w ∷ []) start ≡ Some n
walk-push step [] w start m n e h =
    let at : start ≡ m = same_Some _ _ e in
    subst (λ s. option_and_then (walk step []) (step w s) ≡ Some n) (sym at) (ap (option_and_then (walk step [])) h)
walk-push step (v ∷ ws) w start m n e h =
    option_and_then_some (walk step ws) (step v start) m e
    (λ x is rest. ap (option_and_then (walk step (ws ++ w ∷ []))) is ∙ walk-push step ws w x m n rest h)

-- one walk after another
pub walk-append : {W M : Type 0} (step : W → M → Option M) (vs ws : List W) (s m n : M)
    → walk step vs s ≡ Some m → walk step ws m ≡ Some n → walk step (vs ++ ws) s ≡ Some n
walk-append step [] ws s m n e f = ap (walk step ws) (same_Some _ _ e) ∙ f
walk-append step (v ∷ vs) ws s m n e f =
    option_and_then_some (walk step vs) (step v s) m e
    (λ x is rest. ap (option_and_then (walk step (vs ++ ws))) is ∙ walk-append step vs ws x m n rest f)

-- the last step of a walk
pub walk-split : {W M : Type 0} (step : W → M → Option M) (ws : List W) (w : W) (start n : M)
    → walk step (ws ++ w ∷ []) start ≡ Some n → (m : M) × (walk step ws start ≡ Some m) × (step w m ≡ Some n)
walk-split step [] w start n e =
    option_and_then_some (walk step []) (step w start) n e (λ x is rest. (start, refl, is ∙ rest))
walk-split step (v ∷ ws) w start n e =
    option_and_then_some (walk step (ws ++ w ∷ [])) (step v start) n e
    (λ x is rest. let r = walk-split step ws w x n rest in (r.0, ap (option_and_then (walk step ws)) is ∙ r.1, r.2))

-- a list is empty or ends with an element
pub data Ends {W : Type 0} (ws : List W) : Type 0 where
  Empty : ws ≡ [] → Ends ws
  Last : (front : List W) (w : W) → ws ≡ front ++ w ∷ [] → Ends ws

ends-cons : {W : Type 0} (w : W) (ws : List W) → Ends ws → Ends (w ∷ ws)
ends-cons w ws (Empty e) = Last [] w (ap (λ t. w ∷ t) e)
ends-cons w ws (Last front v e) = Last (w ∷ front) v (ap (λ t. w ∷ t) e)

ends : {W : Type 0} (ws : List W) → Ends ws
ends [] = Empty refl
ends (w ∷ ws) = ends-cons w ws (ends ws)

-- each step makes a place larger by one
abbrev pub Enlarges : {W M : Type 0} → (W → M → Option M) → (M → ℕ) → Type 0
Enlarges {W = W} {M = M} step size = (w : W) (m n : M) → step w m ≡ Some n → size n ≡ size m + 1

pub size-walk : {W M : Type 0} (step : W → M → Option M) (size : M → ℕ) → Enlarges step size → (ws : List W) (s m : M)
    → walk step ws s ≡ Some m → size m ≡ size s + length ws
size-walk step size more [] s m e = let h : s ≡ m = same_Some _ _ e in omega (arith, ap size h)
size-walk step size more (w ∷ ws) s m e =
    option_and_then_some (walk step ws) (step w s) m e
    (λ x is rest. omega (arith, more w s x is, size-walk step size more ws x m rest))

no_steps : {W M : Type 0} (step : W → M → Option M) (ws : List W) (s m : M) → length ws ≡ 0 → walk step ws s ≡ Some m → s ≡ m
no_steps step [] s m l e = same_Some _ _ e
no_steps step (w ∷ ws) s m l e = absurd (omega arith)

-- the starts of the least size
pub level-first : {W M : Type 0} (step : W → M → Option M) (size : M → ℕ) (starts now : List M) (n : ℕ) → Enlarges step size
    → All (λ s. n ≤ size s) starts → Collects (λ s. (size s == n) ≡ true) starts [] now → IsLevel step size starts n now
level-first step size starts now n more least collects = record {
  sound = λ m c.
      elim (collects.only m c) [
        | inl none ↦ absurd (omega (arith, none.1))
        | inr start ↦ (m, start, [], refl)
      ];
  complete = λ s ws m c e k.
      let none : length ws ≡ 0 = omega (arith, size-walk step size more ws s m e, All-contains (λ s. n ≤ size s) starts s least c, k) in
      let same : s ≡ m = no_steps step ws s m none e in
      subst (Contains now) same (collects.has s c (is_equal _ _ (ap size same ∙ k)));
}

-- one size further
pub level-more : {W M : Type 0} (step : W → M → Option M) (size : M → ℕ) (starts now next new : List M) (n : ℕ) → Enlarges step size
    → IsLevel step size starts n now → IsNext step now next → Collects (λ s. (size s == n + 1) ≡ true) starts next new → IsLevel step size starts (n + 1) new
level-more step size starts now next new n more level is collects = record {
  sound = λ m c.
      elim (collects.only m c) [
        | inl came ↦
            let r = is.sound m came in
            let s = level.sound r.1 r.2 in
            (s.0, s.1, s.2 ++ r.0 ∷ [], walk-push step s.2 r.0 s.0 r.1 m s.3 r.3)
        | inr start ↦ (m, start, [], refl)
      ];
  complete = λ s ws m c e k.
      elim (ends ws) [
        | Empty none ↦
            let same : s ≡ m = no_steps step ws s m (ap length none) e in
            subst (Contains new) same (collects.has s c (is_equal _ _ (ap size same ∙ k)))
        | Last front w is_last ↦
            let t = walk-split step front w s m (ap (λ v. walk step v s) (sym is_last) ∙ e) in
            let low : size t.0 ≡ n = omega (arith, more w t.0 m t.2, k) in
            collects.keeps m (is.complete w t.0 m (level.complete s front t.0 c t.1 low) t.2)
      ];
}

pub found-none : {W M : Type 0} (step : W → M → Option M) (size : M → ℕ) (Counts : M → Type 0) (starts : List M) (n : ℕ) → Enlarges step size
    → All (λ s. n ≤ size s) starts → IsFoundBelow step size Counts starts n []
found-none step size Counts starts n more least = record {
  sound = λ m c. absurd (omega (arith, c.1));
  complete = λ s ws m c e l k. absurd (omega (arith, size-walk step size more ws s m e, All-contains (λ s. n ≤ size s) starts s least c, l));
}

pub found-more : {W M : Type 0} (step : W → M → Option M) (size : M → ℕ) (Counts : M → Type 0) (starts now old new : List M) (n : ℕ)
    → IsLevel step size starts n now → IsFoundBelow step size Counts starts n old → Collects Counts now old new
    → IsFoundBelow step size Counts starts (n + 1) new
found-more step size Counts starts now old new n level found collects = record {
  sound = λ m c.
      elim (collects.only m c) [
        | inl before ↦ found.sound m before
        | inr here ↦ level.sound m here
      ];
  complete = λ s ws m c e l k.
      elim (cases_lt (size m) n) [
        | inl below ↦ collects.keeps m (found.complete s ws m c e below k)
        | inr above ↦ collects.has m (level.complete s ws m c e (omega arith)) k
      ];
}

-- if no place is as large as that
pub found-all : {W M : Type 0} (step : W → M → Option M) (size : M → ℕ) (Counts : M → Type 0) (starts found : List M) (n : ℕ)
    → ((s : M) (ws : List W) (m : M) → Contains starts s → walk step ws s ≡ Some m → size m < n)
    → IsFoundBelow step size Counts starts n found → IsReached step Counts starts found
found-all step size Counts starts found n short below = record {
  sound = below.sound;
  complete = λ s ws m c e k. below.complete s ws m c e (short s ws m c e) k;
}

-- what one place of now leads to is added
pub next-more : {W M : Type 0} (step : W → M → Option M) (now old new : List M) (i : ℕ) (m d : M)
    → i < length now → m ≡ get_or now i d → IsNext step (take i now) old → Spreads step m old new → IsNext step (take (i + 1) now) new
next-more step now old new i m d h at is spreads =
    let more : take (i + 1) now ≡ take i now ++ m ∷ [] = take_more now i d h ∙ ap (λ x. take i now ++ x ∷ []) (sym at) in
    record {
      sound = λ n c.
          elim (spreads.only n c) [
            | inl before ↦ let r = is.sound n before in (r.0, r.1, rw more (Contains-append_left (take i now) (m ∷ []) r.1 r.2), r.3)
            | inr found ↦ (found.0, m, rw more (Contains-push (take i now) m), found.1)
          ];
      complete = λ w x n c e.
          elim (Contains-push_cases (take i now) m x (rw more at c)) [
            | inl before ↦ spreads.keeps n (is.complete w x n before e)
            | inr same ↦ spreads.has w n (ap (step w) same ∙ e)
          ];
    }

-- what holds of each element holds of each after an addition
pub All-added : {M : Type 0} (P : M → Type 0) (old new : List M) (Q : M → Type 0)
    → ((x : M) → Contains new x → Contains old x ⊎ Q x) → ((x : M) → Q x → P x) → All P old → All P new
All-added P old new Q only more all k d h =
    elim (only (get_or new k d) (Contains-get_or new k d h)) [
      | inl before ↦ All-contains P old _ all before
      | inr found ↦ more _ found
    ]

-- what holds of the old and of what is collected holds of the new
pub All-collected : {M : Type 0} (P : M → Type 0) (Counts : M → Type 0) (now old new : List M) → Collects Counts now old new → All P now → All P old → All P new
All-collected P Counts now old new collects here before =
    All-added P old new (Contains now) collects.only (λ x i. All-contains P now x here i) before

pub All-from_adds : {M : Type 0} (P : M → Type 0) (old : List M) (found : Option M) (new : List M)
    → Adds old found new → IfSome found P → All P old → All P new
All-from_adds P old found new adds here all =
    All-added P old new (λ x. found ≡ Some x) adds.only (λ x e. MatchOption-at_some _ P x e here) all

chosen : {M : Type 0} (b : Bool) (m x : M) → cond b (Some m) None ≡ Some x → m ≡ x
chosen true m x e = same_Some _ _ e
chosen false m x e = cc

pub collects-more : {M : Type 0} (test : M → Bool) (now old mid new : List M) (i : ℕ) (m d : M)
    → i < length now → m ≡ get_or now i d → Collects (λ m. test m ≡ true) (take i now) old mid
    → Adds mid (cond (test m) (Some m) None) new → Collects (λ m. test m ≡ true) (take (i + 1) now) old new
collects-more test now old mid new i m d h at collects adds =
    let more : take (i + 1) now ≡ take i now ++ m ∷ [] = take_more now i d h ∙ ap (λ x. take i now ++ x ∷ []) (sym at) in
    record {
      keeps = λ x c. adds.keeps x (collects.keeps x c);
      has = λ x c k.
          elim (Contains-push_cases (take i now) m x (rw more at c)) [
            | inl before ↦ adds.keeps x (collects.has x before k)
            | inr same ↦ adds.has x (ap (λ b. cond b (Some m) None) (ap test same ∙ k) ∙ ap Some same)
          ];
      only = λ x c.
          elim (adds.only x c) [
            | inl before ↦ elim (collects.only x before) [
              | inl o ↦ inl o
              | inr n ↦ inr (rw more (Contains-append_left (take i now) (m ∷ []) x n))
            ]
            | inr found ↦ inr (rw more (subst (Contains (take i now ++ m ∷ [])) (chosen (test m) m x found) (Contains-push (take i now) m)))
          ];
    }

-- the same places make the same level
pub level-same : {W M : Type 0} (step : W → M → Option M) (size : M → ℕ) (starts now new : List M) (n : ℕ) → IsLevel step size starts n now → HasSame now new → IsLevel step size starts n new
level-same step size starts now new n level same = record {
  sound = λ m c. level.sound m (same.only m c);
  complete = λ s ws m c e k. same.keeps m (level.complete s ws m c e k);
}

pub All-same : {M : Type 0} (P : M → Type 0) (old new : List M) → HasSame old new → All P old → All P new
All-same P old new same all k d h = All-contains P old _ all (same.only (get_or new k d) (Contains-get_or new k d h))
