-- What stands between the LFs of a text.
use Rattle.std.proofs.Common.{◌≡◌, ℕ, zero, suc, ◌+◌, ◌<◌, List, [], ◌∷◌, ◌++◌, length, Option, Some, None, Bool, true, false, ◌==◌, cond, refl, ap, ◌∙◌, sym, subst, arith, append_assoc, append-nil, length-append}
use Rattle.af_journal.proofs.Common.{All, AllByRecursion, equal_is, flat_map, join_with_byte, onto_first, same_Some}
use Rattle.std.proofs.lemmas.List.Splits.{slice_split_at, slice_split_none, join_with_byte-slice_split}
use Rattle.af_journal.specs.declared.stage.Stage.{Stage}
use Rattle.af_journal.specs.Lines.{with_lf}
use Rattle.af_journal.specs.LineReading.{◌>>=◌}
use Rattle.af_journal.specs.Readings.{cut, first_refused, parts_of, refused_or, stage_after}
use Rattle.af_journal.proofs.Spelled.{Lacks, bind_some}

abbrev pub EachLacks : List (List ℕ) → Type 0
EachLacks ps = AllByRecursion (Lacks 10) ps

All-from_lacks : (b : ℕ) (xs : List ℕ) → Lacks b xs → All (λ x. (x == b) ≡ false) xs
All-from_lacks b [] p k d h = absurd (omega arith)
All-from_lacks b (x ∷ xs) p zero d h = p.0
All-from_lacks b (x ∷ xs) p (suc k) d h = All-from_lacks b xs p.1 k d (omega arith)

-- ## The first line

pub record Cut (bytes : List ℕ) (r : List ℕ × List ℕ) : Type 0 where
  pub whole : bytes ≡ r.0 ++ 10 ∷ r.1
  pub front : Lacks 10 r.0

cut_head : (c : ℕ) (cs : List ℕ) (t : Bool) (r : List ℕ × List ℕ) → (c == 10) ≡ t
    → cond t (Some ([], cs)) (cut cs >>= λ r. Some (c ∷ r.0, r.1)) ≡ Some r
    → ((r' : List ℕ × List ℕ) → cut cs ≡ Some r' → Cut cs r') → Cut (c ∷ cs) r
cut_head c cs true r is e rest =
    let same : ◌≡◌ {A = List ℕ × List ℕ} ([], cs) r = same_Some _ _ e in
    subst (λ (r : List ℕ × List ℕ). Cut (c ∷ cs) r) same (record { whole = ap (λ x. x ∷ cs) (equal_is c 10 is); front = tt })
cut_head c cs false r is e rest =
    let x = bind_some (cut cs) (λ r. Some (c ∷ r.0, r.1)) r e in
    let p = rest x.0 x.1 in
    let same : ◌≡◌ {A = List ℕ × List ℕ} (c ∷ x.0.0, x.0.1) r = same_Some _ _ x.2 in
    subst (λ (r : List ℕ × List ℕ). Cut (c ∷ cs) r) same (record { whole = ap (λ t. c ∷ t) p.whole; front = (is, p.front) })

pub cut-sound : (bytes : List ℕ) (r : List ℕ × List ℕ) → cut bytes ≡ Some r → Cut bytes r
cut-sound [] r e = cc
cut-sound (c ∷ cs) r e = cut_head c cs (c == 10) r refl e (cut-sound cs)

pub cut-again : (front rest : List ℕ) → Lacks 10 front → cut (front ++ 10 ∷ rest) ≡ Some (front, rest)
cut-again [] rest p = refl
cut-again (c ∷ cs) rest p =
    ap (λ t. cond t (Some ([], cs ++ 10 ∷ rest)) (cut (cs ++ 10 ∷ rest) >>= λ r. Some (c ∷ r.0, r.1))) p.0
    ∙ ap (λ (o : Option (List ℕ × List ℕ)). o >>= λ r. Some (c ∷ r.0, r.1)) (cut-again cs rest p.1)

pub cut_shorter : (rest part after : List ℕ) → cut rest ≡ Some (part, after) → length after < length rest
cut_shorter rest part after e =
    let c = cut-sound rest (part, after) e in
    omega (arith, ap length c.whole, length-append part (10 ∷ after))

-- ## The parts

pub parts-cut : (rest part after : List ℕ) → cut rest ≡ Some (part, after) → parts_of rest ≡ part ∷ parts_of after
parts-cut rest part after e =
    let c = cut-sound rest (part, after) e in
    ap parts_of c.whole ∙ slice_split_at (λ b. b == 10) part 10 after (All-from_lacks 10 part c.front) refl

none_bind : {A B : Type 0} (r : Option A) (f : A → B) → (r >>= λ x. Some (f x)) ≡ None → r ≡ None
none_bind (Some x) f e = cc
none_bind None f e = refl

none_head : (x : ℕ) (xs : List ℕ) (t : Bool) → (x == 10) ≡ t
    → cond {A = Option (List ℕ × List ℕ)} t (Some ([], xs)) (cut xs >>= λ r. Some (x ∷ r.0, r.1)) ≡ None → (cut xs ≡ None → Lacks 10 xs) → Lacks 10 (x ∷ xs)
none_head x xs true is e rest = cc
none_head x xs false is e rest = (is, rest (none_bind (cut xs) (λ r. (x ∷ r.0, r.1)) e))

none_lacks : (xs : List ℕ) → cut xs ≡ None → Lacks 10 xs
none_lacks [] e = tt
none_lacks (x ∷ xs) e = none_head x xs (x == 10) refl e (none_lacks xs)

-- a text with no LF is one part
pub parts-none : (rest : List ℕ) → cut rest ≡ None → parts_of rest ≡ rest ∷ []
parts-none rest e = slice_split_none (λ b. b == 10) rest (All-from_lacks 10 rest (none_lacks rest e))

onto_lacks : (x : ℕ) (ps : List (List ℕ)) → (x == 10) ≡ false → EachLacks ps → EachLacks (onto_first x ps)
onto_lacks x [] p q = ((p, tt), tt)
onto_lacks x (part ∷ ps) p q = ((p, q.0), q.1)

split_lacks : (x : ℕ) (xs : List ℕ) (b : Bool) → (x == 10) ≡ b → EachLacks (parts_of xs) → EachLacks (cond b ([] ∷ parts_of xs) (onto_first x (parts_of xs)))
split_lacks x xs true is p = (tt, p)
split_lacks x xs false is p = onto_lacks x (parts_of xs) is p

pub parts_lack : (text : List ℕ) → EachLacks (parts_of text)
parts_lack [] = (tt, tt)
parts_lack (x ∷ xs) = split_lacks x xs (x == 10) refl (parts_lack xs)

-- there is always a part
pub record Some_part (ps : List (List ℕ)) : Type 0 where
  pub first : List ℕ
  pub others : List (List ℕ)
  pub is : ps ≡ first ∷ others

onto_some : (x : ℕ) (ps : List (List ℕ)) → Some_part (onto_first x ps)
onto_some x [] = record { first = x ∷ []; others = []; is = refl }
onto_some x (p ∷ ps) = record { first = x ∷ p; others = ps; is = refl }

split_some : (x : ℕ) (xs : List ℕ) (b : Bool) → Some_part (cond b ([] ∷ parts_of xs) (onto_first x (parts_of xs)))
split_some x xs true = record { first = []; others = parts_of xs; is = refl }
split_some x xs false = onto_some x (parts_of xs)

pub some_part : (text : List ℕ) → Some_part (parts_of text)
some_part [] = record { first = []; others = []; is = refl }
some_part (x ∷ xs) = split_some x xs (x == 10)

pub joined : (text : List ℕ) → join_with_byte 10 (parts_of text) ≡ text
joined text = join_with_byte-slice_split 10 text

-- parts at the front, and the rest
pub join-append : (ps : List (List ℕ)) (q : List ℕ) (qs : List (List ℕ)) → join_with_byte 10 (ps ++ q ∷ qs) ≡ flat_map with_lf ps ++ join_with_byte 10 (q ∷ qs)
join-append [] q qs = refl
join-append (p ∷ []) q qs = sym (append_assoc p (10 ∷ []) (join_with_byte 10 (q ∷ qs))) ∙ ap (λ x. x ++ join_with_byte 10 (q ∷ qs)) (sym (append-nil (with_lf p)))
join-append (p ∷ r ∷ ps) q qs =
    ap (λ x. p ++ 10 ∷ x) (join-append (r ∷ ps) q qs)
    ∙ (sym (append_assoc p (10 ∷ []) (flat_map with_lf (r ∷ ps) ++ join_with_byte 10 (q ∷ qs)))
    ∙ sym (append_assoc (with_lf p) (flat_map with_lf (r ∷ ps)) (join_with_byte 10 (q ∷ qs))))

no_lf : (p rest : List ℕ) → [] ≡ p ++ 10 ∷ rest → ⊥
no_lf [] rest e = cc
no_lf (x ∷ p) rest e = cc

-- of two texts that begin alike the parts do, as far as there are LFs
pub parts_front : (ps qs : List (List ℕ)) (rest : List ℕ) → EachLacks ps → EachLacks qs
    → flat_map with_lf qs ≡ flat_map with_lf ps ++ rest → (more : List (List ℕ)) × (qs ≡ ps ++ more) × (flat_map with_lf more ≡ rest)
parts_front [] qs rest lp lq e = (qs, refl, e)
parts_front (p ∷ ps) [] rest lp lq e = absurd (no_lf p (flat_map with_lf ps ++ rest) (e ∙ (append_assoc (with_lf p) (flat_map with_lf ps) rest ∙ append_assoc p (10 ∷ []) _)))
parts_front (p ∷ ps) (q ∷ qs) rest lp lq e =
    let same : q ++ 10 ∷ flat_map with_lf qs ≡ p ++ 10 ∷ (flat_map with_lf ps ++ rest) =
    sym (append_assoc q (10 ∷ []) (flat_map with_lf qs)) ∙ (e ∙ (append_assoc (with_lf p) (flat_map with_lf ps) rest ∙ append_assoc p (10 ∷ []) (flat_map with_lf ps ++ rest))) in
    let both : ◌≡◌ {A = List ℕ × List ℕ} (q, flat_map with_lf qs) (p, flat_map with_lf ps ++ rest) =
    same_Some _ _ (sym (cut-again q (flat_map with_lf qs) lq.0) ∙ (ap cut same ∙ cut-again p (flat_map with_lf ps ++ rest) lp.0)) in
    let r = parts_front ps qs rest lp.1 lq.1 (ap (λ (t : List ℕ × List ℕ). t.1) both) in
    (r.0, (λ i. (both i).0 ∷ r.1 i), r.2)

-- the first part of a text that has an LF is refused, or those after it
pub refused-step : (tracks : ℕ) (at : Stage) (number : ℕ) (part after : List ℕ)
    → first_refused tracks at number (part ∷ parts_of after) ≡ refused_or number (stage_after tracks at part) (λ e. first_refused tracks e (number + 1) (parts_of after))
refused-step tracks at number part after =
    let s = some_part after in
    subst (λ ps. first_refused tracks at number (part ∷ ps) ≡ refused_or number (stage_after tracks at part) (λ e. first_refused tracks e (number + 1) ps)) (sym s.is) refl
