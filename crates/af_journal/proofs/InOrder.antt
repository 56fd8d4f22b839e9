-- Reading line by line: lines in order are taken, whatever was taken can be completed, and nothing else is taken.
use Rattle.std.proofs.Common.{◌≡◌, ℕ, zero, suc, ◌+◌, ◌<◌, ◌≤◌, ◌==◌, ◌&&◌, nat_le, nat_lt, not, List, [], ◌∷◌, ◌++◌, length, map, take, drop, Option, Some, None, Bool, true, false, cond, refl, ap, ◌∙◌, sym, subst, arith, append_assoc, append-nil, length-append, add-one, lit<}
use Rattle.af_journal.proofs.Common.{AllByRecursion, AreWords, flat_map, flat_map-append, itself, join_with_byte, none-some, not_zero, same_Some}
use Rattle.af_base.specs.declared.event.ClientCall.TheVariants as call
use Rattle.af_base.specs.declared.seen.Seen.TheVariants as seen
use Rattle.af_base.specs.declared.state.Push.TheVariants as pushing
use Rattle.af_journal.proofs.Basics.{fit-append}
use Rattle.af_journal.specs.declared.line.Line.TheVariants as line
use Rattle.af_journal.specs.declared.stage.Stage.{Stage}
use Rattle.af_journal.specs.declared.stage.Stage.TheVariants as stage
use Rattle.af_journal.specs.Lines.{Written, numbers, words, line_bytes, with_lf}
use Rattle.af_journal.specs.LineReading.{◌>>=◌, written_at}
use Rattle.af_journal.specs.Ranges.{IsWritten}
use Rattle.af_journal.specs.Readings.{IsFirstBad, ends, first_lines, first_refused, parts_of, refused_or, stage_after}
use Rattle.af_journal.proofs.Words.{IsInOrder, after_all}
use Rattle.af_journal.specs.Stages.{after_written, if_so, may_end}
use Rattle.af_journal.specs.Texts.{text_of_lines}
use Rattle.af_journal.proofs.Spelled.{Lacks, bind_some}
use Rattle.af_journal.proofs.Hex.{written-sound, written-again}
use Rattle.af_journal.proofs.Lacking.{written_lacks}
use Rattle.af_journal.proofs.Parts.{EachLacks, parts_lack, some_part, joined, join-append, parts_front}
use Rattle.af_journal.proofs.StagesMet.{IsMet, written_met}

-- some right text begins with these bytes
abbrev BeginsOne : (List ℕ → Type 0) → List ℕ → Type 0
BeginsOne IsRight front = (rest : List ℕ) × IsRight (front ++ rest)

-- ## Whatever was taken can be completed

pub all-append : (tracks : ℕ) (xs ys : List Written) (at next : Stage) → after_all tracks at xs ≡ Some next → after_all tracks at (xs ++ ys) ≡ after_all tracks next ys
all-append tracks [] ys at next e = ap (λ at. after_all tracks at ys) (same_Some _ _ e)
all-append tracks (w ∷ xs) ys at next e =
    let x = bind_some (after_written tracks at w) (λ next. after_all tracks next xs) next e in
    ap (λ o. o >>= λ next. after_all tracks next (xs ++ ys)) x.1 ∙ all-append tracks xs ys x.0 next x.2

-- lines that lead from a stage to an end
record Ending (tracks : ℕ) (at : Stage) : Type 0 where
  ws : List Written
  fit : AllByRecursion IsWritten ws
  end : Stage
  follow : after_all tracks at ws ≡ Some end
  may : may_end end ≡ true

zeros : ℕ → List ℕ
zeros zero = []
zeros (suc n) = 0 ∷ zeros n

zeros_are : (n : ℕ) → AreWords (zeros n)
unfolding zeros
zeros_are zero = tt
zeros_are (suc n) = (lit< tt, zeros_are n)

length-zeros : (n : ℕ) → length (zeros n) ≡ n
unfolding zeros
length-zeros zero = refl
length-zeros (suc n) = ap suc (length-zeros n)

some_zeros : (n : ℕ) → 1 ≤ n → IsWritten (words (zeros n))
unfolding zeros
some_zeros zero h = absurd (omega arith)
some_zeros (suc n) h = (lit< tt, zeros_are n)

due_is : (n : ℕ) → (length (zeros n) == n) ≡ true
due_is n = ap (λ m. m == n) (length-zeros n) ∙ itself n

here : (tracks : ℕ) (at : Stage) → may_end at ≡ true → Ending tracks at
here tracks at may = record { ws = []; fit = tt; end = at; follow = refl; may = may }

-- the submix comes, if it is due

mixed-by : (tracks low : ℕ) (b : Bool) → (low == 0) ≡ b → Ending tracks (stage.Mixed low)
mixed-by tracks low true e = record {
  ws = numbers (line.Slot 0 4096 false 268439552 0 0 seen.Empty) ∷ [];
  fit = ((lit< tt, lit< tt, (lit< tt, (lit< tt, (lit< tt, tt))), tt), tt);
  end = stage.Mixed 1;
  follow = ap (λ b. if_so (cond b true (nat_le low 0 && nat_lt 0 32)) (stage.Mixed 1) >>= λ next. Some next) e;
  may = refl;
}
mixed-by tracks low false e = record { ws = []; fit = tt; end = stage.Mixed low; follow = refl; may = ap not e }

ending : (tracks : ℕ) (at : Stage) → IsMet at → Ending tracks at
ending tracks stage.Nothing met = here tracks stage.Nothing refl
ending tracks (stage.Clients low) met = here tracks (stage.Clients low) refl
ending tracks (stage.Calls low) met = here tracks (stage.Calls low) refl
ending tracks (stage.Client low) met = record { ws = numbers (line.Call (call.Full 0)) ∷ []; fit = ((lit< tt, tt), tt); end = stage.Calls low; follow = refl; may = refl }
ending tracks (stage.Turn low part) met = record { ws = numbers (line.Pushed pushing.Clean) ∷ []; fit = (tt, tt); end = stage.Takes 0; follow = refl; may = refl }
ending tracks (stage.Look track) met = record { ws = words (0 ∷ 0 ∷ []) ∷ numbers (line.Pushed pushing.Clean) ∷ []; fit = ((lit< tt, (lit< tt, tt)), (tt, tt)); end = stage.Takes 0; follow = refl; may = refl }
ending tracks (stage.Takes low) met = here tracks (stage.Takes low) refl
ending tracks (stage.Take due low) met = record {
  ws = words (zeros due) ∷ [];
  fit = (some_zeros due met, tt);
  end = stage.Takes low;
  follow = ap (λ b. if_so b (stage.Takes low) >>= λ next. Some next) (due_is due);
  may = refl;
}
ending tracks stage.Turned met = here tracks stage.Turned refl
ending tracks stage.Fast met = record { ws = numbers (line.Entry 0 1) ∷ []; fit = ((lit< tt, lit< tt), tt); end = stage.Entries; follow = refl; may = refl }
ending tracks (stage.Mixed low) met = mixed-by tracks low (low == 0) refl
ending tracks (stage.Slot due low) met = record {
  ws = words (zeros due) ∷ [];
  fit = (some_zeros due met.0, tt);
  end = stage.Mixed low;
  follow = ap (λ b. if_so b (stage.Mixed low) >>= λ next. Some next) (due_is due);
  may = ap not (not_zero low met.1);
}
ending tracks stage.Entries met = here tracks stage.Entries refl

-- ## Parts

-- the lines that the parts spell, each of which may follow
pub record Taken (tracks : ℕ) (ps : List (List ℕ)) (at : Stage) : Type 0 where
  pub ws : List Written
  pub parts : ps ≡ map line_bytes ws
  pub fit : AllByRecursion IsWritten ws
  pub follow : after_all tracks stage.Nothing ws ≡ Some at
  pub met : IsMet at

taken-none : (tracks : ℕ) → Taken tracks [] stage.Nothing
taken-none tracks = record { ws = []; parts = refl; fit = tt; follow = refl; met = tt }

map-append : {X Y : Type 0} (f : X → Y) (xs ys : List X) → map f (xs ++ ys) ≡ map f xs ++ map f ys
map-append f [] ys = refl
map-append f (x ∷ xs) ys = ap (λ t. f x ∷ t) (map-append f xs ys)

taken-more : (tracks : ℕ) (ps : List (List ℕ)) (at next : Stage) (part : List ℕ) → Taken tracks ps at → stage_after tracks at part ≡ Some next → Taken tracks (ps ++ part ∷ []) next
unfolding stage_after
taken-more tracks ps at next part t e =
    let w = bind_some (written_at part) (after_written tracks at) next e in
    let s = written-sound part w.0 w.1 in
    record {
      ws = t.ws ++ w.0 ∷ [];
      parts = ap (λ ps. ps ++ part ∷ []) t.parts ∙ ap (λ p. map line_bytes t.ws ++ p ∷ []) s.spelled ∙ sym (map-append line_bytes t.ws (w.0 ∷ []));
      fit = fit-append t.ws (w.0 ∷ []) t.fit (s.fits, tt);
      follow = all-append tracks t.ws (w.0 ∷ []) stage.Nothing at t.follow ∙ ap (λ o. o >>= λ next. Some next) w.2;
      met = written_met tracks at w.0 next w.2;
    }

spelled-map : (ws : List Written) → text_of_lines ws ≡ flat_map with_lf (map line_bytes ws)
spelled-map [] = refl
spelled-map (w ∷ ws) = ap (λ x. with_lf (line_bytes w) ++ x) (spelled-map ws)

-- a text in order begins with whatever was taken
viable : (tracks : ℕ) (ps : List (List ℕ)) (at : Stage) → Taken tracks ps at → BeginsOne (IsInOrder tracks) (flat_map with_lf ps)
viable tracks ps at t =
    let c = ending tracks at t.met in (
      text_of_lines c.ws,
      (
        t.ws ++ c.ws,
        record {
          numbers_fit = fit-append t.ws c.ws t.fit c.fit;
          last = c.end;
          follow = all-append tracks t.ws c.ws stage.Nothing at t.follow ∙ c.follow;
          ends = c.may;
        },
        ap (λ ps. flat_map with_lf ps ++ text_of_lines c.ws) t.parts ∙ ap (λ x. x ++ text_of_lines c.ws) (sym (spelled-map t.ws)) ∙ sym (flat_map-append (λ l. with_lf (line_bytes l)) t.ws c.ws),
      ),
    )

-- the stage after some parts, one after the other
abbrev pub after_parts : ℕ → Stage → List (List ℕ) → Option Stage
after_parts tracks at [] = Some at
after_parts tracks at (part ∷ parts) = stage_after tracks at part >>= λ next. after_parts tracks next parts

parts-append : (tracks : ℕ) (ps qs : List (List ℕ)) (at next : Stage) → after_parts tracks at ps ≡ Some next → after_parts tracks at (ps ++ qs) ≡ after_parts tracks next qs
parts-append tracks [] qs at next e = ap (λ at. after_parts tracks at qs) (same_Some _ _ e)
parts-append tracks (p ∷ ps) qs at next e =
    let x = bind_some (stage_after tracks at p) (λ next. after_parts tracks next ps) next e in
    ap (λ o. o >>= λ next. after_parts tracks next (ps ++ qs)) x.1 ∙ parts-append tracks ps qs x.0 next x.2

one_part : (tracks : ℕ) (at : Stage) (w : Written) → IsWritten w → stage_after tracks at (line_bytes w) ≡ after_written tracks at w
unfolding stage_after
one_part tracks at w fit = ap (λ o. o >>= after_written tracks at) (written-again w fit)

all_parts : (tracks : ℕ) (ws : List Written) (at : Stage) (next : Stage) → AllByRecursion IsWritten ws → after_all tracks at ws ≡ Some next → after_parts tracks at (map line_bytes ws) ≡ Some next
all_parts tracks [] at next fit e = e
all_parts tracks (w ∷ ws) at next fit e =
    let x = bind_some (after_written tracks at w) (λ next. after_all tracks next ws) next e in
    ap (λ o. o >>= λ next. after_parts tracks next (map line_bytes ws)) (one_part tracks at w fit.0 ∙ x.1) ∙ all_parts tracks ws x.0 next fit.1 x.2

each_lacks : (ws : List Written) → AllByRecursion IsWritten ws → EachLacks (map line_bytes ws)
each_lacks [] p = tt
each_lacks (w ∷ ws) p = (written_lacks w p.0, each_lacks ws p.1)

-- the parts at the front of a text in order are all taken
record AllTaken (tracks : ℕ) (ps : List (List ℕ)) (rest : List ℕ) : Type 0 where
  more : List (List ℕ)
  rest_is : flat_map with_lf more ≡ rest
  end : Stage
  taken : after_parts tracks stage.Nothing (ps ++ more) ≡ Some end
  may : may_end end ≡ true

all_taken : (tracks : ℕ) (ps : List (List ℕ)) (rest : List ℕ) → EachLacks ps → IsInOrder tracks (flat_map with_lf ps ++ rest) → AllTaken tracks ps rest
all_taken tracks ps rest lacks r =
    let ws = r.0 in let o = r.1 in
    let f = parts_front ps (map line_bytes ws) rest lacks (each_lacks ws o.numbers_fit) (sym (spelled-map ws) ∙ sym r.2) in
    record {
      more = f.0;
      rest_is = f.2;
      end = o.last;
      taken = ap (after_parts tracks stage.Nothing) (sym f.1) ∙ all_parts tracks ws stage.Nothing o.last o.numbers_fit o.follow;
      may = o.ends;
    }

-- ## The whole text

-- the parts that were taken, and those that are left
record Place (tracks : ℕ) (text : List ℕ) (ps qs : List (List ℕ)) (at : Stage) (n : ℕ) : Type 0 where
  parts : parts_of text ≡ ps ++ qs
  taken : Taken tracks ps at
  before : EachLacks ps
  left : EachLacks qs
  number : n ≡ length ps + 1

take-front : {X : Type 0} (m : ℕ) (xs ys : List X) → m ≤ length xs → take m (xs ++ ys) ≡ take m xs
take-front zero xs ys h = refl
take-front (suc m) [] ys h = absurd (omega arith)
take-front (suc m) (x ∷ xs) ys h = ap (λ t. x ∷ t) (take-front m xs ys (omega arith))

take-drop : {X : Type 0} (m : ℕ) (xs : List X) → take m xs ++ drop m xs ≡ xs
take-drop zero xs = refl
take-drop (suc m) [] = refl
take-drop (suc m) (x ∷ xs) = ap (λ t. x ∷ t) (take-drop m xs)

take-one : {X : Type 0} (xs : List X) (y : X) (ys : List X) → take (length xs + 1) (xs ++ y ∷ ys) ≡ xs ++ y ∷ []
take-one [] y ys = refl
take-one (x ∷ xs) y ys = rw (add-one) (ap (λ t. x ∷ t) (rw (add-one) at (take-one xs y ys)))

begins-front : (tracks : ℕ) (a b : List ℕ) → BeginsOne (IsInOrder tracks) (a ++ b) → BeginsOne (IsInOrder tracks) a
begins-front tracks a b r = (b ++ r.0, subst (IsInOrder tracks) (append_assoc a b r.0) r.1)

above : (tracks : ℕ) (text : List ℕ) (ps qs : List (List ℕ)) (at : Stage) (number m : ℕ) → Place tracks text ps qs at number → m < number → BeginsOne (IsInOrder tracks) (first_lines m text)
above tracks text ps qs at number m place h =
    let all : BeginsOne (IsInOrder tracks) (flat_map with_lf ps) = viable tracks ps at place.taken in
    let split : flat_map with_lf (take m ps) ++ flat_map with_lf (drop m ps) ≡ flat_map with_lf ps =
    sym (flat_map-append with_lf (take m ps) (drop m ps)) ∙ ap (flat_map with_lf) (take-drop m ps) in
    let front : BeginsOne (IsInOrder tracks) (flat_map with_lf (take m ps)) = begins-front tracks (flat_map with_lf (take m ps)) (flat_map with_lf (drop m ps)) (subst (BeginsOne (IsInOrder tracks)) (sym split) all) in
    let same : take m (parts_of text) ≡ take m ps = ap (take m) place.parts ∙ take-front m ps qs (omega (arith, place.number)) in
    subst (λ xs. BeginsOne (IsInOrder tracks) (flat_map with_lf xs)) (sym same) front

text_is : (tracks : ℕ) (text : List ℕ) (ps : List (List ℕ)) (q : List ℕ) (qs : List (List ℕ)) (at : Stage) (number : ℕ) → Place tracks text ps (q ∷ qs) at number
    → text ≡ flat_map with_lf ps ++ join_with_byte 10 (q ∷ qs)
text_is tracks text ps q qs at number place = sym (joined text) ∙ (ap (join_with_byte 10) place.parts ∙ join-append ps q qs)

lf_within : (xs ys : List ℕ) → Lacks 10 (xs ++ 10 ∷ ys) → ⊥
lf_within [] ys l = let bad : ◌≡◌ {A = Bool} true false = l.0 in cc
lf_within (x ∷ xs) ys l = lf_within xs ys l.1

lacks-push : (ps : List (List ℕ)) (part : List ℕ) → EachLacks ps → Lacks 10 part → EachLacks (ps ++ part ∷ [])
lacks-push [] part p q = (q, tt)
lacks-push (x ∷ ps) part p q = (p.0, lacks-push ps part p.1 q)

-- nothing that lacks LFs ends in one
no_parts : (more : List (List ℕ)) (part : List ℕ) → flat_map with_lf more ≡ part → Lacks 10 part → (more ≡ []) × (part ≡ [])
no_parts [] part e l = (refl, sym e)
no_parts (m ∷ more) part e l = absurd (lf_within m (flat_map with_lf more) (subst (Lacks 10) (sym e ∙ append_assoc m (10 ∷ []) (flat_map with_lf more)) l))

-- the stage after the parts that were taken
taken_at : (tracks : ℕ) (ps : List (List ℕ)) (at : Stage) → Taken tracks ps at → after_parts tracks stage.Nothing ps ≡ Some at
taken_at tracks ps at t = ap (after_parts tracks stage.Nothing) t.parts ∙ all_parts tracks t.ws stage.Nothing at t.fit t.follow

-- a wrong end
last_bad : (tracks : ℕ) (text : List ℕ) (ps : List (List ℕ)) (part : List ℕ) (at : Stage) (number : ℕ) → Place tracks text ps (part ∷ []) at number
    → ends at part ≡ false → IsFirstBad (IsInOrder tracks) text number
last_bad tracks text ps part at number place wrong = record {
  none = λ r.
      let t = all_taken tracks ps part place.before (subst (IsInOrder tracks) (text_is tracks text ps part [] at number place) r) in
      let n = no_parts t.more part t.rest_is place.left.0 in
      let all : after_parts tracks stage.Nothing ps ≡ Some t.end = ap (after_parts tracks stage.Nothing) (sym (append-nil ps) ∙ ap (λ x. ps ++ x) (sym n.0)) ∙ t.taken in
      let same : at ≡ t.end = same_Some _ _ (sym (taken_at tracks ps at place.taken) ∙ all) in
      let right : ends at part ≡ true = ap (ends at) n.1 ∙ ap may_end same ∙ t.may in
      let bad : ◌≡◌ {A = Bool} true false = sym right ∙ wrong in cc;
  above = λ m h. above tracks text ps (part ∷ []) at number m place h;
  here = λ h a. absurd (omega (arith, place.number, ap length place.parts, length-append ps (part ∷ [])));
  inside = (omega (arith, place.number), omega (arith, place.number, ap length place.parts, length-append ps (part ∷ [])));
}

none_taken : (tracks : ℕ) (at end : Stage) (part : List ℕ) (more : List (List ℕ)) → stage_after tracks at part ≡ None → after_parts tracks at (part ∷ more) ≡ Some end → ⊥
none_taken tracks at end part more h k =
    let x = bind_some (stage_after tracks at part) (λ next. after_parts tracks next more) end k in none-some x.0 (sym h ∙ x.1)

-- a wrong line
line_bad : (tracks : ℕ) (text : List ℕ) (ps : List (List ℕ)) (part next : List ℕ) (qs : List (List ℕ)) (at : Stage) (number : ℕ)
    → Place tracks text ps (part ∷ next ∷ qs) at number → stage_after tracks at part ≡ None → IsFirstBad (IsInOrder tracks) text number
line_bad tracks text ps part next qs at number place wrong =
    let lacks : EachLacks (ps ++ part ∷ []) = lacks-push ps part place.before place.left.0 in
    let lines : first_lines number text ≡ flat_map with_lf (ps ++ part ∷ []) =
    ap (λ n. flat_map with_lf (take n (parts_of text))) place.number ∙ (ap (λ x. flat_map with_lf (take (length ps + 1) x)) place.parts ∙ ap (flat_map with_lf) (take-one ps part (next ∷ qs))) in
    let refuse : BeginsOne (IsInOrder tracks) (first_lines number text) → ⊥ = λ a.
    let t = all_taken tracks (ps ++ part ∷ []) a.0 lacks (subst (λ x. IsInOrder tracks (x ++ a.0)) lines a.1) in
    let again : after_parts tracks at (part ∷ t.more) ≡ Some t.end =
    sym (parts-append tracks ps (part ∷ t.more) stage.Nothing at (taken_at tracks ps at place.taken)) ∙ (ap (after_parts tracks stage.Nothing) (sym (append_assoc ps (part ∷ []) t.more)) ∙ t.taken) in
    none_taken tracks at t.end part t.more wrong again in
    record {
      none = λ r.
          let all : text ≡ first_lines number text ++ join_with_byte 10 (next ∷ qs) =
          text_is tracks text ps part (next ∷ qs) at number place
          ∙ (ap (λ x. flat_map with_lf ps ++ x) (sym (append_assoc part (10 ∷ []) (join_with_byte 10 (next ∷ qs))))
          ∙ (sym (append_assoc (flat_map with_lf ps) (with_lf part) (join_with_byte 10 (next ∷ qs)))
          ∙ ap (λ x. x ++ join_with_byte 10 (next ∷ qs)) (ap (λ x. flat_map with_lf ps ++ x) (sym (append-nil (with_lf part))) ∙ (sym (flat_map-append with_lf ps (part ∷ [])) ∙ sym lines)))) in
          refuse (join_with_byte 10 (next ∷ qs), subst (IsInOrder tracks) all r);
      above = λ m h. above tracks text ps (part ∷ next ∷ qs) at number m place h;
      here = λ h a. refuse a;
      inside = (omega (arith, place.number), omega (arith, place.number, ap length place.parts, length-append ps (part ∷ next ∷ qs)));
    }

-- what reading line by line finds
abbrev pub Found : ℕ → List ℕ → Option ℕ → Type 0
Found tracks text None = IsInOrder tracks text
Found tracks text (Some number) = IsFirstBad (IsInOrder tracks) text number

or_cases : (tracks : ℕ) (text : List ℕ) (number : ℕ) (o : Option Stage) (f : Stage → Option ℕ)
    → (o ≡ None → IsFirstBad (IsInOrder tracks) text number) → ((next : Stage) → o ≡ Some next → Found tracks text (f next)) → Found tracks text (refused_or number o f)
or_cases tracks text number None f p q = p refl
or_cases tracks text number (Some next) f p q = q next refl

-- a right end
last_right : (tracks : ℕ) (text : List ℕ) (ps : List (List ℕ)) (part : List ℕ) (at : Stage) (number : ℕ) → Place tracks text ps (part ∷ []) at number → ends at part ≡ true → IsInOrder tracks text
last_right tracks text ps [] at number place right =
    let t = place.taken in (
      t.ws,
      record { numbers_fit = t.fit; last = at; follow = t.follow; ends = right },
      text_is tracks text ps [] [] at number place ∙ append-nil (flat_map with_lf ps) ∙ ap (flat_map with_lf) t.parts ∙ sym (spelled-map t.ws),
    )
last_right tracks text ps (c ∷ cs) at number place right = cc

last : (tracks : ℕ) (text : List ℕ) (ps : List (List ℕ)) (part : List ℕ) (at : Stage) (number : ℕ) (b : Bool) → ends at part ≡ b
    → Place tracks text ps (part ∷ []) at number → Found tracks text (cond b None (Some number))
last tracks text ps part at number true e place = last_right tracks text ps part at number place e
last tracks text ps part at number false e place = last_bad tracks text ps part at number place e

place-more : (tracks : ℕ) (text : List ℕ) (ps : List (List ℕ)) (part next : List ℕ) (qs : List (List ℕ)) (at later : Stage) (number : ℕ)
    → Place tracks text ps (part ∷ next ∷ qs) at number → stage_after tracks at part ≡ Some later → Place tracks text (ps ++ part ∷ []) (next ∷ qs) later (number + 1)
place-more tracks text ps part next qs at later number place e = record {
  parts = place.parts ∙ sym (append_assoc ps (part ∷ []) (next ∷ qs));
  taken = taken-more tracks ps at later part place.taken e;
  before = lacks-push ps part place.before place.left.0;
  left = place.left.1;
  number = omega (arith, place.number, length-append ps (part ∷ []));
}

read_on : (tracks : ℕ) (text : List ℕ) (ps : List (List ℕ)) (part : List ℕ) (qs : List (List ℕ)) (at : Stage) (number : ℕ)
    → Place tracks text ps (part ∷ qs) at number → Found tracks text (first_refused tracks at number (part ∷ qs))
read_on tracks text ps part [] at number place = last tracks text ps part at number (ends at part) refl place
read_on tracks text ps part (next ∷ qs) at number place =
    or_cases tracks text number (stage_after tracks at part) (λ later. first_refused tracks later (number + 1) (next ∷ qs))
    (λ none. line_bad tracks text ps part next qs at number place none)
    (λ later e. read_on tracks text (ps ++ part ∷ []) next qs later (number + 1) (place-more tracks text ps part next qs at later number place e))

-- what reading the whole text finds
pub read_all : (tracks : ℕ) (text : List ℕ) → Found tracks text (first_refused tracks stage.Nothing 1 (parts_of text))
read_all tracks text =
    let s = some_part text in
    let place : Place tracks text [] (s.first ∷ s.others) stage.Nothing 1 = record {
      parts = s.is;
      taken = taken-none tracks;
      before = tt;
      left = subst EachLacks s.is (parts_lack text);
      number = refl;
    } in
    subst (λ ps. Found tracks text (first_refused tracks stage.Nothing 1 ps)) (sym s.is)
    (read_on tracks text [] s.first s.others stage.Nothing 1 place)

-- ## What is left of a text

-- a text is that of lines each of which may follow those before it, the first one a stage, and of which the last may be the last
pub record FollowsFrom (tracks : ℕ) (at : Stage) (text : List ℕ) : Type 0 where
  pub ws : List Written
  pub fit : AllByRecursion IsWritten ws
  pub last : Stage
  pub follow : after_all tracks at ws ≡ Some last
  pub may : may_end last ≡ true
  pub is : text ≡ text_of_lines ws

end_by : (tracks : ℕ) (at : Stage) (part : List ℕ) (number : ℕ) (b : Bool) → ends at part ≡ b → cond b None (Some number) ≡ None → FollowsFrom tracks at part
end_by tracks at [] number true may none = record { ws = []; fit = tt; last = at; follow = refl; may = may; is = refl }
end_by tracks at (c ∷ cs) number true may none = cc
end_by tracks at part number false may none = absurd (none-some number (sym none))

not_refused : (number : ℕ) (o : Option Stage) (f : Stage → Option ℕ) → refused_or number o f ≡ None → (next : Stage) × (o ≡ Some next) × (f next ≡ None)
not_refused number None f e = absurd (none-some number (sym e))
not_refused number (Some next) f e = (next, refl, e)

parts_from : (tracks : ℕ) (at : Stage) (number : ℕ) (part : List ℕ) (parts : List (List ℕ)) → first_refused tracks at number (part ∷ parts) ≡ None → FollowsFrom tracks at (join_with_byte 10 (part ∷ parts))
unfolding stage_after
parts_from tracks at number part [] none = end_by tracks at part number (ends at part) refl none
parts_from tracks at number part (q ∷ parts) none =
    let n = not_refused number (stage_after tracks at part) (λ at. first_refused tracks at (number + 1) (q ∷ parts)) none in
    let w = bind_some (written_at part) (after_written tracks at) n.0 n.1 in
    let s = written-sound part w.0 w.1 in
    let r = parts_from tracks n.0 (number + 1) q parts n.2 in
    record {
      ws = w.0 ∷ r.ws;
      fit = (s.fits, r.fit);
      last = r.last;
      follow = ap (λ o. o >>= λ next. after_all tracks next r.ws) w.2 ∙ r.follow;
      may = r.may;
      is = (λ k. s.spelled k ++ 10 ∷ r.is k) ∙ sym (append_assoc (line_bytes w.0) (10 ∷ []) (text_of_lines r.ws));
    }

-- nothing of it is refused
pub none_refused : (tracks : ℕ) (at : Stage) (text : List ℕ) → first_refused tracks at 1 (parts_of text) ≡ None → FollowsFrom tracks at text
none_refused tracks at text none =
    let p = some_part text in
    subst (FollowsFrom tracks at) (ap (join_with_byte 10) (sym p.is) ∙ joined text) (parts_from tracks at 1 p.first p.others (ap (first_refused tracks at 1) (sym p.is) ∙ none))
