-- A block that was told right is told right at each earlier place.
use Rattle.std.proofs.Common.{◌≡◌, ℕ, ◌+◌, ◌-◌, ◌≤◌, Bool, true, false, map, List, [], ◌∷◌, ◌++◌, take, drop, length, refl, sym, ap, ◌∙◌, subst, arith, length-append, append-nil, append_assoc}
use Rattle.af_one_turn_run.proofs.Common.{BlockTold, ClientEvent, HandEvent, IsLegal, Moment, ServerEvent, Shape, TrackPoint, after, by_client, by_hand, by_server, length-take, start, stream_met, taken_of, with_taken, told_more}
use Rattle.af_base.specs.declared.event.ServerEvent.TheVariants as server
use Rattle.af_one_turn_run.proofs.Taking.{IsTakenOf}
use Rattle.af_one_turn_run.proofs.Told.{IsToldLegally}
use Rattle.af_one_turn_run.proofs.LegalFronts.{legal_front}
use Rattle.af_one_turn_run.proofs.OneLooks.{same_parts}
use Rattle.af_one_turn_run.proofs.OneTurn.{IsBlockTold}

-- on a block of the same shape more was told, and more taken
pub record Grows (b after : BlockTold) : Type 0 where
  pub shape : after.shape ≡ b.shape
  pub moments : List Moment
  pub told : after.told ≡ told_more b.told moments
  pub words : List ℕ
  pub taken : after.taken ≡ b.taken ++ words

-- how many frames an event takes
abbrev pub takes_by : ServerEvent → ℕ
takes_by (server.Take count) = count
takes_by _ = 0

-- how many frames the takes among these moments cover
abbrev pub takes_in : List Moment → ℕ
takes_in [] = 0
takes_in (by_client e ∷ told) = takes_in told
takes_in (by_server e ∷ told) = takes_by e + takes_in told
takes_in (by_hand e ∷ told) = takes_in told

-- as many frames of a block are taken as the takes say
abbrev pub IsCounted : BlockTold → Type 0
IsCounted b = length b.taken ≡ takes_in b.told

-- ## More and more

pub more_then : (told xs ys : List Moment) → told_more (told_more told xs) ys ≡ told_more told (xs ++ ys)
more_then told [] ys = refl
more_then told (x ∷ xs) ys = more_then (x ∷ told) xs ys

pub grows_not : (b : BlockTold) → Grows b b
grows_not b = record { shape = refl; moments = []; told = refl; words = []; taken = sym (append-nil b.taken) }

pub grows_then : (a b c : BlockTold) → Grows a b → Grows b c → Grows a c
grows_then a b c g h = record {
  shape = h.shape ∙ g.shape;
  moments = g.moments ++ h.moments;
  told = h.told ∙ ap (λ (l : List Moment). told_more l h.moments) g.told ∙ more_then a.told g.moments h.moments;
  words = g.words ++ h.words;
  taken = h.taken ∙ ap (λ (l : List ℕ). l ++ h.words) g.taken ∙ append_assoc a.taken g.words h.words;
}

pub grows_met : (p h : Bool) (b : BlockTold) → Grows b (stream_met p h b)
grows_met true true b = record { shape = refl; moments = _ ∷ _ ∷ _ ∷ []; told = refl; words = []; taken = sym (append-nil b.taken) }
grows_met true false b = record { shape = refl; moments = _ ∷ _ ∷ []; told = refl; words = []; taken = sym (append-nil b.taken) }
grows_met false true b = record { shape = refl; moments = _ ∷ []; told = refl; words = []; taken = sym (append-nil b.taken) }
grows_met false false b = grows_not b

-- ## How much is taken

pub takes_more : (told moments : List Moment) → takes_in (told_more told moments) ≡ takes_in told + takes_in moments
takes_more told [] = omega arith
takes_more told (by_client e ∷ moments) = takes_more (by_client e ∷ told) moments
takes_more told (by_server e ∷ moments) = let r = takes_more (by_server e ∷ told) moments in omega (arith, r)
takes_more told (by_hand e ∷ moments) = takes_more (by_hand e ∷ told) moments

pub client_takes : (es : List ClientEvent) → takes_in (map by_client es) ≡ 0
client_takes [] = refl
client_takes (e ∷ es) = client_takes es

pub hand_takes : (es : List HandEvent) → takes_in (map by_hand es) ≡ 0
hand_takes [] = refl
hand_takes (e ∷ es) = hand_takes es

module _ (frames : List ℕ) (k : Shape) where
  one_few : (p : TrackPoint) (taken : List ℕ) (e : ServerEvent) → length (with_taken frames k.base p taken e) ≤ length taken + takes_by e
  one_few p taken (server.Take count) =
      let n = length-append taken (take count (drop (p.consumed - k.base) frames)) in
      let t = length-take count (drop (p.consumed - k.base) frames) in
      omega (arith, n, t)
  one_few p taken e = omega arith

  -- no more is taken than the takes say
  taken_few : (told : List Moment) → length (taken_of frames k told) ≤ takes_in told
  taken_few [] = omega arith
  taken_few (by_client e ∷ told) = taken_few told
  taken_few (by_server e ∷ told) = let r = taken_few told in let o = one_few (after (start k) told) (taken_of frames k told) e in omega (arith, r, o)
  taken_few (by_hand e ∷ told) = taken_few told

  -- what more moments take
  record TakesMore (told moments : List Moment) : Type 0 where
    words : List ℕ
    is : taken_of frames k (told_more told moments) ≡ taken_of frames k told ++ words
    few : length words ≤ takes_in moments

  one_more : (p : TrackPoint) (taken : List ℕ) (e : ServerEvent) → (words : List ℕ) × (with_taken frames k.base p taken e ≡ taken ++ words) × (length words ≤ takes_by e)
  one_more p taken (server.Take count) = (take count (drop (p.consumed - k.base) frames), refl, (let t = length-take count (drop (p.consumed - k.base) frames) in omega (arith, t)))
  one_more p taken e = ([], sym (append-nil taken), omega arith)

  more_taken : (told moments : List Moment) → TakesMore told moments
  more_taken told [] = record { words = []; is = sym (append-nil (taken_of frames k told)); few = omega arith }
  more_taken told (by_client e ∷ moments) = let r = more_taken (by_client e ∷ told) moments in record { words = r.words; is = r.is; few = r.few }
  more_taken told (by_hand e ∷ moments) = let r = more_taken (by_hand e ∷ told) moments in record { words = r.words; is = r.is; few = r.few }
  more_taken told (by_server e ∷ moments) =
      let r = more_taken (by_server e ∷ told) moments in
      let o = one_more (after (start k) told) (taken_of frames k told) e in
      record {
        words = o.0 ++ r.words;
        is = r.is ∙ ap (λ (l : List ℕ). l ++ r.words) o.1 ∙ append_assoc (taken_of frames k told) o.0 r.words;
        few = (let n = length-append o.0 r.words in let a = o.2 in let b = r.few in omega (arith, n, a, b));
      }

-- ## Earlier places

pub legal_before : (b after_is : BlockTold) → Grows b after_is → IsToldLegally after_is → IsToldLegally b
legal_before b after_is g l = legal_front (start b.shape) b.told g.moments (subst (λ (z : Shape × List Moment). IsLegal (start z.0) z.1) (λ i. (g.shape i, g.told i)) l)

pub taken_before : (frames : List ℕ) (b after_is : BlockTold) → Grows b after_is → IsCounted b → IsCounted after_is → IsTakenOf frames after_is → IsTakenOf frames b
taken_before frames b after_is g counted counted_after is =
    let r = more_taken frames b.shape b.told g.moments in
    let all : taken_of frames b.shape b.told ++ r.words ≡ b.taken ++ g.words = sym r.is ∙ (λ i. taken_of frames (sym g.shape i) (sym g.told i)) ∙ is ∙ g.taken in
    let few = taken_few frames b.shape b.told in
    let more = takes_more b.told g.moments in
    let there = ap takes_in g.told in
    let n = length-append (taken_of frames b.shape b.told) r.words in
    let m = length-append b.taken g.words in
    let same = ap length all in
    let long = ap length g.taken in
    let rest = r.few in
    (same_parts (taken_of frames b.shape b.told) b.taken r.words g.words (omega (arith, few, more, there, n, m, same, long, rest, counted, counted_after)) all).0

pub told_before : (frames : List ℕ) (b after_is : BlockTold) → Grows b after_is → IsCounted b → IsCounted after_is → IsBlockTold frames after_is → IsBlockTold frames b
told_before frames b after_is g counted counted_after h = record { legal = legal_before b after_is g h.legal; taken = taken_before frames b after_is g counted counted_after h.taken }
