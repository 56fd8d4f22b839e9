-- Lists that stay lawful, and lists without a drop.
use Rattle.std.proofs.Common.{◌≡◌, ℕ, zero, suc, ◌+◌, ◌≤◌, true, ◌⊎◌, inl, inr, MatchOption, Option, None, Some, List, [], ◌∷◌, ◌++◌, length, take, drop, map, refl, sym, ap, ◌∙◌, subst, length-take-le}
use Rattle.std.proofs.Math.Seq.{take-append-add}
use Rattle.std.proofs.lemmas.List.{take-append-drop, map-append}
use Rattle.af_base.proofs.Basics.{both_true}
use Rattle.af_base.specs.declared.frame.Frame.{Frame}
use Rattle.af_base.specs.declared.event.ServerEvent.{ServerEvent}
use Rattle.af_base.specs.declared.seen.Seen.{Seen}
use Rattle.af_base.specs.declared.seen.Seen.TheVariants as seen
use Rattle.af_base.specs.Sample.{packed_word}
use Rattle.af_model.proofs.Basics.{both_first}
use Rattle.af_model.specs.Fates.{keeps_all, drops_none}
use Rattle.af_model.specs.ServerCalls.{look_at, look_events, shown_by}
use Rattle.af_model.proofs.Logic.{both_right}
use Rattle.af_block_tests.specs.Relay.{IsFlushed}
use Rattle.af_server.specs.Looks.{Looks}
use Rattle.af_server.specs.declared.look.Look.{Look}
use Rattle.af_server.specs.Order.{ServerState}

pub drops_join : (xs ys : List ServerEvent) → drops_none xs ≡ true → drops_none ys ≡ true → drops_none (xs ++ ys) ≡ true
drops_join [] ys a b = b
drops_join (x ∷ xs) ys a b = both_true (keeps_all x) _ (both_first (keeps_all x) (drops_none xs) a) (drops_join xs ys (both_right (keeps_all x) (drops_none xs) a) b)

look_drops : (es : List ServerEvent) (shows : Seen) (flush rear front : ℕ) → drops_none es ≡ true → IsFlushed shows ⊎ (drops_none (es ++ look_events shows flush rear front) ≡ true)
look_drops es (seen.Flushed dropped) flush rear front clean = inl tt
look_drops es _ flush rear front clean = inr (drops_join es _ clean refl)

-- a look that is not Flushed drops nothing
pub looks_clean : (c : ServerState) (asked : ℕ) (look : Look) (d : ServerState) → Looks c asked look d → drops_none c.pass.part.events ≡ true
    → IsFlushed look.seen ⊎ (drops_none d.pass.part.events ≡ true)
looks_clean c asked look d looks clean = by c.shut looks
  where
    by : (o : Option (ℕ × ℕ))
        → MatchOption o
        (
        (front : ℕ)
        × (let shows = look_at c.pass.part.shape c.flush asked look.flush look.rear front in
        (look.seen ≡ shows) × (d.shown ≡ shown_by shows) × (d.pass.part.events ≡ c.pass.part.events ++ look_events shows look.flush look.rear front)))
        (λ words. (look.seen ≡ seen.Shut words.0 words.1) × (look.flush ≡ c.flush) × (look.rear ≡ words.1) × (d ≡ (record c { shown = None })))
        → IsFlushed look.seen ⊎ (drops_none d.pass.part.events ≡ true)
    by None h =
        subst (λ (x : Seen × List ServerEvent). IsFlushed x.0 ⊎ (drops_none x.1 ≡ true)) (λ i. (sym h.1.0 i, sym h.1.2 i)) (
        look_drops c.pass.part.events (look_at c.pass.part.shape c.flush asked look.flush look.rear h.0) look.flush look.rear h.0 clean)
    by (Some words) h = inr (subst (λ (x : ServerState). drops_none x.pass.part.events ≡ true) (sym h.3) clean)

-- a beginning of a beginning
pub beginning : (words : List ℕ) (n m : ℕ) → take n (take m words) ≡ take (length (take n (take m words))) words
beginning [] zero zero = refl
beginning [] zero (suc m) = refl
beginning [] (suc n) zero = refl
beginning [] (suc n) (suc m) = refl
beginning (w ∷ words) zero zero = refl
beginning (w ∷ words) zero (suc m) = refl
beginning (w ∷ words) (suc n) zero = refl
beginning (w ∷ words) (suc n) (suc m) = ap (λ (l : List ℕ). w ∷ l) (beginning words n m)

pub take_begins : (xs words : List ℕ) (n m : ℕ) → xs ≡ take n (take m words) → xs ≡ take (length xs) words
take_begins xs words n m is = is ∙ beginning words n m ∙ ap (λ (l : List ℕ). take (length l) words) (sym is)

-- the words of some frames, and then of those that follow them
pub take_on : (xs : List Frame) (n m : ℕ) → n ≤ length xs → map packed_word (take n xs) ++ map packed_word (take m (drop n xs)) ≡ map packed_word (take (n + m) xs)
take_on xs n m le =
    let joined : take n xs ++ take m (drop n xs) ≡ take (n + m) xs =
    sym (take-append-add (take n xs) (drop n xs) m) ∙ ap (λ (z : ℕ × List Frame). take (z.0 + m) z.1) (λ i. (length-take-le n xs le i, take-append-drop n xs i)) in
    sym (map-append packed_word (take n xs) (take m (drop n xs))) ∙ ap (map packed_word) joined

pub whole : (xs : List Frame) (k : ℕ) → length xs ≡ k → take k xs ≡ xs
whole [] k is = (let e : k ≡ 0 = sym is in ap (λ (z : ℕ). take z []) e)
whole (x ∷ xs) k is = subst (λ (z : ℕ). take z (x ∷ xs) ≡ x ∷ xs) is (ap (λ (l : List Frame). x ∷ l) (whole xs (length xs) refl))
