-- The proxies that wait for a slot.
use Rattle.std.proofs.Common.{◌≡◌, ℕ, zero, suc, ◌<◌, ◌⊎◌, inl, inr, List, [], ◌∷◌, ◌++◌, length, take, Option, Some, None, IfSome, slice_set, refl, sym, ap, subst, ◌∙◌, arith}
use Rattle.std.proofs.lemmas.Bool.{cases_eq}
use Rattle.std.proofs.lemmas.List.{get_or-set_same, get_or-set_other, length-append}
use Rattle.std.proofs.Math.Seq.{take-append_seam}
use Rattle.af_cblk.specs.Sides.{Made}
use Rattle.af_client.specs.Order.{ClientState, IsClientOf}
use Rattle.af_fast.proofs.Basics.{one_of}
use Rattle.af_server.specs.Order.{ServerState, IsServerOf}
use Rattle.af_stateq.specs.Mutates.{at}
use Rattle.af_link.specs.Names.{IsStreamOf}
use Rattle.af_fast_tests.specs.Ready.{AreWaiting, AreLines, IsLine}
use Rattle.std.proofs.lemmas.Option.{same_Some}
use Rattle.af_fast_tests.proofs.Zips.{zip_push}

-- one of the waiting proxies was taken
pub one_taken : (blocks : List Made) (servers : List (Option ServerState)) (track : ℕ) (o : Option ServerState) → o ≡ None → track < length servers → AreWaiting blocks servers → AreWaiting blocks (slice_set servers track o)
one_taken blocks servers track o gone lt waiting = record { each = (λ i s is. by_place i s is (cases_eq i track)) }
  where
    by_place : (i : ℕ) (s : ServerState) → at (slice_set servers track o) i ≡ Some s → (i ≡ track) ⊎ (i ≡ track → ⊥) → IsStreamOf blocks i s
    by_place i s is (inl e) = let none : None ≡ Some s = sym gone ∙ sym (get_or-set_same servers track o None lt) ∙ ap (at (slice_set servers track o)) (sym e) ∙ is in cc
    by_place i s is (inr other) = waiting.each i s (sym (get_or-set_other servers track i o None other) ∙ is)

-- the proxy that was taken is of the block of its place
pub one_given : (blocks : List Made) (servers : List (Option ServerState)) (track : ℕ) (o : Option ServerState) → AreWaiting blocks servers → at servers track ≡ o → IfSome o (λ s. IsStreamOf blocks track s)
one_given blocks servers track None waiting is = tt
one_given blocks servers track (Some s) waiting is = waiting.each track s is

-- a proxy came back
pub one_put : (blocks : List Made) (servers : List (Option ServerState)) (track : ℕ) (x : ServerState) → IsStreamOf blocks track x → track < length servers → AreWaiting blocks servers → AreWaiting blocks (slice_set servers track (Some x))
one_put blocks servers track x of lt waiting = record { each = (λ i s is. by_place i s is (cases_eq i track)) }
  where
    by_place : (i : ℕ) (s : ServerState) → at (slice_set servers track (Some x)) i ≡ Some s → (i ≡ track) ⊎ (i ≡ track → ⊥) → IsStreamOf blocks i s
    by_place i s is (inl e) =
        let same : x ≡ s = same_Some x s (sym (get_or-set_same servers track (Some x) None lt) ∙ ap (at (slice_set servers track (Some x))) (sym e) ∙ is) in
        subst (λ (y : ℕ × ServerState). IsStreamOf blocks y.0 y.1) (λ j. (sym e j, same j)) of
    by_place i s is (inr other) = waiting.each i s (sym (get_or-set_other servers track i (Some x) None other) ∙ is)

-- one block more, with its server
more_waits : (blocks : List Made) (servers : List (Option ServerState)) (b : Made) (x : ServerState) → length blocks ≡ length servers → IsServerOf b x → AreWaiting blocks servers
    → (i : ℕ) (s : ServerState) → at (servers ++ Some x ∷ []) i ≡ Some s → IsStreamOf (blocks ++ b ∷ []) i s
more_waits [] [] b x long of waiting zero s is = one_of (b ∷ []) 0 b x s refl of is
more_waits [] [] b x long of waiting (suc i) s is = cc
more_waits [] (t ∷ ts) b x long of waiting i s is = absurd (omega (arith, long))
more_waits (c ∷ bs) [] b x long of waiting i s is = absurd (omega (arith, long))
more_waits (c ∷ bs) (t ∷ ts) b x long of waiting zero s is = let here = waiting.each 0 s is in record { made = here.made; in_order = here.in_order }
more_waits (c ∷ bs) (t ∷ ts) b x long of waiting (suc i) s is =
    let rest : AreWaiting bs ts = record { each = (λ j r at_j. let there = waiting.each (suc j) r at_j in record { made = there.made; in_order = there.in_order }) } in
    let here = more_waits bs ts b x (omega (arith, long)) of rest i s is in
    record { made = here.made; in_order = here.in_order }

pub lines_more : (blocks : List Made) (clients : List ClientState) (servers : List (Option ServerState)) (b : Made) (c : ClientState) (x : ServerState) → AreLines blocks clients servers → IsLine (b, c, x)
    → AreLines (blocks ++ b ∷ []) (clients ++ c ∷ []) (servers ++ Some x ∷ [])
lines_more blocks clients servers b c x lines of = record {
  clients_are = zip_push IsClientOf blocks clients b c lines.clients_are of.0;
  waiting = record { each = more_waits blocks servers b x lines.long of.1 lines.waiting };
  long = omega (arith, lines.long, length-append blocks (b ∷ []), length-append servers (Some x ∷ []));
}

-- what is written through a slice of a whole list
pub written : {A : Type 0} (n : ℕ) (new rest : List A) → n ≡ length new → take n (new ++ rest) ≡ new
written n new rest long = ap (λ k. take k (new ++ rest)) long ∙ take-append_seam new rest
