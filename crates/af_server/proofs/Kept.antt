-- Lists that calls spell, and the values that they give.
use Rattle.std.proofs.Common.{◌≡◌, Bool, true, false, if◌then◌else◌, ◌==◌, ◌/◌, ℕ, ◌+◌, ◌≤◌, min, arith, Option, Some, None, MatchOption, List, [], ◌∷◌, ◌++◌, refl, sym, ap, ◌∙◌, subst, append_assoc}
use Rattle.af_server.proofs.Common.{IsServerList, ServerEvent, ServerIs, ServerKept, ServerPart, ServerSide, Shape, begins, flushes_by, kept_more, meets, rests, server_did, server_keeps, tallies}
use Rattle.std.proofs.Math.Nat.{zero-div}
use Rattle.af_base.specs.declared.event.ServerEvent.TheVariants as server
use Rattle.af_cblk.specs.Rule.{new_server}
use Rattle.af_server.specs.Order.{ServerState, Keeps, IsReady, server_kept_of, counted, IsInOrder}

-- a count that ends at M goes on
pub fewer : (M a b : ℕ) → min M (min M a + b) ≡ min M (a + b)
fewer M a b = omega arith

-- before any flush
none_as : (w : ℕ) (b : Bool) → 0 ≡ (if b then 0 else 0 / w)
none_as w true = refl
none_as w false = sym (zero-div w)

pub no_flushes : (w : ℕ) → 0 ≡ flushes_by w 0
no_flushes w = none_as w (w == 0)

-- nothing was done yet
pub new_keeps : (k : Shape) (s : ServerPart) (front : ℕ) → s ≡ new_server k → Keeps s 0 0 front None 0 None
new_keeps k s front new =
    subst (λ (x : ServerPart). Keeps x 0 0 front None 0 None) (sym new) (
    record { spelled = begins; flush_is = refl; seen_is = refl; flushes_is = no_flushes k.wrap; settled = (λ _. refl); consumed_is = refl; shut_is = refl; ready = tt })

-- the list goes on, and gives the kept values of before
same_values : (s t : ServerPart) (flush flushes front : ℕ) (shown shown' : Option ℕ) (consumed : ℕ) (shut : Option (ℕ × ℕ)) → Keeps s flush flushes front shown consumed shut
    → server_kept_of t ≡ server_kept_of s → (t.flush ≡ s.flush) × (t.noticed ≡ s.noticed) × (t.shape ≡ s.shape) → IsServerList t.shape shown' t.events
    → MatchOption shown' (Unit {0}) (λ count. IsReady t front count) → Keeps t flush flushes front shown' consumed shut
same_values s t flush flushes front shown shown' consumed shut k now same list ready =
    record {
      spelled = list;
      flush_is = k.flush_is ∙ sym (ap (λ (x : ServerKept). x.flush) now);
      seen_is = same.0 ∙ k.seen_is ∙ sym (ap (λ (x : ServerKept). x.flush) now);
      flushes_is = k.flushes_is ∙ ap (λ (x : Shape × ServerKept). flushes_by x.0.wrap x.1.noticed) (λ i. (sym same.2 i, sym now i));
      settled = (λ unshut. same.1 ∙ k.settled unshut);
      consumed_is = k.consumed_is ∙ sym (ap (λ (x : ServerKept). counted x.consumed) now);
      shut_is = k.shut_is ∙ sym (ap (λ (x : ServerKept). x.shut) now);
      ready = ready;
    }

-- an event that changes no kept value
quiet : (s : ServerPart) (flush flushes front : ℕ) (shown : Option ℕ) (consumed : ℕ) (shut : Option (ℕ × ℕ)) (e : ServerEvent) → Keeps s flush flushes front shown consumed shut
    → server_keeps s.shape (server_kept_of s) e ≡ server_kept_of s → IsServerList s.shape None (s.events ++ e ∷ []) → Keeps (server_did s e) flush flushes front None consumed shut
quiet s flush flushes front shown consumed shut e k same list =
    same_values s (server_did s e) flush flushes front shown None consumed shut k (kept_more s.shape s.events (e ∷ []) ∙ same) (refl, refl, refl) list tt

-- a call with one such event, on a value that was opened
pub word_keeps : (c i : ServerState) (pass : ServerSide) (e : ServerEvent) → IsInOrder c → server_keeps c.pass.part.shape (server_kept_of c.pass.part) e ≡ server_kept_of c.pass.part
    → IsServerList c.pass.part.shape None (c.pass.part.events ++ e ∷ [])
    → i ≡ c → ServerIs (server_did i.pass.part e) i.pass pass → Keeps pass.part i.flush i.flushes i.front None i.consumed i.shut
word_keeps c i pass e k same list opened did =
    let now : Keeps (server_did c.pass.part e) c.flush c.flushes c.front None c.consumed c.shut = quiet c.pass.part c.flush c.flushes c.front c.shown c.consumed c.shut e k same list in
    let there : Keeps (server_did i.pass.part e) i.flush i.flushes i.front None i.consumed i.shut = subst (λ (x : ServerState). Keeps (server_did x.pass.part e) x.flush x.flushes x.front None x.consumed x.shut) (sym opened) now in
    subst (λ (x : ServerPart). Keeps x i.flush i.flushes i.front None i.consumed i.shut) (sym (ap (λ (x : ServerSide). x.part) did)) there

-- the list with what a tally adds
pub tally_keeps : (c i : ServerState) (mid pass : ServerSide) (missing : ℕ) → IsInOrder c → 1 ≤ missing → i ≡ c
    → ServerIs (server_did i.pass.part (server.Tally missing)) i.pass mid → ServerIs (server_did mid.part (server.SetFlags 1)) mid pass → Keeps pass.part i.flush i.flushes i.front None i.consumed i.shut
tally_keeps c i mid pass missing k some opened first second =
    let s : ServerPart = c.pass.part in
    let t : ServerPart = server_did s (server.Tally missing) in
    let list : IsServerList s.shape None (s.events ++ server.Tally missing ∷ server.SetFlags 1 ∷ []) = tallies s.events c.shown missing k.spelled some in
    let same : (s.events ++ server.Tally missing ∷ []) ++ server.SetFlags 1 ∷ [] ≡ s.events ++ server.Tally missing ∷ server.SetFlags 1 ∷ [] = append_assoc s.events (server.Tally missing ∷ []) (server.SetFlags 1 ∷ []) in
    let kept : server_kept_of (server_did t (server.SetFlags 1)) ≡ server_kept_of s =
    kept_more s.shape (s.events ++ server.Tally missing ∷ []) (server.SetFlags 1 ∷ []) ∙ kept_more s.shape s.events (server.Tally missing ∷ []) in
    let done : Keeps (server_did t (server.SetFlags 1)) c.flush c.flushes c.front None c.consumed c.shut =
    same_values s (server_did t (server.SetFlags 1)) c.flush c.flushes c.front c.shown None c.consumed c.shut k kept (refl, refl, refl) (subst (λ (es : List ServerEvent). IsServerList s.shape None es) (sym same) list) tt in
    let there : Keeps (server_did (server_did i.pass.part (server.Tally missing)) (server.SetFlags 1)) i.flush i.flushes i.front None i.consumed i.shut =
    subst (λ (x : ServerState). Keeps (server_did (server_did x.pass.part (server.Tally missing)) (server.SetFlags 1)) x.flush x.flushes x.front None x.consumed x.shut) (sym opened) done in
    let parts : pass.part ≡ server_did (server_did i.pass.part (server.Tally missing)) (server.SetFlags 1) =
    ap (λ (x : ServerSide). x.part) second ∙ ap (λ (x : ServerSide). server_did x.part (server.SetFlags 1)) first in
    subst (λ (x : ServerPart). Keeps x i.flush i.flushes i.front None i.consumed i.shut) (sym parts) there

-- nothing is shown any more
pub rest_keeps : (s : ServerPart) (flush flushes front : ℕ) (shown : Option ℕ) (consumed : ℕ) (shut : Option (ℕ × ℕ)) → Keeps s flush flushes front shown consumed shut → Keeps s flush flushes front None consumed shut
rest_keeps s flush flushes front shown consumed shut k =
    record {
      spelled = rests s.events shown k.spelled;
      flush_is = k.flush_is;
      seen_is = k.seen_is;
      flushes_is = k.flushes_is;
      settled = k.settled;
      consumed_is = k.consumed_is;
      shut_is = k.shut_is;
      ready = tt;
    }

still_ready : (s : ServerPart) (front : ℕ) (shown : Option ℕ) (e : ServerEvent) → MatchOption shown (Unit {0}) (λ count. IsReady s front count) → MatchOption shown (Unit {0}) (λ count. IsReady (server_did s e) front count)
still_ready s front None e r = tt
still_ready s front (Some count) e r = record { fresh = r.fresh; front_is = r.front_is; none_loaded = r.none_loaded; settled = r.settled; in_order = r.in_order; within = r.within }

-- a meeting keeps the order
pub met_keeps : (s t : ServerPart) (flush flushes front : ℕ) (shown : Option ℕ) (consumed : ℕ) (shut : Option (ℕ × ℕ)) (count : ℕ) → Keeps s flush flushes front shown consumed shut
    → t ≡ server_did s (server.Learn count) → Keeps t flush flushes front shown consumed shut
met_keeps s t flush flushes front shown consumed shut count k is =
    let u : ServerPart = server_did s (server.Learn count) in
    let now : server_kept_of u ≡ server_kept_of s = kept_more s.shape s.events (server.Learn count ∷ []) in
    subst (λ (x : ServerPart). Keeps x flush flushes front shown consumed shut) (sym is)
    (same_values s u flush flushes front shown shown consumed shut k now (refl, refl, refl) (meets s.events shown count k.spelled) (still_ready s front shown (server.Learn count) k.ready))
