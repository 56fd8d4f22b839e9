-- What a take leaves in order.
use Rattle.std.proofs.Common.{◌≡◌, ◌≢◌, ℕ, ◌+◌, ◌%◌, ◌^◌, ◌≤◌, ◌<◌, Bool, false, true≢false, if◌then◌else◌, Option, Some, None, List, [], ◌∷◌, ◌++◌, length, take, refl, sym, ap, ◌∙◌, subst}
use Rattle.af_server.proofs.Common.{IsServerList, ServerKept, ServerPart, ahead, ahead_of, dropped, flushes_by, front_stored, kept_more, takes, took}
use Rattle.af_base.specs.declared.event.ServerEvent.TheVariants as server
use Rattle.af_server.specs.Order.{ServerState, Keeps, IsReady, server_kept_of, counted, IsInOrder}
use Rattle.af_server.proofs.Kept.{fewer}

-- ## Front raised by what was loaded

all_taken : (n : ℕ) (words : List ℕ) → length words ≡ n → take n words ≡ words
all_taken n [] is = (let e : n ≡ 0 = sym is in ap (λ (z : ℕ). take z []) e)
all_taken n (w ∷ words) is = subst (λ (z : ℕ). take z (w ∷ words) ≡ w ∷ words) is (ap (λ (l : List ℕ). w ∷ l) (all_taken (length words) words refl))

module _ (p s : ServerPart) (front n : ℕ) (words : List ℕ) (ready : IsReady p front n) (small : n < 2 ^ 32) (many : length words ≡ n) (loaded : s ≡ (record p { loaded = words })) where
  moved : ahead s.front ((front + n) % 2 ^ 32) ≡ n
  moved = ap (λ (x : ServerPart). ahead x.front ((front + n) % 2 ^ 32)) loaded ∙ ap (λ (z : ℕ). ahead z ((front + n) % 2 ^ 32)) ready.front_is ∙ ahead_of front n small

  pub took_is : front_stored s ((front + n) % 2 ^ 32)
      ≡ (record p { events = p.events ++ server.Take n ∷ []; frames = p.frames ++ words; front = (front + n) % 2 ^ 32; fresh = false; flush_fresh = false; rear_fresh = false; loaded = [] })
  took_is =
      let to : ℕ = (front + n) % 2 ^ 32 in
      let unnoticed : s.noticed ≡ false = ap (λ (x : ServerPart). x.noticed) loaded ∙ ready.settled in
      ap (λ (b : Bool). if b then dropped s to else took s to) unnoticed
      ∙ ap (λ (z : ℕ). record s { events = s.events ++ server.Take z ∷ []; frames = s.frames ++ take z s.loaded; front = to; fresh = false; flush_fresh = false; rear_fresh = false; loaded = [] }) moved
      ∙ ap (λ (x : ServerPart). record x { events = x.events ++ server.Take n ∷ []; frames = x.frames ++ take n x.loaded; front = to; fresh = false; flush_fresh = false; rear_fresh = false; loaded = [] }) loaded
      ∙ ap (λ (l : List ℕ). record p { events = p.events ++ server.Take n ∷ []; frames = p.frames ++ l; front = to; fresh = false; flush_fresh = false; rear_fresh = false; loaded = [] }) (all_taken n words many)

pub take_keeps : (c : ServerState) (q : ServerPart) (front n consumed : ℕ) (words : List ℕ) → IsInOrder c → c.shown ≡ Some n
    → q ≡ (record c.pass.part { events = c.pass.part.events ++ server.Take n ∷ []; frames = c.pass.part.frames ++ words; front = front; fresh = false; flush_fresh = false; rear_fresh = false; loaded = [] })
    → consumed ≡ counted (c.consumed + n) → Keeps q c.flush c.flushes c.front None consumed c.shut
take_keeps c q front n consumed words k shown is count =
    let s : ServerPart = c.pass.part in
    let now : server_kept_of (record s { events = s.events ++ server.Take n ∷ []; frames = s.frames ++ words; front = front; fresh = false; flush_fresh = false; rear_fresh = false; loaded = [] }) ≡ (record (server_kept_of s) { consumed = (server_kept_of s).consumed + n }) =
    kept_more s.shape s.events (server.Take n ∷ []) in
    subst (λ (x : ServerPart). Keeps x c.flush c.flushes c.front None consumed c.shut) (sym is) (
    record {
      spelled = takes s.events n (subst (λ (o : Option ℕ). IsServerList s.shape o s.events) shown k.spelled);
      flush_is = k.flush_is ∙ sym (ap (λ (x : ServerKept). x.flush) now);
      seen_is = k.seen_is ∙ sym (ap (λ (x : ServerKept). x.flush) now);
      flushes_is = k.flushes_is ∙ sym (ap (λ (x : ServerKept). flushes_by s.shape.wrap x.noticed) now);
      settled = k.settled;
      consumed_is = count ∙ ap (λ (z : ℕ). counted (z + n)) k.consumed_is ∙ fewer 9223372036854775807 (server_kept_of s).consumed n ∙ sym (ap (λ (x : ServerKept). counted x.consumed) now);
      shut_is = k.shut_is ∙ sym (ap (λ (x : ServerKept). x.shut) now);
      ready = tt;
    })
