-- If the client never flushed, no flush word seen is other than 0, and a server that looks and takes drops nothing.
use Rattle.std.proofs.Common.{◌≡◌, ℕ, ◌+◌, ◌*◌, ◌%◌, ◌==◌, if◌then◌else◌, Bool, true, true≢false, Option, Some, fold, List, [], ◌∷◌, ◌++◌, refl, sym, ap, ◌∙◌, arith, eq-eqb, eqb-true}
use Rattle.af_record.proofs.Common.{IsLegal, IsServerList, Moment, Seen, ServerEvent, ServerKept, ServerMay, Shape, TrackPoint, both_first, both_right, both_true, by_client, by_hand, by_server, client_of, drops_of, flushes-append, flushes_of, in_turn, list_all, list_all-append, look_at, look_events, looks, meets, reads_gains, rests, server_begins, server_keeps, server_kept, server_of, sets_flags, sets_status, takes, tallies, wrapped}
use Rattle.af_base.specs.declared.event.ServerEvent.TheVariants as server
use Rattle.af_model.specs.Point.{start}
use Rattle.af_model.specs.History.{after}
use Rattle.af_model.specs.ServerCalls.{begins}
use Rattle.af_model.proofs.Counts.{flushes_are}
use Rattle.af_record.specs.History.{is_reading, is_calm}
use Rattle.af_server.proofs.Basics.{no_drop}

-- a list of two parts
module _ (f : ServerEvent → Bool) (xs ys : List ServerEvent) where
  pub all_first : list_all f (xs ++ ys) ≡ true → list_all f xs ≡ true
  all_first all = both_first (list_all f xs) (list_all f ys) (sym (list_all-append f xs ys) ∙ all)

  pub all_second : list_all f (xs ++ ys) ≡ true → list_all f ys ≡ true
  all_second all = both_right (list_all f xs) (list_all f ys) (sym (list_all-append f xs ys) ∙ all)

  pub all_both : list_all f xs ≡ true → list_all f ys ≡ true → list_all f (xs ++ ys) ≡ true
  all_both first second = list_all-append f xs ys ∙ both_true (list_all f xs) (list_all f ys) first second

-- a flush word seen is 0
abbrev pub is_zero : ServerEvent → Bool
is_zero (server.SawFlush flush) = flush == 0
is_zero _ = true

module _ (shape : Shape) (flat : shape.wrap ≡ 0) where
  sees_zero : (p : TrackPoint) (others : ℕ) (e : ServerEvent) → ServerMay p others e → p.wrap ≡ 0 → p.flushes ≡ 0 → is_zero e ≡ true
  sees_zero p others (server.SawFlush flush) may at none =
      eq-eqb flush 0 (may ∙ ap (λ (b : Bool). if b then p.flushes else wrapped (p.flushes * p.wrap + p.flush_at % p.wrap)) (eq-eqb p.wrap 0 at) ∙ none)
  sees_zero p others (server.SawGain word) may at none = refl
  sees_zero p others (server.SawRear rear) may at none = refl
  sees_zero p others (server.SawFront front) may at none = refl
  sees_zero p others (server.Drop to) may at none = refl
  sees_zero p others (server.Take count) may at none = refl
  sees_zero p others (server.Tally missing) may at none = refl
  sees_zero p others (server.SetFlags bits) may at none = refl
  sees_zero p others (server.SetStatus word) may at none = refl
  sees_zero p others (server.Learn count) may at none = refl

  -- without a flush each flush word seen is 0
  pub all_zero : (order : List Moment) → IsLegal (start shape) order → flushes_of (client_of order) ≡ 0 → list_all is_zero (server_of order) ≡ true
  all_zero [] h none = refl
  all_zero (by_client e ∷ order) h none =
      let a = flushes-append (client_of order) (e ∷ []) in
      all_zero order h.1 (omega arith)
  all_zero (by_server e ∷ order) h none =
      let t = in_turn shape order h.1 in
      let here = sees_zero (after (start shape) order) _ e h.0 (t.wrap_is ∙ flat) (flushes_are shape order ∙ none) in
      all_both is_zero (server_of order) (e ∷ []) (all_zero order h.1 none) (both_true (is_zero e) true here refl)
  all_zero (by_hand e ∷ order) h none = all_zero order h.1 none

-- ## Nothing is dropped

-- what a list tells of the flush word, and of drops
record StaysCalm (k : Shape) (events : List ServerEvent) : Type 0 where
  flush_is : (server_kept k events).flush ≡ 0
  calm : list_all is_calm events ≡ true

module _ (k : Shape) where
  pub looks_calm : (kept asked flush rear front : ℕ) → kept ≡ 0 → flush ≡ 0 → drops_of (look_at k kept asked flush rear front) front ≡ []
  looks_calm kept asked flush rear front none unflushed =
      ap (λ (x : ℕ × ℕ). drops_of (look_at k x.0 asked x.1 rear front) front) (λ i. (none i, unflushed i)) ∙ no_drop _ _ front rear _

  flush-quiet : (kept : ServerKept) (e : ServerEvent) → is_calm e ≡ true → kept.flush ≡ 0 → (server_keeps k kept e).flush ≡ 0
  flush-quiet kept (server.SawFlush flush) calm none = eqb-true flush 0 calm
  flush-quiet kept _ calm none = none

  flush-calm : (kept : ServerKept) (es : List ServerEvent) → list_all is_calm es ≡ true → kept.flush ≡ 0 → (fold (server_keeps k) kept es).flush ≡ 0
  flush-calm kept [] calm none = none
  flush-calm kept (e ∷ es) calm none = flush-calm (server_keeps k kept e) es (both_right (is_calm e) _ calm) (flush-quiet kept e (both_first (is_calm e) _ calm) none)

  -- a calm list keeps the flush word 0
  pub kept_zero : (es : List ServerEvent) → list_all is_calm es ≡ true → (server_kept k es).flush ≡ 0
  kept_zero es calm = flush-calm (server_begins k) es calm refl

  more_calm : (es more : List ServerEvent) → list_all is_calm es ≡ true → list_all is_calm more ≡ true → StaysCalm k (es ++ more)
  more_calm es more first second = let all = all_both is_calm es more first second in record { flush_is = kept_zero (es ++ more) all; calm = all }

  look_all : (flush rear front : ℕ) (drops : List ServerEvent) → flush ≡ 0 → drops ≡ [] → list_all is_calm (server.SawFlush flush ∷ server.SawRear rear ∷ server.SawFront front ∷ drops) ≡ true
  look_all flush rear front drops unflushed none = ap (λ (x : ℕ × List ServerEvent). list_all is_calm (server.SawFlush x.0 ∷ server.SawRear rear ∷ server.SawFront front ∷ x.1)) (λ i. (unflushed i, none i))

  stays_calm : (shown : Option ℕ) (events : List ServerEvent) → IsServerList k shown events → list_all is_reading events ≡ true → list_all is_zero events ≡ true → StaysCalm k events
  stays_calm shown events begins reads zeros = record { flush_is = refl; calm = refl }
  stays_calm shown events (looks es before asked flush rear front list unshut some) reads zeros =
      let shows : Seen = look_at k (server_kept k es).flush asked flush rear front in
      let on = stays_calm before es list (all_first is_reading es (look_events shows flush rear front) reads) (all_first is_zero es (look_events shows flush rear front) zeros) in
      let unflushed : flush ≡ 0 = eqb-true flush 0 (both_first (flush == 0) _ (all_second is_zero es (look_events shows flush rear front) zeros)) in
      more_calm es (look_events shows flush rear front) on.calm (look_all flush rear front (drops_of shows front) unflushed (looks_calm (server_kept k es).flush asked flush rear front on.flush_is unflushed))
  stays_calm shown events (takes es count list) reads zeros =
      let on = stays_calm (Some count) es list (all_first is_reading es (server.Take count ∷ []) reads) (all_first is_zero es (server.Take count ∷ []) zeros) in
      more_calm es (server.Take count ∷ []) on.calm refl
  stays_calm shown events (reads_gains es before word list) reads zeros = absurd (true≢false (sym (all_second is_reading es (server.SawGain word ∷ []) reads)))
  stays_calm shown events (tallies es before missing list some) reads zeros = absurd (true≢false (sym (all_second is_reading es (server.Tally missing ∷ server.SetFlags 1 ∷ []) reads)))
  stays_calm shown events (sets_flags es before bits list) reads zeros = absurd (true≢false (sym (all_second is_reading es (server.SetFlags bits ∷ []) reads)))
  stays_calm shown events (sets_status es before word list) reads zeros = absurd (true≢false (sym (all_second is_reading es (server.SetStatus word ∷ []) reads)))
  stays_calm shown events (rests es before list) reads zeros = stays_calm before es list reads zeros
  stays_calm shown events (meets es before count list) reads zeros =
      let on = stays_calm before es list (all_first is_reading es (server.Learn count ∷ []) reads) (all_first is_zero es (server.Learn count ∷ []) zeros) in
      more_calm es (server.Learn count ∷ []) on.calm refl

  -- a server that looks and takes drops nothing, if it sees no flush
  pub drops_nothing : (shown : Option ℕ) (events : List ServerEvent) → IsServerList k shown events → list_all is_reading events ≡ true → list_all is_zero events ≡ true → list_all is_calm events ≡ true
  drops_nothing shown events list reads zeros = (stays_calm shown events list reads zeros).calm
