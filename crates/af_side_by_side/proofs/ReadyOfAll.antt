-- What all parties have for a round in which they make their turns at once, and what they leave.
use Rattle.std.proofs.Common.{◌≡◌, ℕ, ◌+◌, ◌<◌, ◌^◌, Bool, true, false, List, [], ◌∷◌, length, get_or, slice_get, Option, Some, None, MatchOption, IsSomeAnd, All, refl, sym, ap, subst, ◌∙◌, arith}
use Rattle.af_side_by_side.proofs.Common.{AllPlayed, AllZip, AreTogether, CanCycle, CanMixOn, CanTurn, CanWork, ClientPlayed, Given, HasCycledOn, HasMixedOn, HasTurned, IsReady, Links, MatchBool, NormalPlayed, NormalState, PartyState, Roomy, SessionState, TurnPlayed, file_at, ops_at, ready_on, setup_of, slice_get-get_or, slice_get_within, zip_long}
use Rattle.std.proofs.lemmas.Slice.Zip.{AllZip-right}
use Rattle.af_life.specs.Kept.{Setup}
use Rattle.af_normal.specs.Meeting.{AreClientsOf}

-- ## Lists that are related place by place

-- an option that is Some of an item with a property has such an item
some_and : {X : Type 0} (o : Option X) (P : X → Type 0) → IsSomeAnd o P → (x : X) × (o ≡ Some x) × P x
some_and None P h = absurd h
some_and (Some x) P h = (x, refl, h)

-- the item at a place of the second list has a related item at that place of the first
pub zip_at : {X : Type 0} (R : X → X → Type 0) (xs ys : List X) (i : ℕ) (y : X) → AllZip R xs ys → slice_get ys i ≡ Some y → (x : X) × (slice_get xs i ≡ Some x) × R x y
zip_at {X} R xs ys i y zip at =
    some_and (slice_get xs i) (λ x. R x y) (subst (λ (o : Option X). MatchOption o (Unit {0}) (λ z. IsSomeAnd (slice_get xs i) (λ x. R x z))) at (AllZip-right R xs ys zip i))

-- lists that are related by one relation are related by each relation that follows from it
pub zip_weaker : {X : Type 0} (R S : X → X → Type 0) → ((x y : X) → R x y → S x y) → (xs ys : List X) → AllZip R xs ys → AllZip S xs ys
zip_weaker R S f [] [] zip = zip
zip_weaker R S f [] (y ∷ ys) zip = absurd zip
zip_weaker R S f (x ∷ xs) [] zip = absurd zip
zip_weaker R S f (x ∷ xs) (y ∷ ys) zip = (f x y zip.0, zip_weaker R S f xs ys zip.1)

-- ## Before the turns

module _ (links : Links) (g : Given) (n : ℕ) (s : SessionState) (ready : IsReady links g n s) (few : n < 131072) where
  can_turn : (i : ℕ) (p : PartyState) → slice_get s.clients i ≡ Some p → CanTurn links g p
  can_turn i p at =
      let track : p.track ≡ i = ready.together.tracks i p at in
      let lt : i < length s.clients = slice_get_within s.clients i p at in
      let sent = ready.few i p at in
      record {
        track = (omega (arith, track, lt, ready.given.0), omega (arith, track, lt, ready.given.1));
        clients = subst (λ (k : ℕ). AreClientsOf links k p.stream p.command) (sym track) (ready.together.clients i p at);
        work = subst (λ (k : ℕ). CanWork (ops_at g k) (length (file_at g k)) p) (sym track) (ready.works i p at);
        few = omega (arith, sent, few);
      }

  pub all_can : All (CanTurn links g) s.clients
  all_can k d lt = can_turn k (get_or s.clients k d) (slice_get-get_or s.clients k d lt)

  pub can_mix : CanMixOn links s.normal
  can_mix = record { order = ready.together.normal; few = omega (arith, ready.turns, few) }

  few_clients : length s.clients < 2 ^ 31
  few_clients = let count = ready.together.count in let most = ready.together.normal.tied.sizes.few in omega arith

  pub few_tracks : length g.tracks < 2 ^ 31
  few_tracks = let same = ready.given.0 in let most = few_clients in omega arith

  pub can_cycle : CanCycle links s.fast
  can_cycle = record { linked = ready.together.fast.1; order = ready.together.fast.0; between = ready.between; whole = ready.whole }

-- ## After them

-- a turn of the normal mixer leaves what the mixer was made of
same_setup : (m m' : NormalState) → NormalPlayed m m' → setup_of m' ≡ setup_of m
same_setup m m' played = by_end m.ended played
  where
    by_end : (ended : Bool) → MatchBool ended (m' ≡ m) (TurnPlayed m m') → setup_of m' ≡ setup_of m
    by_end true same = ap setup_of same
    by_end false turned = turned.1.setup

module _ (links : Links) (g : Given) (s t : SessionState) (bytes bytes' : Roomy ℕ) (turned : AllZip (HasTurned links g) s.clients t.clients) (mixed : HasMixedOn links s.normal t.normal) (cycled : HasCycledOn links s.fast t.fast bytes bytes') where
  was : (i : ℕ) (q : PartyState) → slice_get t.clients i ≡ Some q → (p : PartyState) × (slice_get s.clients i ≡ Some p) × HasTurned links g p q
  was i q at = zip_at (HasTurned links g) s.clients t.clients i q turned at

  long : length t.clients ≡ length s.clients
  long = zip_long (HasTurned links g) s.clients t.clients turned

  pub ready_of_all : (n : ℕ) → IsReady links g n s → IsReady links g (n + 1) t
  ready_of_all n ready =
      let settings : length t.normal.settings ≡ length s.normal.settings = ap (λ (c : Setup). length c.settings) (same_setup s.normal t.normal mixed.played) in
      let tracks : length t.normal.tracks ≡ length s.normal.tracks = sym mixed.order.tied.sizes.settings ∙ settings
      ∙ ready.together.normal.tied.sizes.settings in
      let together : AreTogether links t = record {
        normal = mixed.order;
        fast = (cycled.can.order, cycled.can.linked);
        count = long ∙ ready.together.count ∙ sym tracks;
        tracks = (λ i q at. let x = was i q at in x.2.track ∙ ready.together.tracks i x.0 x.1);
        clients = (λ i q at. let x = was i q at in subst (λ (k : ℕ). AreClientsOf links k q.stream q.command) (x.2.track ∙ ready.together.tracks i x.0 x.1) x.2.clients);
      } in
      ready_on g links n s ready 1 (n + 1) t (omega arith) together cycled.can.between cycled.can.whole (record {
        clients = (λ i q at.
            let x = was i q at in (
              x.0,
              x.1,
              (λ can. subst (λ (k : ℕ). CanWork (ops_at g k) (length (file_at g k)) q) (ready.together.tracks i x.0 x.1) x.2.work),
              (let more = x.2.few in omega (arith, more)),
            ));
        turns = mixed.turns;
        tracks = tracks;
      })

  pub played_by_all : AllPlayed links g s t cycled.added
  played_by_all = record {
    clients = zip_weaker (HasTurned links g) (ClientPlayed g) (λ p q h. h.played) s.clients t.clients turned;
    normal = mixed.played;
    fast = cycled.played;
  }
