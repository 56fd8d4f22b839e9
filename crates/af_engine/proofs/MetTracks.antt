-- How the meeting of a track adds to those of the tracks before it.
use Rattle.std.proofs.Common.{◌≡◌, ◌≢◌, ℕ, ◌+◌, ◌<◌, ◌⊎◌, inl, inr, List, length, length-set, slice_get, slice_set, Option, Some, None, refl, sym, ap, subst, ◌∙◌, arith}
use Rattle.af_engine.proofs.Common.{AreClientsOf, AreTogether, EndsMet, FastState, IsInOrder as IsFastInOrder, IsLinked, ItemStays, Links, MixerState, NormalState, Proxies, Spot, TrackEnds, TracksMet, at, cases_eq, get_set_other, get_set_same, none-some, proxies_of, same_Some, slice_get_within, slot_for, spot_of}
use Rattle.af_normal.specs.Order.{IsInOrder as IsNormalInOrder}
use Rattle.af_engine.proofs.EndsMeet.{still_met}

module _ {P : Type 0} (One : Spot → Spot → P → P → Type 0) (x : FastState) (n : ℕ) (clients clients' : List P) (a b c : Proxies) (p q : P) (so_far : TracksMet One x n clients clients' a b) (is : slice_get clients' n ≡ Some p)
    (met : One (spot_of x b n) (spot_of x c n) p q) (others : (i : ℕ) → i ≢ n → spot_of x c i ≡ spot_of x b i) (items : (k : ℕ) → slot_for x n ≢ Some k → at c.items k ≡ at b.items k) where
  long : n < length clients'
  long = slice_get_within clients' n p is

  met_at : (i : ℕ) (r s : P) → i < n + 1 → (i ≡ n) ⊎ (i ≡ n → ⊥) → slice_get clients i ≡ Some r → slice_get (slice_set clients' n q) i ≡ Some s → One (spot_of x a i) (spot_of x c i) r s
  met_at i r s lt (inl e) was now =
      let here = so_far.rest n (omega arith) in
      let old : p ≡ r = same_Some p r (sym is ∙ here.1 ∙ ap (slice_get clients) (sym e) ∙ was) in
      let new : q ≡ s = same_Some q s (sym (get_set_same clients' n q long) ∙ ap (slice_get (slice_set clients' n q)) (sym e) ∙ now) in
      let first : spot_of x b n ≡ spot_of x a i = here.0 ∙ ap (spot_of x a) (sym e) in
      let last : spot_of x c n ≡ spot_of x c i = ap (spot_of x c) (sym e) in
      subst (λ (y : Spot × Spot × P × P). One y.0 y.1 y.2 y.3) (λ j. (first j, last j, old j, new j)) met
  met_at i r s lt (inr ne) was now =
      let before = so_far.met i r s (omega (arith, lt, ne)) was (sym (get_set_other clients' n i q ne) ∙ now) in
      subst (λ (y : Spot). One (spot_of x a i) y r s) (sym (others i ne)) before

  item_more : (k : ℕ) → at c.items k ≡ at b.items k → ItemStays x n a.items b.items k → ItemStays x (n + 1) a.items c.items k
  item_more k same (inl e) = inl (same ∙ e)
  item_more k same (inr t) = inr (t.0, omega (arith, t.1), t.2)

  item_by : (k : ℕ) (o : Option ℕ) → slot_for x n ≡ o → ItemStays x (n + 1) a.items c.items k
  item_by k None none = item_more k (items k (λ e. none-some k (sym none ∙ e))) (so_far.items k)
  item_by k (Some j) found = by_number (cases_eq j k)
    where
      by_number : (j ≡ k) ⊎ (j ≡ k → ⊥) → ItemStays x (n + 1) a.items c.items k
      by_number (inl e) = inr (n, omega arith, found ∙ ap (λ (m : ℕ). Some m) e)
      by_number (inr ne) = item_more k (items k (λ e. ne (same_Some j k (sym found ∙ e)))) (so_far.items k)

  -- one track more has met its proxies
  one_met : TracksMet One x (n + 1) clients (slice_set clients' n q) a c
  one_met = record {
    met = (λ i r s lt was now. met_at i r s lt (cases_eq i n) was now);
    rest = (λ i le. let ne : i ≢ n = (λ (e : i ≡ n). omega (arith, e, le)) in let old = so_far.rest i (omega (arith, le)) in
        (others i ne ∙ old.0, get_set_other clients' n i q ne ∙ old.1));
    items = (λ k. item_by k (slot_for x n) refl);
  }

-- what holds of each item of a list still holds of each, after one was set of which it holds
module _ {P : Type 0} (Holds : ℕ → P → Type 0) (xs : List P) (n : ℕ) (p q : P) (is : slice_get xs n ≡ Some p) (of_all : (i : ℕ) (r : P) → slice_get xs i ≡ Some r → Holds i r) (of_one : Holds n q) where
  by_place : (i : ℕ) (r : P) → (i ≡ n) ⊎ (i ≡ n → ⊥) → slice_get (slice_set xs n q) i ≡ Some r → Holds i r
  by_place i r (inl e) at_i =
      let same : q ≡ r = same_Some q r (sym (get_set_same xs n q (slice_get_within xs n p is)) ∙ ap (slice_get (slice_set xs n q)) (sym e) ∙ at_i) in
      subst (λ (y : ℕ × P). Holds y.0 y.1) (λ j. (sym e j, same j)) of_one
  by_place i r (inr ne) at_i = of_all i r (sym (get_set_other xs n i q ne) ∙ at_i)

  pub all_at_set : (i : ℕ) (r : P) → slice_get (slice_set xs n q) i ≡ Some r → Holds i r
  all_at_set i r at_i = by_place i r (cases_eq i n) at_i

-- the ends are together after the meeting of the track n
pub still_together : (links : Links) (tracks : List TrackEnds) (m m' : NormalState) (f f' : MixerState) (n : ℕ) (p q : TrackEnds) → AreTogether links (record { tracks = tracks; normal = m; fast = f }) → slice_get tracks n ≡ Some p
    → IsNormalInOrder links m' → IsFastInOrder f' × IsLinked links f' → m' ≡ record m { streams = m'.streams; commands = m'.commands; hands = m'.hands } → q.track ≡ p.track
    → AreClientsOf links n q.stream q.command → AreTogether links (record { tracks = slice_set tracks n q; normal = m'; fast = f' })
still_together links tracks m m' f f' n p q t is normal fast same track ours = record {
  normal = normal;
  fast = fast;
  count = length-set tracks n q ∙ t.count ∙ sym (ap (λ (y : NormalState). length y.tracks) same);
  tracks = all_at_set (λ i r. r.track ≡ i) tracks n p q is t.tracks (track ∙ t.tracks n p is);
  clients = all_at_set (λ i r. AreClientsOf links i r.stream r.command) tracks n p q is t.clients ours;
}

-- The meetings of the first n tracks, after those of the ends: what they leave of both mixers, and what they come to
pub record MetSoFar {P : Type 0} (One : Spot → Spot → P → P → Type 0) (n : ℕ) (clients clients' : List P) (m m' : NormalState)
    (f f' : MixerState) : Type 0 where
  pub normal : m' ≡ record m { streams = m'.streams; commands = m'.commands; hands = m'.hands }
  pub fast : f' ≡ record f { observer = record f.observer { items = f'.observer.items } }
  pub met : TracksMet One f.observer.past.state n clients clients' (proxies_of m f) (proxies_of m' f')

-- one track more, of the number k, has met its proxies
pub met_more : {P : Type 0} (One : Spot → Spot → P → P → Type 0) (n k : ℕ) (clients clients' : List P) (m m' m'' : NormalState) (f f' f'' : MixerState)
    (p q : P) → MetSoFar One n clients clients' m m' f f' → slice_get clients' n ≡ Some p → k ≡ n
    → m'' ≡ record m' { streams = m''.streams; commands = m''.commands; hands = m''.hands }
    → f'' ≡ record f' { observer = record f'.observer { items = f''.observer.items } }
    → (let x = f'.observer.past.state in One (spot_of x (proxies_of m' f') k) (spot_of x (proxies_of m'' f'') k) p q)
    → (let x = f'.observer.past.state in (i : ℕ) → i ≢ k → spot_of x (proxies_of m'' f'') i ≡ spot_of x (proxies_of m' f') i)
    → ((j : ℕ) → slot_for f'.observer.past.state k ≢ Some j → at f''.observer.items j ≡ at f'.observer.items j)
    → MetSoFar One (n + 1) clients (slice_set clients' n q) m m'' f f''
met_more One n k clients clients' m m' m'' f f' f'' p q so_far is number normal fast met others items =
    let b : Proxies = proxies_of m' f' in
    let c : Proxies = proxies_of m'' f'' in
    let state : f'.observer.past.state ≡ f.observer.past.state = ap (λ (y : MixerState). y.observer.past.state) so_far.fast in
    record {
      normal = normal ∙ ap (λ (y : NormalState). record y { streams = m''.streams; commands = m''.commands; hands = m''.hands }) so_far.normal;
      fast = fast ∙ ap (λ (y : MixerState). record y { observer = record y.observer { items = f''.observer.items } }) so_far.fast;
      met = one_met One f.observer.past.state n clients clients' (proxies_of m f) b c p q so_far.met is
          (subst (λ (z : FastState × ℕ). One (spot_of z.0 b z.1) (spot_of z.0 c z.1) p q) (λ j. (state j, number j)) met)
          (subst (λ (z : FastState × ℕ). (i : ℕ) → i ≢ z.1 → spot_of z.0 c i ≡ spot_of z.0 b i) (λ j. (state j, number j)) others)
          (subst (λ (z : FastState × ℕ). (j : ℕ) → slot_for z.0 z.1 ≢ Some j → at c.items j ≡ at b.items j) (λ j. (state j, number j)) items);
    }

-- all tracks have met their proxies, after the ends
pub all_met : {P : Type 0} (One : Spot → Spot → P → P → Type 0) (n : ℕ) (clients clients' : List P) (m m' m'' : NormalState) (f f' f'' : MixerState)
    → n ≡ length clients → EndsMet m m' f f' → proxies_of m' f' ≡ proxies_of m f → MetSoFar One n clients clients' m' m'' f' f''
    → EndsMet m m'' f f'' × TracksMet One f.observer.past.state (length clients) clients clients' (proxies_of m f) (proxies_of m'' f'')
all_met One n clients clients' m m' m'' f f' f'' all ends same so_far = (
  still_met m m' m'' f f' f'' ends so_far.normal so_far.fast,
  (let state : f'.observer.past.state ≡ f.observer.past.state = ap (λ (y : MixerState). y.observer.past.state) ends.fast in
      subst (λ (z : FastState × ℕ × Proxies). TracksMet One z.0 z.1 clients clients' z.2 (proxies_of m'' f'')) (λ j. (state j, all j, same j)) so_far.met),
)
