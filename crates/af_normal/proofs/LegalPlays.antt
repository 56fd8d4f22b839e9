-- From the chain of mixing all tracks to the definition's.
use Rattle.std.proofs.Common.{◌≡◌, ◌≢◌, ℕ, zero, suc, ◌+◌, ◌<◌, ◌≤◌, ◌==◌, Bool, true, false, if◌then◌else◌, true≢false, MatchBool, is_some, sym, refl, ap, subst, ◌∙◌, List, [], ◌∷◌, ◌++◌, append-nil, length, map, length-append, length-set, Option, Some, None, ⊎_elim, eq-eqb, ne_eqb, get_or-set_same, get_or-set_other, arith}
use Rattle.af_normal.proofs.Common.{AllByRecursion, Listed, LooksBy, ServerEvent, ServerState, TakeSeen, TrackKept, after_take, cases_eq, count_seen, cycle_events, filter, filter-append, flat_map, fold, fold-append, is_mixed_here, listed, new_track, packed_word, range_with_len, slice_set, takes_from, track_at}
use Rattle.af_normal.specs.Mixing.{stream_at, Mixing, TakesOf, MixesTrack, MixesTo}
use Rattle.af_normal.specs.Serving.{Adds}
use Rattle.af_normal.specs.Turning.{listed_at}
use Rattle.af_normal.proofs.LegalLists.{upd, upd_same, upd_other, filter_end, all_end, all_map}

-- a stream proxy goes on with these events, and these words more that it took
abbrev pub StreamTakes : Option ServerState → List ServerEvent → List ℕ → Option ServerState → Type 0
StreamTakes None events words y = y ≡ None
StreamTakes (Some s) events words y = (t : ServerState) × Adds s events words t × (y ≡ Some t)

-- the words that some takes took
abbrev pub words_of : List TakeSeen → List ℕ
words_of takes = flat_map (λ take. map packed_word take.frames) takes

map_end : (takes : List TakeSeen) (take : TakeSeen) → map (λ (t : TakeSeen). t.track) (takes ++ take ∷ []) ≡ map (λ (t : TakeSeen). t.track) takes ++ take.track ∷ []
map_end [] take = refl
map_end (t ∷ takes) take = ap (λ (ks : List ℕ). t.track ∷ ks) (map_end takes take)

module _ (asked : ℕ) (x : Mixing) where
  -- the list of the stream proxy of the track j
  abbrev pub list_of : ℕ → Listed
  list_of j = listed_at (stream_at x.streams j)

  -- the take is legal by these lists and fronts
  pub record LegalBy (fronts : ℕ → ℕ) (take : TakeSeen) : Type 0 where
    pub looks : LooksBy asked (list_of take.track) take.slot (fronts take.track)
    pub there : is_some (stream_at x.streams take.track) ≡ true
    pub frames : length take.frames ≡ count_seen take.slot.seen
    pub place : take.slot.first ≡ 0

  -- the events of the mix of the track j
  abbrev pub mix_of : (ℕ → ℕ) → List TakeSeen → ℕ → List ServerEvent
  mix_of fronts takes j = flat_map (λ take. cycle_events asked (list_of j) take.slot (fronts j)) (takes_from takes j)

  -- the first i tracks were mixed
  pub record PlayedTo (z : Mixing) (i : ℕ) : Type 0 where
    pub tracks : z.tracks ≡ fold (after_take asked) x.tracks z.takes
    pub due : map (λ (t : TakeSeen). t.track) z.takes ≡ filter (λ j. is_mixed_here (track_at x.tracks j)) (range_with_len 0 i)
    pub fronts : ℕ → ℕ
    pub legal : AllByRecursion (LegalBy fronts) z.takes
    pub low : AllByRecursion (λ (t : TakeSeen). t.track < i) z.takes
    pub streams : (j : ℕ) → StreamTakes (stream_at x.streams j) (mix_of fronts z.takes j) (words_of (takes_from z.takes j)) (stream_at z.streams j)
    pub same_track : (j : ℕ) → i ≤ j → track_at z.tracks j ≡ track_at x.tracks j
    pub same_stream : (j : ℕ) → i ≤ j → stream_at z.streams j ≡ stream_at x.streams j
    pub none : (j : ℕ) → i ≤ j → takes_from z.takes j ≡ []
    pub unmixed : (j : ℕ) → is_mixed_here (track_at x.tracks j) ≡ false → takes_from z.takes j ≡ []
    pub long : length z.streams ≡ length x.streams
    pub few : length z.takes ≤ i

  -- nothing was done by a proxy
  pub stays : (o : Option ServerState) (events : List ServerEvent) (words : List ℕ) → events ≡ [] → words ≡ [] → StreamTakes o events words o
  stays None events words e f = refl
  stays (Some s) events words e f = (
    s,
    record { list = sym (append-nil s.pass.part.events) ∙ ap (λ (es : List ServerEvent). s.pass.part.events ++ es) (sym e); took = sym (append-nil s.pass.part.frames) ∙ ap (λ (ws : List ℕ). s.pass.part.frames ++ ws) (sym f); shape = refl },
    refl,
  )

  module _ (i : ℕ) (wide : i < length x.streams) (z : Mixing) (b : PlayedTo z i) where
    abbrev Mixed : ℕ → Bool
    Mixed j = is_mixed_here (track_at x.tracks j)

    -- the track i is passed over
    passes : is_mixed_here (track_at z.tracks i) ≡ false → PlayedTo z (suc i)
    passes e = record {
      tracks = b.tracks;
      due = b.due ∙ sym (filter_end Mixed i ∙ ap (λ (on : Bool). filter Mixed (range_with_len 0 i) ++ (if on then i ∷ [] else [])) (sym (ap is_mixed_here (b.same_track i (omega arith))) ∙ e) ∙ append-nil (filter Mixed (range_with_len 0 i)));
      fronts = b.fronts;
      legal = b.legal;
      low = all_map (λ (t : TakeSeen). t.track < i) (λ (t : TakeSeen). t.track < i) (λ (t : TakeSeen). t.track < suc i) z.takes (λ t l m. omega arith) b.low b.low;
      streams = b.streams;
      same_track = (λ j le. b.same_track j (omega arith));
      same_stream = (λ j le. b.same_stream j (omega arith));
      none = (λ j le. b.none j (omega arith));
      unmixed = b.unmixed;
      long = b.long;
      few = (let f = b.few in omega arith);
    }

    -- the track i is mixed
    module _ (e : is_mixed_here (track_at z.tracks i) ≡ true) (y : Mixing) (t : TakesOf asked i z y) where
      abbrev takes : List TakeSeen
      takes = z.takes ++ t.take ∷ []

      abbrev w : Mixing
      w = record { tracks = after_take asked z.tracks t.take; streams = slice_set z.streams i (Some t.after); takes = z.takes ++ t.take ∷ [] }

      fronts : ℕ → ℕ
      fronts = upd b.fronts i t.takes.front

      own_list : list_of i ≡ listed t.before
      own_list = ap listed_at (sym (b.same_stream i (omega arith)) ∙ t.is_home)

      legal_before : (u : TakeSeen) → LegalBy b.fronts u → u.track < i → LegalBy (upd b.fronts i t.takes.front) u
      legal_before u l lt = record {
        looks = subst (LooksBy asked (list_of u.track) u.slot) (sym (upd_other b.fronts i t.takes.front u.track (λ is. omega arith))) l.looks;
        there = l.there;
        frames = l.frames;
        place = l.place;
      }

      legal_here : LegalBy (upd b.fronts i t.takes.front) t.take
      legal_here = record {
        looks = subst (λ (n : ℕ). LooksBy asked (list_of n) t.take.slot (upd b.fronts i t.takes.front n)) (sym t.takes.track)
            (subst (λ (p : Listed × ℕ). LooksBy asked p.0 t.take.slot p.1) (λ d. (sym own_list d, sym (upd_same b.fronts i t.takes.front) d)) t.takes.looks);
        there = ap (λ (n : ℕ). is_some (stream_at x.streams n)) t.takes.track ∙ ap is_some (sym (b.same_stream i (omega arith)) ∙ t.is_home);
        frames = t.takes.count;
        place = t.takes.place;
      }

      from_end : (j : ℕ) → takes_from (z.takes ++ t.take ∷ []) j ≡ takes_from z.takes j ++ (if t.take.track == j then t.take ∷ [] else [])
      from_end j = filter-append (λ (u : TakeSeen). u.track == j) z.takes (t.take ∷ [])

      from_other : (j : ℕ) → j ≢ i → takes_from (z.takes ++ t.take ∷ []) j ≡ takes_from z.takes j
      from_other j ne = from_end j ∙ ap (λ (on : Bool). takes_from z.takes j ++ (if on then t.take ∷ [] else [])) (ne_eqb t.take.track j (λ is. ne (sym is ∙ t.takes.track))) ∙ append-nil (takes_from z.takes j)

      from_here : takes_from (z.takes ++ t.take ∷ []) i ≡ t.take ∷ []
      from_here = from_end i ∙ ap (λ (on : Bool). takes_from z.takes i ++ (if on then t.take ∷ [] else [])) (eq-eqb t.take.track i t.takes.track) ∙ ap (λ (ts : List TakeSeen). ts ++ t.take ∷ []) (b.none i (omega arith))

      abbrev Goes : (ℕ → ℕ) → List TakeSeen → Option ServerState → ℕ → Option ServerState → Type 0
      Goes fs ts o j p = StreamTakes o (flat_map (λ take. cycle_events asked (list_of j) take.slot (fs j)) ts) (words_of ts) p

      stream_here : StreamTakes (stream_at x.streams i) (mix_of (upd b.fronts i t.takes.front) (z.takes ++ t.take ∷ []) i) (words_of (takes_from (z.takes ++ t.take ∷ []) i)) (stream_at (slice_set z.streams i (Some t.after)) i)
      stream_here =
          let now : stream_at (slice_set z.streams i (Some t.after)) i ≡ Some t.after = get_or-set_same z.streams i (Some t.after) None (let l = b.long in omega arith) in
          let was : stream_at x.streams i ≡ Some t.before = sym (b.same_stream i (omega arith)) ∙ t.is_home in
          let events : List ServerEvent = cycle_events asked (listed t.before) t.take.slot t.takes.front in
          let does : Adds t.before (events ++ []) (map packed_word t.take.frames ++ []) t.after = record {
            list = t.takes.list ∙ ap (λ (es : List ServerEvent). t.before.pass.part.events ++ es) (sym (append-nil events));
            took = t.takes.took ∙ ap (λ (ws : List ℕ). t.before.pass.part.frames ++ ws) (sym (append-nil (map packed_word t.take.frames)));
            shape = t.takes.shape;
          } in
          subst (λ (q : Option ServerState × List TakeSeen × ℕ × Listed × Option ServerState). StreamTakes q.0 (flat_map (λ take. cycle_events asked q.3 take.slot q.2) q.1) (words_of q.1) q.4)
          (λ d. (sym was d, sym from_here d, sym (upd_same b.fronts i t.takes.front) d, sym own_list d, sym now d))
          (t.after, does, refl)

      stream_other : (j : ℕ) → j ≢ i → StreamTakes (stream_at x.streams j) (mix_of (upd b.fronts i t.takes.front) (z.takes ++ t.take ∷ []) j) (words_of (takes_from (z.takes ++ t.take ∷ []) j)) (stream_at (slice_set z.streams i (Some t.after)) j)
      stream_other j ne = subst (λ (q : List TakeSeen × ℕ × Option ServerState). StreamTakes (stream_at x.streams j) (flat_map (λ take. cycle_events asked (list_of j) take.slot q.1) q.0) (words_of q.0) q.2)
          (λ d. (sym (from_other j ne) d, sym (upd_other b.fronts i t.takes.front j ne) d, sym (get_or-set_other z.streams i j (Some t.after) None ne) d))
          (b.streams j)

      mixes : PlayedTo w (suc i)
      mixes = record {
        tracks = ap (λ (ts : List TrackKept). after_take asked ts t.take) b.tracks ∙ sym (fold-append (after_take asked) x.tracks z.takes (t.take ∷ []));
        due = map_end z.takes t.take ∙ ap (λ (k : ℕ). map (λ (u : TakeSeen). u.track) z.takes ++ k ∷ []) t.takes.track ∙ ap (λ (ks : List ℕ). ks ++ i ∷ []) b.due
            ∙ sym (filter_end Mixed i ∙ ap (λ (on : Bool). filter Mixed (range_with_len 0 i) ++ (if on then i ∷ [] else [])) (sym (ap is_mixed_here (b.same_track i (omega arith))) ∙ e));
        fronts = upd b.fronts i t.takes.front;
        legal = all_end (LegalBy (upd b.fronts i t.takes.front)) z.takes t.take (all_map (LegalBy b.fronts) (λ (u : TakeSeen). u.track < i) (LegalBy (upd b.fronts i t.takes.front)) z.takes legal_before b.legal b.low) legal_here;
        low = all_end (λ (u : TakeSeen). u.track < suc i) z.takes t.take (all_map (λ (u : TakeSeen). u.track < i) (λ (u : TakeSeen). u.track < i) (λ (u : TakeSeen). u.track < suc i) z.takes (λ u l m. omega arith) b.low b.low) (let is = t.takes.track in omega arith);
        streams = (λ j. ⊎_elim
            (λ (is : j ≡ i). subst (λ (n : ℕ). StreamTakes (stream_at x.streams n) (mix_of (upd b.fronts i t.takes.front) (z.takes ++ t.take ∷ []) n) (words_of (takes_from (z.takes ++ t.take ∷ []) n)) (stream_at (slice_set z.streams i (Some t.after)) n)) (sym is) stream_here)
            (λ (ne : j ≢ i). stream_other j ne)
            (cases_eq j i));
        same_track = (λ j le. get_or-set_other z.tracks t.take.track j _ new_track (λ is. let a = t.takes.track in omega arith) ∙ b.same_track j (omega arith));
        same_stream = (λ j le. get_or-set_other z.streams i j (Some t.after) None (λ is. omega arith) ∙ b.same_stream j (omega arith));
        none = (λ j le. from_other j (λ is. omega arith) ∙ b.none j (omega arith));
        unmixed = (λ j off. from_other j (λ is. true≢false (sym (sym (ap is_mixed_here (b.same_track i (omega arith))) ∙ e) ∙ ap (λ (n : ℕ). is_mixed_here (track_at x.tracks n)) (sym is) ∙ off)) ∙ b.unmixed j off);
        long = length-set z.streams i (Some t.after) ∙ b.long;
        few = (let f = b.few in let l : length (z.takes ++ t.take ∷ []) ≡ length z.takes + length (t.take ∷ []) = length-append z.takes (t.take ∷ []) in omega arith);
      }

    next : (y : Mixing) → MixesTrack asked i z y → PlayedTo y (suc i)
    next y m = by_mixed (is_mixed_here (track_at z.tracks i)) refl m
      where
        by_mixed : (on : Bool) → is_mixed_here (track_at z.tracks i) ≡ on → MatchBool on (TakesOf asked i z y) (y ≡ z) → PlayedTo y (suc i)
        by_mixed true e t = subst (λ (v : Mixing). PlayedTo v (suc i)) (sym t.then) (mixes e y t)
        by_mixed false e is = subst (λ (v : Mixing). PlayedTo v (suc i)) (sym is) (passes e)

  none_yet : x.takes ≡ [] → PlayedTo x 0
  none_yet none = record {
    tracks = sym (ap (fold (after_take asked) x.tracks) none);
    due = ap (map (λ (t : TakeSeen). t.track)) none;
    fronts = (λ j. 0);
    legal = subst (AllByRecursion (LegalBy (λ j. 0))) (sym none) tt;
    low = subst (AllByRecursion (λ (t : TakeSeen). t.track < 0)) (sym none) tt;
    streams = (λ j. stays (stream_at x.streams j) (mix_of (λ n. 0) x.takes j) (words_of (takes_from x.takes j))
        (ap (λ (ts : List TakeSeen). mix_of (λ n. 0) ts j) none) (ap (λ (ts : List TakeSeen). words_of (takes_from ts j)) none));
    same_track = (λ j le. refl);
    same_stream = (λ j le. refl);
    none = (λ j le. ap (λ (ts : List TakeSeen). takes_from ts j) none);
    unmixed = (λ j off. ap (λ (ts : List TakeSeen). takes_from ts j) none);
    long = refl;
    few = (let l : length x.takes ≡ 0 = ap length none in omega arith);
  }

  -- the first tracks were mixed as the definition says
  pub played_all : x.takes ≡ [] → (i : ℕ) → i ≤ length x.streams → (y : Mixing) → MixesTo asked i x y → PlayedTo y i
  played_all none zero le y is = subst (λ (v : Mixing). PlayedTo v 0) (sym is) (none_yet none)
  played_all none (suc i) le y (z, before, m) = next i (omega arith) z (played_all none i (omega arith) z before) y m
