-- How what a run shows follows the rounds.
use Rattle.std.proofs.Common.{◌≡◌, ◌≢◌, ℕ, zero, suc, ◌+◌, ◌-◌, ◌<◌, ◌≤◌, Bool, true, false, if◌then◌else◌, List, [], ◌∷◌, ◌++◌, length, length-set, map, replicate, slice_get, slice_set, Option, Some, None, refl, sym, ap, subst, ◌∙◌, ⊎_elim, append-nil, arith}
use Rattle.af_session.proofs.Common.{ClientCall, CycleEntry, FastState, Follows, FollowsRound, Frame, HasPlaces, IsTally, Keeps, Met, MixerState, NormalState, PartyState, RoundNoted, SessionState, Shown, Tallied, Turn, TurnEntry, calls_in, calls_over, cases_eq, client_round, end_party, fast_round, flat_map, flat_map-append, flat_map-cons, get_or-set_other, get_or-set_same, get_set_same, length-map, length-replicate, map-append, map_same, normal_round, polled_states, range_with_len, round_told, shown_at, shows, slice_get-map, slice_get_cases, slice_index_or, slots, still_round, turn_in, turn_of, with_calls, with_ends, with_turn}
use Rattle.std.proofs.lemmas.List.FromFn.{fill_by_all, get_or-map-range_with_len, length-map-range_with_len}
use Rattle.af_session.proofs.Basics.{calls_end}
use Rattle.af_script.specs.declared.op.TurnSpec.{TurnSpec}
use Rattle.af_script.specs.declared.op.TurnSpec.TheVariants as spec

-- the calls of all clients, round by round
abbrev pub AllCalls : Type 0
AllCalls = List (List (List ClientCall))

-- ## One round more

-- a list without calls
abbrev pub no_call : List ClientCall
no_call = []

-- what stands at a place of some empty lists is an empty list
pub empty_at : (n i : ℕ) → slice_index_or (replicate n no_call) i no_call ≡ no_call
empty_at zero i = refl
empty_at (suc n) zero = refl
empty_at (suc n) (suc i) = empty_at n i

-- a client's calls over one round more are its calls before and those of the round
pub calls_more : (calls : AllCalls) (more : List (List ClientCall)) (i : ℕ) → calls_over (calls ++ more ∷ []) i ≡ calls_over calls i ++ slice_index_or more i []
calls_more calls more i =
    let pick : List (List ClientCall) → List ClientCall = λ c. slice_index_or c i [] in
    flat_map-append pick calls (more ∷ []) ∙ ap (λ (xs : List ClientCall). calls_over calls i ++ xs) (flat_map-cons pick more [] ∙ append-nil (slice_index_or more i []))

-- a round without calls leaves the calls of all clients as they are
calls_still : (calls : AllCalls) (n tracks : ℕ) → map (calls_over (calls ++ replicate n [] ∷ [])) (range_with_len 0 tracks) ≡ map (calls_over calls) (range_with_len 0 tracks)
calls_still calls n tracks = map_same (calls_over (calls ++ replicate n [] ∷ [])) (calls_over calls) tracks []
    (λ i lt. calls_more calls (replicate n []) i ∙ ap (λ (xs : List ClientCall). calls_over calls i ++ xs) (empty_at n i) ∙ append-nil (calls_over calls i))

-- the turns of one round more are the turns before and that of the round
pub turns_more : (turns : List (Option Turn)) (turn : Option Turn) → flat_map turn_in (turns ++ turn ∷ []) ≡ flat_map turn_in turns ++ turn_in turn
turns_more turns turn = flat_map-append turn_in turns (turn ∷ []) ∙ ap (λ (xs : List Turn). flat_map turn_in turns ++ xs) (flat_map-cons turn_in turn [] ∙ append-nil (turn_in turn))

-- a round without a turn leaves the turns as they are
pub turns_still : (turns : List (Option Turn)) → flat_map turn_in (turns ++ None ∷ []) ≡ flat_map turn_in turns
turns_still turns = turns_more turns None ∙ append-nil (flat_map turn_in turns)

module _ (states : List FastState) (len tracks : ℕ) (calls : AllCalls) (turns : List (Option Turn)) (frames : List Frame) (entries : List CycleEntry) (n : ℕ) where
  -- a round in which nothing was done leaves what the run shows
  shows_still : shows states len tracks (calls ++ replicate n [] ∷ []) (turns ++ None ∷ []) frames entries ≡ shows states len tracks calls turns frames entries
  unfolding shows
  shows_still =
      let before : Shown = shows states len tracks calls turns frames entries in
      λ i. record before { calls = calls_still calls n tracks i; turns = turns_still turns i }

  -- a round with a turn of the normal mixer adds the turn to what the run shows
  shows_turn : (turn : Turn) → shows states len tracks (calls ++ replicate n [] ∷ []) (turns ++ Some turn ∷ []) frames entries ≡ with_turn (shows states len tracks calls turns frames entries) turn
  unfolding shows
  shows_turn turn =
      let before : Shown = shows states len tracks calls turns frames entries in
      λ i. record before { calls = calls_still calls n tracks i; turns = turns_more turns (Some turn) i }

  -- a round with calls of one client adds the calls to what the run shows
  module _ (i : ℕ) (made : List ClientCall) (lt : i < n) where
    calls_made : (k : ℕ) → k < tracks → i < tracks
        → slice_index_or (slice_set (map (calls_over calls) (range_with_len 0 tracks)) i (slice_index_or (map (calls_over calls) (range_with_len 0 tracks)) i [] ++ made)) k [] ≡ calls_over (calls ++ slice_set (replicate n []) i made ∷ []) k
    calls_made k below within =
        let lists : List (List ClientCall) = map (calls_over calls) (range_with_len 0 tracks) in
        let next : List ClientCall = slice_index_or lists i [] ++ made in
        let inside : i < length lists = omega (arith, within, length-map-range_with_len (calls_over calls) 0 tracks) in
        let there : i < length (replicate n no_call) = omega (arith, lt, length-replicate n no_call) in
        let all : calls_over (calls ++ slice_set (replicate n []) i made ∷ []) k ≡ calls_over calls k ++ slice_index_or (slice_set (replicate n []) i made) k [] = calls_more calls (slice_set (replicate n []) i made) k in
        ⊎_elim
        (λ (e : k ≡ i). subst (λ (j : ℕ). slice_index_or (slice_set lists i next) j [] ≡ calls_over calls j ++ slice_index_or (slice_set (replicate n []) i made) j []) (sym e)
        (get_or-set_same lists i next [] inside
        ∙ ap (λ (xs : List ClientCall). xs ++ made) (get_or-map-range_with_len (calls_over calls) 0 tracks i i [] within (omega arith))
        ∙ ap (λ (xs : List ClientCall). calls_over calls i ++ xs) (sym (get_or-set_same (replicate n []) i made [] there))) ∙ sym all)
        (λ (ne : k ≢ i). get_or-set_other lists i k next [] ne
        ∙ get_or-map-range_with_len (calls_over calls) 0 tracks k k [] below (omega arith)
        ∙ sym (append-nil (calls_over calls k))
        ∙ ap (λ (xs : List ClientCall). calls_over calls k ++ xs) (sym (empty_at n k) ∙ sym (get_or-set_other (replicate n []) i k made [] ne)) ∙ sym all)
        (cases_eq k i)

    shows_calls : i < tracks → shows states len tracks (calls ++ slice_set (replicate n []) i made ∷ []) (turns ++ None ∷ []) frames entries ≡ with_calls (shows states len tracks calls turns frames entries) i made
    unfolding shows
    shows_calls within =
        let before : Shown = shows states len tracks calls turns frames entries in
        let lists : List (List ClientCall) = map (calls_over calls) (range_with_len 0 tracks) in
        let next : List ClientCall = slice_index_or lists i [] ++ made in
        let filled : slice_set lists i next ≡ map (calls_over (calls ++ slice_set (replicate n []) i made ∷ [])) (range_with_len 0 tracks) =
        fill_by_all (calls_over (calls ++ slice_set (replicate n []) i made ∷ [])) (slice_set lists i next) tracks [] (length-set lists i next ∙ length-map-range_with_len (calls_over calls) 0 tracks) (λ k below. calls_made k below within) in
        λ j. record before { calls = sym filled j; turns = turns_still turns j }

-- a run shows the calls of as many tracks as it has
pub shows_tracks : (states : List FastState) (len tracks : ℕ) (calls : AllCalls) (turns : List (Option Turn)) (frames : List Frame) (entries : List CycleEntry) → length (shows states len tracks calls turns frames entries).calls ≡ tracks
unfolding shows
shows_tracks states len tracks calls turns frames entries = length-map-range_with_len (calls_over calls) 0 tracks

-- ## The tally of one round more

-- the calls and the turns of the rounds noted, and of one round more
noted_more : (rounds : List RoundNoted) (r : RoundNoted) → (map (λ (x : RoundNoted). x.calls) (rounds ++ r ∷ []) ≡ map (λ (x : RoundNoted). x.calls) rounds ++ r.calls ∷ []) × (map (λ (x : RoundNoted). x.turn) (rounds ++ r ∷ []) ≡ map (λ (x : RoundNoted). x.turn) rounds ++ r.turn ∷ [])
noted_more rounds r = (map-append (λ (x : RoundNoted). x.calls) rounds (r ∷ []), map-append (λ (x : RoundNoted). x.turn) rounds (r ∷ []))

module _ (first : FastState) (tracks : ℕ) (rounds : List RoundNoted) (m : MixerState) where
  abbrev pub states : List FastState
  states = polled_states first m.observer.past.events

  abbrev pub calls : AllCalls
  calls = map (λ (x : RoundNoted). x.calls) rounds

  abbrev pub turns : List (Option Turn)
  turns = map (λ (x : RoundNoted). x.turn) rounds

  pub shown_round : (r : RoundNoted) → shown_at first tracks (rounds ++ r ∷ []) m ≡ shows states m.frames tracks (calls ++ r.calls ∷ []) (turns ++ r.turn ∷ []) m.log.frames m.log.entries
  shown_round r = let more = noted_more rounds r in λ i. shows states m.frames tracks (more.0 i) (more.1 i) m.log.frames m.log.entries

-- a tally follows a round in which no client and no normal mixer did anything
follows_still : (s : SessionState) (cycles : ℕ) (m m' : MixerState) (a b : Tallied) → Follows m m' a b → FollowsRound (record (still_round s) { cycles = cycles }) m m' a b
follows_still s cycles m m' a b follows = λ first tracks rounds is.
    let r : RoundNoted = record (still_round s) { cycles = cycles } in
    subst (λ (run : Shown). IsTally run b) (sym (shown_round first tracks rounds m' r ∙ shows_still (states first tracks rounds m') m'.frames tracks (calls first tracks rounds m') (turns first tracks rounds m') m'.log.frames m'.log.entries (length s.clients)))
    (follows first tracks rounds is)

-- a tally follows a round with a turn of the normal mixer
follows_turn : (s : SessionState) (turn : Turn) (m : MixerState) (a b : Tallied) → ((run : Shown) → IsTally run a → IsTally (with_turn run turn) b) → FollowsRound (normal_round s turn) m m a b
follows_turn s turn m a b noted = λ first tracks rounds is.
    subst (λ (run : Shown). IsTally run b) (sym (shown_round first tracks rounds m (normal_round s turn) ∙ shows_turn (states first tracks rounds m) m.frames tracks (calls first tracks rounds m) (turns first tracks rounds m) m.log.frames m.log.entries (length s.clients) turn))
    (noted (shown_at first tracks rounds m) is)

-- a tally follows a round with calls of one client
follows_calls : (s : SessionState) (i : ℕ) (made : List ClientCall) (m : MixerState) (a b : Tallied) → i < length s.clients → i < length a.tracks → ((run : Shown) → IsTally run a → IsTally (with_calls run i made) b) → FollowsRound (client_round s i made) m m a b
follows_calls s i made m a b lt within noted = λ first tracks rounds is.
    let long = shows_tracks (states first tracks rounds m) m.frames tracks (calls first tracks rounds m) (turns first tracks rounds m) m.log.frames m.log.entries in
    let below : i < tracks = omega (arith, is.count, long) in
    subst (λ (run : Shown). IsTally run b) (sym (shown_round first tracks rounds m (client_round s i made) ∙ shows_calls (states first tracks rounds m) m.frames tracks (calls first tracks rounds m) (turns first tracks rounds m) m.log.frames m.log.entries (length s.clients) i made lt below))
    (noted (shown_at first tracks rounds m) is)

-- ## The turn of each party

-- a tally that counts a client's calls follows the round of the client
pub follows_client : (s : SessionState) (i : ℕ) (q : PartyState) (a b : Tallied) → i < length s.clients → i < length a.tracks → ((run : Shown) → IsTally run a → IsTally (with_calls run i q.calls.items) b)
    → FollowsRound (round_told (spec.Client i) s (record s { clients = slice_set s.clients i q })) s.fast s.fast a b
follows_client s i q a b lt within noted =
    let there : slice_get (slice_set s.clients i q) i ≡ Some q = get_set_same s.clients i q lt in
    subst (λ (calls : List ClientCall). FollowsRound (client_round s i calls) s.fast s.fast a b) (sym (ap calls_in there)) (follows_calls s i q.calls.items s.fast a b lt within noted)

-- a tally stays as it is in a round of the normal mixer after its end
pub follows_ended : (s : SessionState) (a : Tallied) → s.normal.ended ≡ true → FollowsRound (round_told spec.Normal s s) s.fast s.fast a a
follows_ended s a ended =
    let told : round_told spec.Normal s s ≡ still_round s = ap (λ (b : Bool). if b then still_round s else normal_round s (turn_of s.normal.entry)) ended in
    subst (λ (r : RoundNoted). FollowsRound r s.fast s.fast a a) (sym told) (follows_still s 0 s.fast s.fast a a (λ first tracks rounds is. is))

-- a tally that counts the normal mixer's turn follows the round of the normal mixer
pub follows_normal : (s : SessionState) (n : NormalState) (a b : Tallied) → s.normal.ended ≡ false → ((run : Shown) → IsTally run a → IsTally (with_turn run (turn_of n.entry)) b) → FollowsRound (round_told spec.Normal s (record s { normal = n })) s.fast s.fast a b
follows_normal s n a b going noted =
    let told : round_told spec.Normal s (record s { normal = n }) ≡ normal_round s (turn_of n.entry) = ap (λ (b : Bool). if b then still_round s else normal_round s (turn_of n.entry)) going in
    subst (λ (r : RoundNoted). FollowsRound r s.fast s.fast a b) (sym told) (follows_turn s (turn_of n.entry) s.fast a b noted)

-- a tally that follows the fast mixer's cycles follows the round of the fast mixer
pub follows_fast : (count : ℕ) (s t : SessionState) (a b : Tallied) → Follows s.fast t.fast a b → FollowsRound (round_told (spec.Fast count) s t) s.fast t.fast a b
follows_fast count s t a b follows = follows_still s (fast_round s t).cycles s.fast t.fast a b follows

-- ## A round

-- the meetings leave the calls of each client as they are
calls_met : (a b : SessionState) → Met a b → length b.clients ≡ length a.clients → (i : ℕ) → calls_in (slice_get b.clients i) ≡ calls_in (slice_get a.clients i)
calls_met a b met long i = ⊎_elim
    (λ (here : (p : PartyState) × (i < length a.clients) × (slice_get a.clients i ≡ Some p) × (slice_index_or a.clients i p ≡ p)). ⊎_elim
    (λ (there : (q : PartyState) × (i < length b.clients) × (slice_get b.clients i ≡ Some q) × (slice_index_or b.clients i q ≡ q)).
    ap calls_in there.2 ∙ ap (λ (p : PartyState). p.calls.items) (met.tracks.met i here.0 there.0 here.1 here.2 there.2).same ∙ sym (ap calls_in here.2))
    (λ (none : (length b.clients ≤ i) × (slice_get b.clients i ≡ None)). absurd (omega (arith, long, none.0, here.1)))
    (slice_get_cases b.clients i).1)
    (λ (none : (length a.clients ≤ i) × (slice_get a.clients i ≡ None)). ap calls_in (met.tracks.rest i none.0).1)
    (slice_get_cases a.clients i).1

-- the parties, of which the clients have ended if the normal mixer has
abbrev ended_if : Bool → SessionState → SessionState
ended_if b s = if b then record s { clients = map end_party s.clients } else s

-- what ending the clients leaves as it is: the calls and the number of the clients, and both mixers
pub record EndsKeep (s t : SessionState) : Type 0 where
  pub calls : (i : ℕ) → calls_in (slice_get t.clients i) ≡ calls_in (slice_get s.clients i)
  pub normal : t.normal ≡ s.normal
  pub fast : t.fast ≡ s.fast
  pub long : length t.clients ≡ length s.clients

-- ending the clients, or not ending them, leaves the calls and the mixers as they are
ends_keep_if : (b : Bool) (s : SessionState) → EndsKeep s (ended_if b s)
ends_keep_if true s = record { calls = (λ i. ap calls_in (slice_get-map end_party s.clients i) ∙ calls_end (slice_get s.clients i)); normal = refl; fast = refl; long = length-map s.clients end_party }
ends_keep_if false s = record { calls = (λ i. refl); normal = refl; fast = refl; long = refl }

-- the ends of a round leave the calls and the mixers as they are
pub ends_keep : (s : SessionState) → EndsKeep s (with_ends s)
ends_keep s = ends_keep_if s.normal.ended s

-- what is noted of a turn is the same once all have met
told_by : (turn : TurnSpec) (s a b : SessionState) → ((i : ℕ) → calls_in (slice_get b.clients i) ≡ calls_in (slice_get a.clients i)) → b.normal.entry ≡ a.normal.entry → b.fast.log ≡ a.fast.log → round_told turn s b ≡ round_told turn s a
told_by (spec.Client i) s a b same entry log = ap (client_round s i) (same i)
told_by spec.Normal s a b same entry log = ap (λ (e : TurnEntry). if s.normal.ended then still_round s else normal_round s (turn_of e)) entry
told_by (spec.Fast count) s a b same entry log = λ i. record (still_round s) { cycles = length (log i).entries - length s.fast.log.entries }

-- what is noted of a turn is the same after the meetings and the ends of the clients
pub told_met : (turn : TurnSpec) (s played met t : SessionState) → Met played met → length met.clients ≡ length played.clients → t ≡ with_ends met → round_told turn s t ≡ round_told turn s played
told_met turn s played met t meets long ends =
    let keep = ends_keep met in
    ap (round_told turn s) ends
    ∙ told_by turn s met (with_ends met) keep.calls (ap (λ (n : NormalState). n.entry) keep.normal) (ap (λ (m : MixerState). m.log) keep.fast)
    ∙ told_by turn s played met (calls_met played met meets long) (ap (λ (n : NormalState). n.entry) meets.ends.normal) (ap (λ (m : MixerState). m.log) meets.ends.fast)

-- ## Places

-- a tally to which a round added a turn or calls has the places of one round more
pub places_more : (n tracks entries places : ℕ) (a b : Tallied) → places ≤ slots → Keeps places 0 a b → HasPlaces n tracks entries a → HasPlaces (n + 1) tracks entries b
places_more n tracks entries places a b few keeps p = record {
  tracks_are = keeps.tracks ∙ p.tracks_are;
  looks = (let old = p.looks in let more = keeps.looks in omega arith);
  cycles = (let old = p.cycles in let more = keeps.cycles in omega arith);
}

-- a tally to which a round added nothing has the places of one round more
pub places_still : (n tracks entries : ℕ) (a : Tallied) → HasPlaces n tracks entries a → HasPlaces (n + 1) tracks entries a
places_still n tracks entries a p = record { tracks_are = p.tracks_are; looks = (let old = p.looks in omega arith); cycles = p.cycles }
