-- What is kept of a round: its form, its numbers and its pokes stay, and nothing is left out of one that has no more than others follow.
use Rattle.std.proofs.Common.{◌≡◌, ℕ, zero, suc, ◌+◌, ◌<◌, ◌≤◌, ◌||◌, nat_lt, not, Bool, true, false, cond, List, [], ◌∷◌, ◌++◌, length, map, take, Option, Some, None, MatchOption, inl, inr, refl, ap, ◌∙◌, sym, arith, All, length-append}
use Rattle.af_journal.proofs.Common.{All-cons, All-head, All-nil, All-tail, AllByRecursion, EntrySeen, IsCommandLook, IsRound, IsTurn, RoundSeen, TrackSeen, Turn, calls_in, entries_of, flat_map, is_lawful_block, is_poke_on, length-map, list_any, neither, not_below_is, option_map, take_all, take_at}
use Rattle.af_journal.proofs.Basics.{fit-append}
use Rattle.af_journal.specs.Judged.{first_looks, first_of_round, first_of_turn, has_more, is_beyond}
use Rattle.af_journal.specs.declared.line.Line.TheVariants as line
use Rattle.af_journal.specs.Lines.{Written, numbers}
use Rattle.af_journal.specs.Ranges.{IsWritten}
use Rattle.af_journal.specs.Texts.{each_from, entry_lines, fast_lines, look_lines, round_lines, take_lines, track_lines, turns_lines, client_lines, disabled_lines, status_lines}

-- ## Lists

-- a list that was cut shorter than so many was whole
pub whole_take : {X : Type 0} (n : ℕ) (xs : List X) → length (take n xs) < n → take n xs ≡ xs
whole_take zero xs h = absurd (omega (arith, h))
whole_take (suc n) [] h = refl
whole_take (suc n) (x ∷ xs) h = ap (λ l. x ∷ l) (whole_take n xs (omega (arith, h)))

pub take-few : {X : Type 0} (n : ℕ) (xs : List X) → length (take n xs) ≤ n
take-few zero xs = omega arith
take-few (suc n) [] = omega arith
take-few (suc n) (x ∷ xs) = let h = take-few n xs in omega arith

pub take-short : {X : Type 0} (n : ℕ) (xs : List X) → length (take n xs) ≤ length xs
take-short zero xs = omega arith
take-short (suc n) [] = omega arith
take-short (suc n) (x ∷ xs) = let h = take-short n xs in omega arith

pub take-none : {X : Type 0} (n : ℕ) → take {A = X} n [] ≡ []
take-none zero = refl
take-none (suc n) = refl

-- one more item behind a list that was cut
pub take-more : {X : Type 0} (n : ℕ) (xs : List X) (x : X) → take n (take n xs ++ x ∷ []) ≡ take n (xs ++ x ∷ [])
take-more zero xs x = refl
take-more (suc n) [] x = refl
take-more (suc n) (y ∷ ys) x = ap (λ l. y ∷ l) (take-more n ys x)

-- what holds of all holds of the first ones
pub all-take : {X : Type 0} (P : X → Type 0) (n : ℕ) (xs : List X) → All P xs → All P (take n xs)
all-take P zero xs all = All-nil P
all-take P (suc n) [] all = All-nil P
all-take P (suc n) (x ∷ xs) all = All-cons P x (take n xs) (All-head P x xs all) (all-take P n xs (All-tail P x xs all))

pub any-map : {X Y : Type 0} (p : Y → Bool) (f : X → Y) (xs : List X) → list_any p (map f xs) ≡ list_any (λ x. p (f x)) xs
any-map p f [] = refl
any-map p f (x ∷ xs) = ap (λ b. p (f x) || b) (any-map p f xs)

-- ## Nothing is left out

module _ (most looks : ℕ) (few : looks < most) where
  tracks_whole : (ts : List TrackSeen) → list_any (λ (t : TrackSeen). nat_lt looks (length t.looks)) (map (first_looks most) ts) ≡ false → map (first_looks most) ts ≡ ts
  tracks_whole [] e = refl
  tracks_whole (t ∷ ts) e =
      let b = neither (nat_lt looks (length (take most t.looks))) (list_any (λ (t : TrackSeen). nat_lt looks (length t.looks)) (map (first_looks most) ts)) e in
      let short : length (take most t.looks) ≤ looks = not_below_is looks (length (take most t.looks)) b.0 in
      let own : take most t.looks ≡ t.looks = whole_take most t.looks (omega (arith, short, few)) in
      (λ k. record { looks = own k; status = t.status; disabled = t.disabled } ∷ tracks_whole ts b.1 k)

  turn_whole : (turn : Option Turn) → has_more looks (option_map (first_of_turn most) turn) ≡ false → option_map (first_of_turn most) turn ≡ turn
  turn_whole None e = refl
  turn_whole (Some t) e = ap (λ (l : List TrackSeen). Some (record t { tracks = l })) (tracks_whole t.tracks e)

-- a round that has no more entries and looks than so many is whole
pub round_whole : (most entries looks : ℕ) → entries < most → looks < most → (r : RoundSeen) → is_beyond entries looks (first_of_round most r) ≡ false → first_of_round most r ≡ r
round_whole most entries looks few_entries few_looks r e =
    let b = neither (nat_lt entries (length (take most r.entries))) (has_more looks (option_map (first_of_turn most) r.turn)) e in
    let short : length (take most r.entries) ≤ entries = not_below_is entries (length (take most r.entries)) b.0 in
    let own : take most r.entries ≡ r.entries = whole_take most r.entries (omega (arith, short, few_entries)) in
    (λ k. record { calls = r.calls; turn = turn_whole most looks few_looks r.turn b.1 k; entries = own k })

-- further entries of a round that is full are left out
pub further_left : (most : ℕ) (r : RoundSeen) (further : List EntrySeen) → length r.entries ≡ most → first_of_round most (record r { entries = r.entries ++ further }) ≡ first_of_round most r
further_left most r further full =
    ap (λ (l : List EntrySeen). record { calls = r.calls; turn = option_map (first_of_turn most) r.turn; entries = l }) (take_at r.entries further most full ∙ sym (take_all most r.entries (omega (arith, full))))

-- ## The form stays

tracks_form : (most : ℕ) (ts : List TrackSeen) → All (λ (t : TrackSeen). All IsCommandLook t.looks) ts → All (λ (t : TrackSeen). All IsCommandLook t.looks) (map (first_looks most) ts)
tracks_form most [] all = All-nil (λ (t : TrackSeen). All IsCommandLook t.looks)
tracks_form most (t ∷ ts) all =
    let P : TrackSeen → Type 0 = λ t. All IsCommandLook t.looks in
    All-cons P (first_looks most t) (map (first_looks most) ts) (all-take IsCommandLook most t.looks (All-head P t ts all)) (tracks_form most ts (All-tail P t ts all))

turn_form : (most tracks : ℕ) (e : Turn) → IsTurn tracks e → IsTurn tracks (first_of_turn most e)
turn_form most tracks e (inl ended) = inl (ap (first_of_turn most) ended)
turn_form most tracks e (inr o) = inr (record { open_is = o.open_is; each = length-map e.tracks (first_looks most) ∙ o.each; looks = tracks_form most e.tracks o.looks; takes = o.takes; rise = o.rise })

turns_form : (most tracks : ℕ) (turn : Option Turn) → MatchOption turn (Unit {0}) (IsTurn tracks) → MatchOption (option_map (first_of_turn most) turn) (Unit {0}) (IsTurn tracks)
turns_form most tracks None is = tt
turns_form most tracks (Some e) is = turn_form most tracks e is

pub round_form : (most tracks : ℕ) (r : RoundSeen) → IsRound tracks r → IsRound tracks (first_of_round most r)
round_form most tracks r is = record { calls = is.calls; turn = turns_form most tracks r.turn is.turn }

-- ## The numbers fit

abbrev AreFit : List Written → Type 0
AreFit ws = AllByRecursion IsWritten ws

pub fits-parts : (first more : List Written) → AreFit (first ++ more) → AreFit first × AreFit more
fits-parts [] more all = (tt, all)
fits-parts (w ∷ ws) more all = let rest = fits-parts ws more all.1 in ((all.0, rest.0), rest.1)

flat-fits : {X : Type 0} (f : X → List Written) (n : ℕ) (xs : List X) → AreFit (flat_map f xs) → AreFit (flat_map f (take n xs))
flat-fits f zero xs fit = tt
flat-fits f (suc n) [] fit = tt
flat-fits f (suc n) (x ∷ xs) fit = let p = fits-parts (f x) (flat_map f xs) fit in fit-append (f x) (flat_map f (take n xs)) p.0 (flat-fits f n xs p.1)

fast_fits : (n : ℕ) (es : List EntrySeen) → AreFit (fast_lines es) → AreFit (fast_lines (take n es))
fast_fits zero es fit = tt
fast_fits (suc n) [] fit = tt
fast_fits (suc n) (e ∷ es) fit = (tt, flat-fits entry_lines (suc n) (e ∷ es) fit.1)

track_fits : (most n : ℕ) (t : TrackSeen) → AreFit (track_lines n t) → AreFit (track_lines n (first_looks most t))
track_fits most n t fit =
    let p = fits-parts (flat_map (look_lines n) t.looks ++ disabled_lines n t.disabled) (status_lines n t.status) fit in
    let q = fits-parts (flat_map (look_lines n) t.looks) (disabled_lines n t.disabled) p.0 in
    let looks = flat_map (look_lines n) (take most t.looks) in
    fit-append (looks ++ disabled_lines n t.disabled) (status_lines n t.status) (fit-append looks (disabled_lines n t.disabled) (flat-fits (look_lines n) most t.looks q.0) q.1) p.1

tracks_fit : (most n : ℕ) (ts : List TrackSeen) → AreFit (each_from track_lines n ts) → AreFit (each_from track_lines n (map (first_looks most) ts))
tracks_fit most n [] fit = tt
tracks_fit most n (t ∷ ts) fit =
    let p = fits-parts (track_lines n t) (each_from track_lines (n + 1) ts) fit in
    fit-append (track_lines n (first_looks most t)) (each_from track_lines (n + 1) (map (first_looks most) ts)) (track_fits most n t p.0) (tracks_fit most (n + 1) ts p.1)

turn_by : (most : ℕ) (e : Turn) (b : Bool)
    → AreFit (cond b (numbers line.Ended ∷ []) (numbers (line.Turn e.room e.ack e.cycle) ∷ each_from track_lines 0 e.tracks ++ numbers (line.Pushed e.push) ∷ flat_map take_lines e.mixes))
    → AreFit (cond b (numbers line.Ended ∷ []) (numbers (line.Turn e.room e.ack e.cycle) ∷ each_from track_lines 0 (map (first_looks most) e.tracks) ++ numbers (line.Pushed e.push) ∷ flat_map take_lines e.mixes))
turn_by most e true fit = fit
turn_by most e false fit =
    let more = numbers (line.Pushed e.push) ∷ flat_map take_lines e.mixes in
    let p = fits-parts (each_from track_lines 0 e.tracks) more fit.1 in
    (fit.0, fit-append (each_from track_lines 0 (map (first_looks most) e.tracks)) more (tracks_fit most 0 e.tracks p.0) p.1)

turns_fit : (most : ℕ) (turn : Option Turn) → AreFit (turns_lines turn) → AreFit (turns_lines (option_map (first_of_turn most) turn))
turns_fit most None fit = tt
turns_fit most (Some e) fit = turn_by most e e.ended fit

round_fit : (most : ℕ) (r : RoundSeen) → AreFit (round_lines r) → AreFit (round_lines (first_of_round most r))
round_fit most r fit =
    let first = first_of_round most r in
    let clients = each_from client_lines 0 r.calls in
    let p = fits-parts (clients ++ turns_lines r.turn) (fast_lines r.entries) fit.1 in
    let q = fits-parts clients (turns_lines r.turn) p.0 in
    (tt, fit-append (clients ++ turns_lines first.turn) (fast_lines first.entries) (fit-append clients (turns_lines first.turn) q.0 (turns_fit most r.turn q.1)) (fast_fits most r.entries p.1))

pub rounds_fit : (most : ℕ) (rounds : List RoundSeen) → AreFit (flat_map round_lines rounds) → AreFit (flat_map round_lines (map (first_of_round most) rounds))
rounds_fit most [] fit = tt
rounds_fit most (r ∷ rounds) fit =
    let p = fits-parts (round_lines r) (flat_map round_lines rounds) fit in
    fit-append (round_lines (first_of_round most r)) (flat_map round_lines (map (first_of_round most) rounds)) (round_fit most r p.0) (rounds_fit most rounds p.1)

-- cut rounds have no more entries
pub rounds_few : (most : ℕ) (rounds : List RoundSeen) → length (entries_of (map (first_of_round most) rounds)) ≤ length (entries_of rounds)
rounds_few most [] = omega arith
rounds_few most (r ∷ rounds) =
    let h = rounds_few most rounds in let own = take-short most r.entries in
    let a = length-append (take most r.entries) (entries_of (map (first_of_round most) rounds)) in let b = length-append r.entries (entries_of rounds) in
    omega arith

-- ## The pokes

any-same : (most track : ℕ) (commands : Bool) (rounds : List RoundSeen) → list_any (λ (round : RoundSeen). list_any (is_poke_on commands) (calls_in round track)) (map (first_of_round most) rounds) ≡ list_any (λ (round : RoundSeen). list_any (is_poke_on commands) (calls_in round track)) rounds
any-same most track commands [] = refl
any-same most track commands (r ∷ rounds) = ap (λ b. list_any (is_poke_on commands) (calls_in r track) || b) (any-same most track commands rounds)

pub lawful-same : (most track : ℕ) (commands : Bool) (rounds : List RoundSeen) → is_lawful_block commands (map (first_of_round most) rounds) track ≡ is_lawful_block commands rounds track
lawful-same most track commands rounds = ap (λ (b : Bool). not b) (any-same most track commands rounds)

-- ## A round that has no more than a legal one is judged whole

module _ (most looks : ℕ) (few : looks ≤ most) where
  tracks_within : (ts : List TrackSeen) → list_any (λ (t : TrackSeen). nat_lt looks (length t.looks)) ts ≡ false → map (first_looks most) ts ≡ ts
  tracks_within [] e = refl
  tracks_within (t ∷ ts) e =
      let b = neither (nat_lt looks (length t.looks)) (list_any (λ (t : TrackSeen). nat_lt looks (length t.looks)) ts) e in
      let short : length t.looks ≤ looks = not_below_is looks (length t.looks) b.0 in
      let own : take most t.looks ≡ t.looks = take_all most t.looks (omega (arith, short, few)) in
      (λ k. record { looks = own k; status = t.status; disabled = t.disabled } ∷ tracks_within ts b.1 k)

  turn_within : (turn : Option Turn) → has_more looks turn ≡ false → option_map (first_of_turn most) turn ≡ turn
  turn_within None e = refl
  turn_within (Some t) e = ap (λ (l : List TrackSeen). Some (record t { tracks = l })) (tracks_within t.tracks e)

pub round_within : (most entries looks : ℕ) → entries ≤ most → looks ≤ most → (r : RoundSeen) → is_beyond entries looks r ≡ false → first_of_round most r ≡ r
round_within most entries looks few_entries few_looks r e =
    let b = neither (nat_lt entries (length r.entries)) (has_more looks r.turn) e in
    let short : length r.entries ≤ entries = not_below_is entries (length r.entries) b.0 in
    let own : take most r.entries ≡ r.entries = take_all most r.entries (omega (arith, short, few_entries)) in
    (λ k. record { calls = r.calls; turn = turn_within most looks few_looks r.turn b.1 k; entries = own k })
