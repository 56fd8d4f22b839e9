-- The lines of some rounds poke the blocks that the calls of the rounds poke.
use Rattle.std.proofs.Common.{◌≡◌, ℕ, zero, suc, ◌+◌, ◌<◌, ◌≤◌, ◌==◌, ◌&&◌, ◌||◌, not, Bool, true, false, cond, List, [], ◌∷◌, ◌++◌, length, slice_index_or, Option, Some, None, refl, ap, ◌∙◌, sym, arith, append_assoc, All}
use Rattle.af_journal.proofs.Common.{All-head, All-tail, AllByRecursion, ClientCall, CommandLook, EntrySeen, IsRound, RoundSeen, TakeSeen, TrackSeen, Turn, and_false, calls_in, entry_slot, flat_map, is_lawful_block, is_mixed, is_poke_on, is_shown, list_any, list_any-append, nat_tests, or_both, or_false, range_with_len, slots}
use Rattle.af_journal.specs.declared.line.Line.TheVariants as line
use Rattle.af_journal.specs.Lines.{Written, numbers, words}
use Rattle.af_journal.specs.Pokes.{pokes}
use Rattle.af_journal.specs.Texts.{call_lines, client_lines, command_words, disabled_lines, each_from, entry_lines, fast_lines, look_lines, round_lines, slot_lines, slots_lines, status_lines, take_lines, track_lines, turn_lines, turns_lines, words_after}

-- ## Two values

-- one of two under a condition, or a third
one_of : (b x y z : Bool) → ((b && x) || ((b && y) || z)) ≡ ((b && (x || y)) || z)
one_of true x y z = sym (or_both x y z)
one_of false x y z = refl

-- ## Lines that are no client's and no call

abbrev IsQuiet : Written → Type 0
IsQuiet (words us) = Unit {0}
IsQuiet (numbers line.Round) = Unit {0}
IsQuiet (numbers (line.Client track)) = ⊥
IsQuiet (numbers (line.Call answer)) = ⊥
IsQuiet (numbers (line.Turn room ack cycle)) = Unit {0}
IsQuiet (numbers line.Ended) = Unit {0}
IsQuiet (numbers (line.Look track flush rear answer)) = Unit {0}
IsQuiet (numbers (line.Disabled track)) = Unit {0}
IsQuiet (numbers (line.Status track word)) = Unit {0}
IsQuiet (numbers (line.Pushed push)) = Unit {0}
IsQuiet (numbers (line.Take track gains flush rear answer)) = Unit {0}
IsQuiet (numbers line.Fast) = Unit {0}
IsQuiet (numbers (line.Entry state kind)) = Unit {0}
IsQuiet (numbers (line.Slot i scale mono gains flush rear answer)) = Unit {0}

abbrev AreQuiet : List Written → Type 0
AreQuiet ws = AllByRecursion IsQuiet ws

quiet-append : (xs ys : List Written) → AreQuiet xs → AreQuiet ys → AreQuiet (xs ++ ys)
quiet-append [] ys p q = q
quiet-append (x ∷ xs) ys p q = (p.0, quiet-append xs ys p.1 q)

quiet-flat : {X : Type 0} (f : X → List Written) → ((x : X) → AreQuiet (f x)) → (xs : List X) → AreQuiet (flat_map f xs)
quiet-flat f h [] = tt
quiet-flat f h (x ∷ xs) = quiet-append (f x) (flat_map f xs) (h x) (quiet-flat f h xs)

quiet-each : {X : Type 0} (f : ℕ → X → List Written) → ((n : ℕ) (x : X) → AreQuiet (f n x)) → (n : ℕ) (xs : List X) → AreQuiet (each_from f n xs)
quiet-each f h n [] = tt
quiet-each f h n (x ∷ xs) = quiet-append (f n x) (each_from f (n + 1) xs) (h n x) (quiet-each f h (n + 1) xs)

quiet-words : (us : List ℕ) → AreQuiet (words_after us)
quiet-words [] = tt
quiet-words (u ∷ us) = (tt, tt)

quiet-either : (b : Bool) (xs ys : List Written) → AreQuiet xs → AreQuiet ys → AreQuiet (cond b xs ys)
quiet-either true xs ys p q = p
quiet-either false xs ys p q = q

quiet-look : (n : ℕ) (l : CommandLook) → AreQuiet (look_lines n l)
quiet-look n l = (tt, quiet-words (command_words l))

quiet-status : (n : ℕ) (o : Option ℕ) → AreQuiet (status_lines n o)
quiet-status n None = tt
quiet-status n (Some word) = (tt, tt)

quiet-track : (n : ℕ) (t : TrackSeen) → AreQuiet (track_lines n t)
quiet-track n t =
    quiet-append (flat_map (look_lines n) t.looks ++ disabled_lines n t.disabled) (status_lines n t.status)
    (quiet-append (flat_map (look_lines n) t.looks) (disabled_lines n t.disabled) (quiet-flat (look_lines n) (quiet-look n) t.looks) (quiet-either t.disabled (numbers (line.Disabled n) ∷ []) [] (tt, tt) tt))
    (quiet-status n t.status)

quiet-take : (t : TakeSeen) → AreQuiet (take_lines t)
quiet-take t = (tt, quiet-words _)

quiet-turn : (e : Turn) → AreQuiet (turn_lines e)
quiet-turn e =
    quiet-either e.ended _ _ (tt, tt)
    (tt, quiet-append (each_from track_lines 0 e.tracks) (numbers (line.Pushed e.push) ∷ flat_map take_lines e.mixes) (quiet-each track_lines quiet-track 0 e.tracks) (tt, quiet-flat take_lines quiet-take e.mixes))

quiet-turns : (o : Option Turn) → AreQuiet (turns_lines o)
quiet-turns None = tt
quiet-turns (Some e) = quiet-turn e

quiet-slot : (e : EntrySeen) (i : ℕ) → AreQuiet (slot_lines e i)
quiet-slot e i = quiet-either (is_shown (entry_slot e.entry i).seen) _ [] (tt, quiet-words _) tt

quiet-slots : (e : EntrySeen) → AreQuiet (slots_lines e)
unfolding slots_lines
quiet-slots e = quiet-flat (slot_lines e) (quiet-slot e) (range_with_len 0 slots)

quiet-entry : (e : EntrySeen) → AreQuiet (entry_lines e)
quiet-entry e = (tt, quiet-either (is_mixed e.entry.cycle) (slots_lines e) [] (quiet-slots e) tt)

quiet-fast : (es : List EntrySeen) → AreQuiet (fast_lines es)
quiet-fast [] = tt
quiet-fast (e ∷ es) = (tt, quiet-flat entry_lines quiet-entry (e ∷ es))

-- ## What some lines poke, before others

module _ (commands : Bool) (track : ℕ) where
  abbrev poke : ℕ → List Written → Bool
  poke own ws = pokes commands track own ws

  abbrev has_poke : List ClientCall → Bool
  has_poke calls = list_any (is_poke_on commands) calls

  -- a line that is no client's and no call
  past-one : (own : ℕ) (x : Written) (ws : List Written) → IsQuiet x → poke own (x ∷ ws) ≡ poke own ws
  past-one own (words us) ws q = refl
  past-one own (numbers line.Round) ws q = ap (λ b. b || poke own ws) (and_false (own == track))
  past-one own (numbers (line.Client n)) ws q = absurd q
  past-one own (numbers (line.Call answer)) ws q = absurd q
  past-one own (numbers (line.Turn room ack cycle)) ws q = ap (λ b. b || poke own ws) (and_false (own == track))
  past-one own (numbers line.Ended) ws q = ap (λ b. b || poke own ws) (and_false (own == track))
  past-one own (numbers (line.Look n flush rear answer)) ws q = ap (λ b. b || poke own ws) (and_false (own == track))
  past-one own (numbers (line.Disabled n)) ws q = ap (λ b. b || poke own ws) (and_false (own == track))
  past-one own (numbers (line.Status n word)) ws q = ap (λ b. b || poke own ws) (and_false (own == track))
  past-one own (numbers (line.Pushed push)) ws q = ap (λ b. b || poke own ws) (and_false (own == track))
  past-one own (numbers (line.Take n gains flush rear answer)) ws q = ap (λ b. b || poke own ws) (and_false (own == track))
  past-one own (numbers line.Fast) ws q = ap (λ b. b || poke own ws) (and_false (own == track))
  past-one own (numbers (line.Entry state kind)) ws q = ap (λ b. b || poke own ws) (and_false (own == track))
  past-one own (numbers (line.Slot i scale mono gains flush rear answer)) ws q = ap (λ b. b || poke own ws) (and_false (own == track))

  past-quiet : (own : ℕ) (xs ws : List Written) → AreQuiet xs → poke own (xs ++ ws) ≡ poke own ws
  past-quiet own [] ws q = refl
  past-quiet own (x ∷ xs) ws q = past-one own x (xs ++ ws) q.0 ∙ past-quiet own xs ws q.1

  past-calls : (own : ℕ) (calls : List ClientCall) (ws : List Written) → poke own (call_lines calls ++ ws) ≡ (((own == track) && has_poke calls) || poke own ws)
  past-calls own [] ws = ap (λ b. b || poke own ws) (sym (and_false (own == track)))
  past-calls own (c ∷ calls) ws =
      ap (λ b. ((own == track) && is_poke_on commands c) || b) (past-calls own calls ws)
      ∙ one_of (own == track) (is_poke_on commands c) (has_poke calls) (poke own ws)

  -- the calls of the track are among these, of the tracks from n on
  abbrev hits : ℕ → List (List ClientCall) → Bool
  hits n [] = false
  hits n (calls ∷ clients) = ((n == track) && has_poke calls) || hits (n + 1) clients

  past-clients : (b : Bool) (ws : List Written) → ((own : ℕ) → poke own ws ≡ b) → (own n : ℕ) (clients : List (List ClientCall)) → poke own (each_from client_lines n clients ++ ws) ≡ (hits n clients || b)
  past-clients b ws h own n [] = h own
  past-clients b ws h own n ([] ∷ clients) =
      past-clients b ws h own (n + 1) clients ∙ ap (λ x. (x || hits (n + 1) clients) || b) (sym (and_false (n == track)))
  past-clients b ws h own n ((c ∷ calls) ∷ clients) =
      let own_calls = call_lines (c ∷ calls) in
      let others = each_from client_lines (n + 1) clients in
      let hit = (n == track) && has_poke (c ∷ calls) in
      ap (λ x. x || poke n ((own_calls ++ others) ++ ws)) (and_false (own == track))
      ∙ ap (poke n) (append_assoc own_calls others ws)
      ∙ past-calls n (c ∷ calls) (others ++ ws)
      ∙ ap (λ x. hit || x) (past-clients b ws h n (n + 1) clients)
      ∙ sym (or_both hit (hits (n + 1) clients) b)

  past-round : (b : Bool) (ws : List Written) → ((own : ℕ) → poke own ws ≡ b) → (own : ℕ) (r : RoundSeen) → poke own (round_lines r ++ ws) ≡ (hits 0 r.calls || b)
  past-round b ws h own r =
      let clients = each_from client_lines 0 r.calls in
      let turns = turns_lines r.turn in
      let entries = fast_lines r.entries in
      let rest : (own : ℕ) → poke own (turns ++ (entries ++ ws)) ≡ b = λ own. past-quiet own turns (entries ++ ws) (quiet-turns r.turn) ∙ past-quiet own entries ws (quiet-fast r.entries) ∙ h own in
      past-one own (numbers line.Round) (((clients ++ turns) ++ entries) ++ ws) tt
      ∙ ap (poke own) (append_assoc (clients ++ turns) entries ws ∙ append_assoc clients turns (entries ++ ws))
      ∙ past-clients b (turns ++ (entries ++ ws)) rest own 0 r.calls

  past-rounds : (own : ℕ) (rounds : List RoundSeen) → poke own (flat_map round_lines rounds) ≡ list_any (λ (r : RoundSeen). hits 0 r.calls) rounds
  past-rounds own [] = refl
  past-rounds own (r ∷ rounds) = past-round (list_any (λ (r : RoundSeen). hits 0 r.calls) rounds) (flat_map round_lines rounds) (λ own. past-rounds own rounds) own r

  -- ## The calls of the track

  same-number : (n : ℕ) → track ≡ n → (n == track) ≡ true
  same-number n e = grind (arith, nat_tests)

  other-number : (n : ℕ) → (n ≡ track → ⊥) → (n == track) ≡ false
  other-number n e = grind (arith, nat_tests)

  hits-past : (n : ℕ) (clients : List (List ClientCall)) → track < n → hits n clients ≡ false
  hits-past n [] h = refl
  hits-past n (calls ∷ clients) h =
      ap (λ b. (b && has_poke calls) || hits (n + 1) clients) (other-number n (λ e. omega (arith, h, e))) ∙ hits-past (n + 1) clients (omega (arith, h))

  hits-at : (n k : ℕ) (clients : List (List ClientCall)) → track ≡ n + k → hits n clients ≡ has_poke (slice_index_or clients k [])
  hits-at n zero [] e = refl
  hits-at n (suc k) [] e = refl
  hits-at n zero (calls ∷ clients) e =
      ap (λ b. (b && has_poke calls) || hits (n + 1) clients) (same-number n (omega (arith, e)))
      ∙ ap (λ b. has_poke calls || b) (hits-past (n + 1) clients (omega (arith, e)))
      ∙ or_false (has_poke calls)
  hits-at n (suc k) (calls ∷ clients) e =
      ap (λ b. (b && has_poke calls) || hits (n + 1) clients) (other-number n (λ same. omega (arith, e, same)))
      ∙ hits-at (n + 1) k clients (omega (arith, e))

  abbrev in_round : RoundSeen → Bool
  in_round r = has_poke (calls_in r track)

  each-hit : (rounds : List RoundSeen) → list_any (λ (r : RoundSeen). hits 0 r.calls) rounds ≡ list_any in_round rounds
  each-hit [] = refl
  each-hit (r ∷ rounds) = (λ i. hits-at 0 track r.calls (let e : track ≡ 0 + track = omega arith in e) i || each-hit rounds i)

  -- the lines of some rounds poke what their calls poke
  pub rounds-poke : (own : ℕ) (rounds : List RoundSeen) → pokes commands track own (flat_map round_lines rounds) ≡ list_any (λ round. list_any (is_poke_on commands) (calls_in round track)) rounds
  rounds-poke own rounds = past-rounds own rounds ∙ each-hit rounds

  -- behind the lines of entries the lines of some rounds poke what their calls poke
  pub entries-poke : (own : ℕ) (further : List EntrySeen) (rounds : List RoundSeen) → pokes commands track own (flat_map entry_lines further ++ flat_map round_lines rounds) ≡ list_any (λ round. list_any (is_poke_on commands) (calls_in round track)) rounds
  entries-poke own further rounds = past-quiet own (flat_map entry_lines further) (flat_map round_lines rounds) (quiet-flat entry_lines quiet-entry further) ∙ rounds-poke own rounds

  -- ## One round in place of some

  pub past-end : (calls : List (List ClientCall)) (k : ℕ) → length calls ≤ k → slice_index_or calls k [] ≡ []
  past-end [] zero h = refl
  past-end [] (suc k) h = refl
  past-end (c ∷ calls) zero h = absurd (omega (arith, h))
  past-end (c ∷ calls) (suc k) h = past-end calls k (omega (arith, h))

  pub none-beyond : (tracks : ℕ) (rounds : List RoundSeen) → All (IsRound tracks) rounds → tracks ≤ track → list_any in_round rounds ≡ false
  none-beyond tracks [] form h = refl
  none-beyond tracks (r ∷ rounds) form h =
      let many = (All-head (IsRound tracks) r rounds form).calls in
      (λ i. has_poke (past-end r.calls track (omega (arith, many, h)) i) || none-beyond tracks rounds (All-tail (IsRound tracks) r rounds form) h i)

  -- a round pokes the block as these rounds do
  pub one-for_all : (r : RoundSeen) (rounds : List RoundSeen) → list_any (is_poke_on commands) (calls_in r track) ≡ list_any (λ round. list_any (is_poke_on commands) (calls_in round track)) rounds → is_lawful_block commands (r ∷ []) track ≡ is_lawful_block commands rounds track
  one-for_all r rounds e = ap not (or_false (in_round r) ∙ e)

  -- rounds may be left out if one that pokes the block as they do comes in their place
  pub in-place : (first rounds others : List RoundSeen) → is_lawful_block commands rounds track ≡ is_lawful_block commands others track → is_lawful_block commands (first ++ rounds) track ≡ is_lawful_block commands (first ++ others) track
  in-place first rounds others e = ap not (list_any-append in_round first rounds ∙ ap (λ b. list_any in_round first || b) (not-same (list_any in_round rounds) (list_any in_round others) e) ∙ sym (list_any-append in_round first others))
    where
      not-same : (x y : Bool) → not x ≡ not y → x ≡ y
      not-same true true e = refl
      not-same false false e = refl
      not-same true false e = (let h = e in cc)
      not-same false true e = (let h = e in cc)
