-- A text is that of one journal of so many tracks.
use Rattle.std.proofs.Common.{◌≡◌, ◌⊎◌, inl, inr, ℕ, ◌+◌, List, [], ◌∷◌, ◌++◌, length, Option, Some, None, Bool, true, false, cond, MatchOption, refl, ap, ◌∙◌, sym, subst, arith, All, append_assoc, length-append}
use Rattle.af_journal.proofs.Common.{All-cons, All-head, All-nil, All-tail, AreEntries, ClientCall, EntrySeen, IsRound, IsTurn, JournalData, RoundSeen, Turn, entries_of, flat_map, frames_of}
use Rattle.af_journal.specs.declared.line.Line.TheVariants as line
use Rattle.af_journal.specs.Lines.{Written, numbers}
use Rattle.af_journal.specs.Readings.{IsReadBack, Reads}
use Rattle.af_journal.specs.Texts.{client_lines, each_from, entry_lines, fast_lines, round_lines, take_lines, text_of, track_lines, turn_lines, turns_lines}
use Rattle.af_journal.proofs.Fitting.{lines_fit}
use Rattle.af_journal.proofs.OneEntry.{AtRound, entries-one, round-from}
use Rattle.af_journal.proofs.OneText.{FromOn, clients-numbered, each-one, others-same, same-lines}
use Rattle.af_journal.proofs.OneTurn.{NoTake, open-lines, turn-one}

-- ## What follows a turn

-- entries, a round or the end
abbrev AtFast : List Written → Type 0
AtFast r = AtRound r ⊎ ((rest : List Written) × (r ≡ numbers line.Fast ∷ rest))

fast-from : (n : ℕ) (r : List Written) → AtFast r → FromOn n r
fast-from n r (inl h) = round-from n r h
fast-from n r (inr some) = subst (FromOn n) (sym some.1) tt

-- the number of the first line's kind
kind_at : List Written → ℕ
kind_at (numbers (line.Take track gains flush rear answer) ∷ rest) = 1
kind_at (numbers (line.Turn room ack cycle) ∷ rest) = 2
kind_at (numbers line.Ended ∷ rest) = 2
kind_at (numbers line.Fast ∷ rest) = 3
kind_at _ = 0

fast-kind : (r : List Written) → AtFast r → (kind_at r ≡ 0) ⊎ (kind_at r ≡ 3)
unfolding kind_at
fast-kind r (inl (inl none)) = inl (ap kind_at none)
fast-kind r (inl (inr some)) = inl (ap kind_at some.1)
fast-kind r (inr some) = inr (ap kind_at some.1)

not-kind : (r : List Written) (n : ℕ) → AtFast r → kind_at r ≡ n → (n ≡ 1) ⊎ (n ≡ 2) → ⊥
not-kind r n h k is = by (fast-kind r h) is where
  by : (kind_at r ≡ 0) ⊎ (kind_at r ≡ 3) → (n ≡ 1) ⊎ (n ≡ 2) → ⊥
  by (inl a) (inl b) = omega (arith, a, b, k)
  by (inl a) (inr b) = omega (arith, a, b, k)
  by (inr a) (inl b) = omega (arith, a, b, k)
  by (inr a) (inr b) = omega (arith, a, b, k)

fast-no-take : (r : List Written) → AtFast r → NoTake r
unfolding kind_at
fast-no-take r h track gains flush rear answer rest e = not-kind r 1 h (ap kind_at e) (inl refl)

-- ## A turn, if there was one

turn-kind : (tracks : ℕ) (e : Turn) (r : List Written) → IsTurn tracks e → kind_at (turn_lines e ++ r) ≡ 2
unfolding kind_at
turn-kind tracks e r (inl ended) = ap (λ (e : Turn). kind_at (turn_lines e ++ r)) ended
turn-kind tracks e r (inr went) = ap kind_at (open-lines e went.open_is r)

turns-one : (tracks : ℕ) (o p : Option Turn) (r s : List Written) → MatchOption o (Unit {0}) (IsTurn tracks) → MatchOption p (Unit {0}) (IsTurn tracks) → AtFast r → AtFast s → turns_lines o ++ r ≡ turns_lines p ++ s → (o ≡ p) × (r ≡ s)
turns-one tracks None None r s a b h k e = (refl, e)
turns-one tracks None (Some f) r s a b h k e = absurd (not-kind r 2 h (ap kind_at e ∙ turn-kind tracks f s b) (inr refl))
turns-one tracks (Some t) None r s a b h k e = absurd (not-kind s 2 k (ap kind_at (sym e) ∙ turn-kind tracks t r a) (inr refl))
turns-one tracks (Some t) (Some f) r s a b h k e = let p = turn-one tracks t f r s a b (fast-no-take r h) (fast-no-take s k) e in (ap Some p.0, p.1)

turn-from : (n : ℕ) (b : Bool) (e : Turn) (r : List Written) → FromOn n (cond b (numbers line.Ended ∷ []) (numbers (line.Turn e.room e.ack e.cycle) ∷ each_from track_lines 0 e.tracks ++ numbers (line.Pushed e.push) ∷ flat_map take_lines e.mixes) ++ r)
turn-from n true e r = tt
turn-from n false e r = tt

turns-from : (n : ℕ) (o : Option Turn) (r : List Written) → FromOn n r → FromOn n (turns_lines o ++ r)
turns-from n None r h = h
turns-from n (Some e) r h = turn-from n e.ended e r

-- ## The entries of a round

fast-at : (es : List EntrySeen) (r : List Written) → AtRound r → AtFast (fast_lines es ++ r)
fast-at [] r h = inl h
fast-at (e ∷ es) r h = inr (flat_map entry_lines (e ∷ es) ++ r, refl)

no-fast : (r rest : List Written) → AtRound r → r ≡ numbers line.Fast ∷ rest → ⊥
unfolding kind_at
no-fast r rest (inl none) e = let p = ap kind_at (sym none ∙ e) in omega (arith, p)
no-fast r rest (inr some) e = let p = ap kind_at (sym some.1 ∙ e) in omega (arith, p)

fast-one : (place : ℕ) (es fs : List EntrySeen) (r s : List Written) → AreEntries place es → AreEntries place fs → AtRound r → AtRound s → fast_lines es ++ r ≡ fast_lines fs ++ s → (es ≡ fs) × (r ≡ s)
fast-one place [] [] r s p q h k e = (refl, e)
fast-one place [] (f ∷ fs) r s p q h k e = absurd (no-fast r (flat_map entry_lines (f ∷ fs) ++ s) h e)
fast-one place (x ∷ xs) [] r s p q h k e = absurd (no-fast s (flat_map entry_lines (x ∷ xs) ++ r) k (sym e))
fast-one place (x ∷ xs) (f ∷ fs) r s p q h k e = entries-one place (x ∷ xs) (f ∷ fs) r s p q h k (others-same _ _ (flat_map entry_lines (x ∷ xs) ++ r) (flat_map entry_lines (f ∷ fs) ++ s) e)

-- ## A round

all-any : {X : Type 0} (xs : List X) → All (λ (x : X). Unit {0}) xs
all-any [] = All-nil (λ x. Unit {0})
all-any (x ∷ xs) = All-cons (λ x. Unit {0}) x xs tt (all-any xs)

round-apart : (x : RoundSeen) (r : List Written) → round_lines x ++ r ≡ numbers line.Round ∷ (each_from client_lines 0 x.calls ++ (turns_lines x.turn ++ (fast_lines x.entries ++ r)))
round-apart x r =
    let a = each_from client_lines 0 x.calls in let b = turns_lines x.turn in let c = fast_lines x.entries in
    ap (λ l. numbers line.Round ∷ l) (append_assoc (a ++ b) c r ∙ append_assoc a b (c ++ r))

round-one : (tracks place : ℕ) (x y : RoundSeen) (r s : List Written) → IsRound tracks x → IsRound tracks y → AreEntries place x.entries → AreEntries place y.entries → AtRound r → AtRound s → round_lines x ++ r ≡ round_lines y ++ s → (x ≡ y) × (r ≡ s)
round-one tracks place x y r s p q ex ey h k e =
    let fx = fast_lines x.entries ++ r in let fy = fast_lines y.entries ++ s in
    let tx = turns_lines x.turn ++ fx in let ty = turns_lines y.turn ++ fy in
    let all = others-same _ _ (each_from client_lines 0 x.calls ++ tx) (each_from client_lines 0 y.calls ++ ty) (sym (round-apart x r) ∙ e ∙ round-apart y s) in
    let ax = fast-at x.entries r h in let ay = fast-at y.entries s k in
    let n = 0 + length x.calls in
    let calls = each-one (λ (calls : List ClientCall). Unit {0}) client_lines clients-numbered 0 x.calls y.calls tx ty (p.calls ∙ sym q.calls) (all-any x.calls) (all-any y.calls)
    (turns-from n x.turn fx (fast-from n fx ax)) (turns-from n y.turn fy (fast-from n fy ay)) all in
    let turn = turns-one tracks x.turn y.turn fx fy p.turn q.turn ax ay calls.1 in
    let entries = fast-one place x.entries y.entries r s ex ey h k turn.1 in
    ((λ k. record { calls = calls.0 k; turn = turn.0 k; entries = entries.0 k }), entries.1)

-- ## All rounds

entries-split : (place : ℕ) (es more : List EntrySeen) → AreEntries place (es ++ more) → AreEntries place es × AreEntries (place + length (frames_of es)) more
entries-split place [] more a = (tt, subst (λ n. AreEntries n more) (let e : place ≡ place + 0 = omega arith in e) a)
entries-split place (e ∷ es) more a =
    let n = length-append e.frames (frames_of es) in
    let rest = entries-split (place + length e.frames) es more a.3 in
    ((a.0, a.1, a.2, rest.0), subst (λ n. AreEntries n more) (let h : place + length e.frames + length (frames_of es) ≡ place + length (e.frames ++ frames_of es) = omega arith in h) rest.1)

rounds-at : (rs : List RoundSeen) → AtRound (flat_map round_lines rs)
rounds-at [] = inl refl
rounds-at (x ∷ xs) = inr (each_from client_lines 0 x.calls ++ (turns_lines x.turn ++ (fast_lines x.entries ++ flat_map round_lines xs)), round-apart x (flat_map round_lines xs))

no-round : (x : RoundSeen) (r : List Written) → [] ≡ round_lines x ++ r → ⊥
no-round x r e = (let p = e ∙ round-apart x r in cc)

rounds-one : (tracks place : ℕ) (xs ys : List RoundSeen) → All (IsRound tracks) xs → All (IsRound tracks) ys → AreEntries place (entries_of xs) → AreEntries place (entries_of ys) → flat_map round_lines xs ≡ flat_map round_lines ys → xs ≡ ys
rounds-one tracks place [] [] p q a b e = refl
rounds-one tracks place [] (y ∷ ys) p q a b e = absurd (no-round y (flat_map round_lines ys) e)
rounds-one tracks place (x ∷ xs) [] p q a b e = absurd (no-round x (flat_map round_lines xs) (sym e))
rounds-one tracks place (x ∷ xs) (y ∷ ys) p q a b e =
    let ea = entries-split place x.entries (entries_of xs) a in let eb = entries-split place y.entries (entries_of ys) b in
    let own = round-one tracks place x y (flat_map round_lines xs) (flat_map round_lines ys) (All-head (IsRound tracks) x xs p) (All-head (IsRound tracks) y ys q) ea.0 eb.0 (rounds-at xs) (rounds-at ys) e in
    let place_is : place + length (frames_of y.entries) ≡ place + length (frames_of x.entries) = ap (λ (x : RoundSeen). place + length (frames_of x.entries)) (sym own.0) in
    let more = rounds-one tracks (place + length (frames_of x.entries)) xs ys (All-tail (IsRound tracks) x xs p) (All-tail (IsRound tracks) y ys q) ea.1 (subst (λ n. AreEntries n (entries_of ys)) place_is eb.1) own.1 in
    λ k. own.0 k ∷ more k

-- two journals of as many tracks have two texts
pub one-reading : (tracks : ℕ) (text : List ℕ) (j k : JournalData) → Reads tracks text j → Reads tracks text k → j ≡ k
one-reading tracks text j k p q =
    let lines : flat_map round_lines j.rounds ≡ flat_map round_lines k.rounds = same-lines (flat_map round_lines j.rounds) (flat_map round_lines k.rounds) (lines_fit j p.0.form) (lines_fit k q.0.form) (sym p.1 ∙ q.1) in
    let jf = subst (λ n. All (IsRound n) j.rounds) p.0.tracks_are p.0.form.rounds in
    let kf = subst (λ n. All (IsRound n) k.rounds) q.0.tracks_are q.0.form.rounds in
    let rounds = rounds-one tracks 0 j.rounds k.rounds jf kf p.0.form.entries q.0.form.entries lines in
    let tracks_same : j.tracks ≡ k.tracks = p.0.tracks_are ∙ sym q.0.tracks_are in
    λ i. record { tracks = tracks_same i; rounds = rounds i }

-- ## The text of a journal

-- has one reading
pub read-back : (j : JournalData) → IsReadBack j
read-back j is =
    let own : Reads j.tracks (text_of j) j = (record { tracks_are = refl; form = is }, refl) in
    record { reads = own; only = (λ other reads. one-reading j.tracks (text_of j) other j reads own) }
