-- Rounds are read one after the other, and are those of the journal that is put together of what was noted.
use Rattle.std.proofs.Common.{◌≡◌, ℕ, ◌+◌, ◌*◌, ◌<◌, ◌≤◌, ◌^◌, ◌==◌, true, false, List, [], ◌∷◌, ◌++◌, length, map, take, drop, refl, ap, ◌∙◌, sym, subst, arith, append-nil, length-append}
use Rattle.af_journal.proofs.Common.{All-nil, AllByRecursion, AreEntries, CycleEntry, EntrySeen, Frame, IsJournal, IsRound, IsWhole, Logged, RoundNoted, RoundSeen, RoundsNoted, cycles_of, drop_at, entries_of, entries_seen, flat_map, flat_map-append, frames_of, journal_of, kind_of, length-map, map-append, map_last, nat_tests, rounds_seen, take_at, taken_by}
use Rattle.af_journal.specs.declared.line.Line.TheVariants as line
use Rattle.af_journal.specs.Lines.{Written, numbers}
use Rattle.af_journal.specs.Taken.{AddsRound, AreTaken, Leaves, body_lines, more_lines, noted_of}
use Rattle.af_journal.specs.Texts.{client_lines, each_from, entry_lines, fast_lines, round_lines, text_of_lines, turns_lines}
use Rattle.af_journal.proofs.EntriesRead.{entries-append}
use Rattle.af_journal.specs.Beginnings.{AreRead, AreUpTo, EndsBy, ReadsRound, is_last}
use Rattle.af_journal.specs.Judged.{first_of_round, is_beyond}
use Rattle.af_journal.specs.declared.reach.End.{End}
use Rattle.af_journal.specs.declared.reach.End.TheVariants as why
use Rattle.af_journal.specs.declared.reach.Reach.{Reach}
use Rattle.af_journal.specs.declared.reach.RoundRead.{RoundRead}
use Rattle.af_journal.proofs.Judged.{round_whole, rounds_few}
use Rattle.af_journal.proofs.Leaving.{all-more, leaves-more, leaves-none, leaves-then}
use Rattle.af_journal.proofs.Texts.{text-append}
use Rattle.af_journal.specs.Ranges.{IsWritten}
use Rattle.af_journal.proofs.Fitting.{is_journal}

-- ## How long a text is

text-of-two : (first more : List Written) → length (text_of_lines (first ++ more)) ≡ length (text_of_lines first) + length (text_of_lines more)
text-of-two first more = ap length (text-append first more) ∙ length-append (text_of_lines first) (text_of_lines more)

two-long : (a b : ℕ) (xs : List ℕ) → 2 ≤ length (a ∷ b ∷ xs)
two-long a b xs = omega arith

line-long : (state kind : ℕ) → 2 ≤ length (text_of_lines (numbers (line.Entry state kind) ∷ []))
line-long state kind = two-long 121 32 _

entry-long : (e : EntrySeen) → 2 ≤ length (text_of_lines (entry_lines e))
entry-long e =
    let one = line-long e.entry.state (kind_of e.entry.cycle) in
    let n = text-of-two (numbers (line.Entry e.entry.state (kind_of e.entry.cycle)) ∷ []) (more_lines e) in omega arith

entries-long : (es : List EntrySeen) → 2 * length es ≤ length (text_of_lines (flat_map entry_lines es))
entries-long [] = omega arith
entries-long (e ∷ es) = let n = text-of-two (entry_lines e) (flat_map entry_lines es) in let one = entry-long e in let more = entries-long es in omega arith

pub fast-long : (es : List EntrySeen) → 2 * length es ≤ length (text_of_lines (fast_lines es))
fast-long [] = omega arith
fast-long (e ∷ es) = let n = text-of-two (numbers line.Fast ∷ []) (flat_map entry_lines (e ∷ es)) in let more = entries-long (e ∷ es) in omega arith

round-long : (r : RoundSeen) → 2 * length r.entries ≤ length (text_of_lines (round_lines r))
round-long r =
    let front = (numbers line.Round ∷ each_from client_lines 0 r.calls) ++ turns_lines r.turn in
    let n = text-of-two front (fast_lines r.entries) in let more = fast-long r.entries in omega arith

rounds-long : (rs : List RoundSeen) → 2 * length (entries_of rs) ≤ length (text_of_lines (flat_map round_lines rs))
rounds-long [] = omega arith
rounds-long (r ∷ rs) =
    let n = text-of-two (round_lines r) (flat_map round_lines rs) in let m = length-append r.entries (entries_of rs) in
    let one = round-long r in let more = rounds-long rs in omega arith

-- ## A round

-- the entries of a round are few enough to be counted
pub round-few : (a b d : List ℕ) (seen : List EntrySeen) (old count : ℕ) → 2 * old + length a < 2 ^ 63 → length b ≤ length a → count ≡ length seen → Leaves b (fast_lines seen) d → old + count < 2 ^ 62
round-few a b d seen old count few shorter same l =
    let n = ap length l.text in let m = length-append (text_of_lines (fast_lines seen)) d in let long = fast-long seen in omega arith

pub leaves-body : (a b d e : List ℕ) (r : RoundSeen) → Leaves a (each_from client_lines 0 r.calls) b → Leaves b (turns_lines r.turn) d → Leaves d (fast_lines r.entries) e → Leaves a (body_lines r) e
leaves-body a b d e r one two three =
    leaves-then a d e (each_from client_lines 0 r.calls ++ turns_lines r.turn) (fast_lines r.entries) (leaves-then a b d (each_from client_lines 0 r.calls) (turns_lines r.turn) one two) three

-- the lines of a round, with the first
pub leaves-round : (a b d : List ℕ) (r : RoundSeen) → Leaves a (numbers line.Round ∷ []) b → Leaves b (body_lines r) d → Leaves a (round_lines r) d
leaves-round a b d r one two = leaves-then a b d (numbers line.Round ∷ []) (body_lines r) one two

-- ## All rounds

pub cycles-are : (rounds : List RoundSeen) → cycles_of (map noted_of rounds) ≡ length (entries_of rounds)
cycles-are [] = refl
cycles-are (r ∷ rs) = ap (λ n. length r.entries + n) (cycles-are rs) ∙ sym (length-append r.entries (entries_of rs))

pub taken-counted : (tracks : ℕ) (rounds : List RoundSeen) (noted : RoundsNoted) (entries : List CycleEntry) (frames : List Frame) → AreTaken tracks rounds noted entries frames → cycles_of noted.rounds ≡ length entries
taken-counted tracks rounds noted entries frames t =
    ap (λ (n : RoundsNoted). cycles_of n.rounds) t.noted_are ∙ cycles-are rounds ∙ sym (length-map (entries_of rounds) (λ (e : EntrySeen). e.entry)) ∙ ap length (sym t.entries_are)

pub taken-few : (tracks : ℕ) (rounds : List RoundSeen) (noted : RoundsNoted) (entries : List CycleEntry) (frames : List Frame) (start rest after : List ℕ) → AreTaken tracks rounds noted entries frames
    → Leaves start (flat_map round_lines rounds) rest → length start < 2 ^ 63 → length after < length rest → 2 * length entries + length after < 2 ^ 63
taken-few tracks rounds noted entries frames start rest after t l few shorter =
    let n = ap length l.text in let m = length-append (text_of_lines (flat_map round_lines rounds)) rest in let long = rounds-long rounds in
    let count = ap length t.entries_are ∙ length-map (entries_of rounds) (λ (e : EntrySeen). e.entry) in omega arith

pub taken-more : (tracks : ℕ) (rounds : List RoundSeen) (r : RoundSeen) (noted next : RoundsNoted) (entries es : List CycleEntry) (frames fs : List Frame) → AreTaken tracks rounds noted entries frames
    → AddsRound tracks noted entries frames r next es fs → AreTaken tracks (rounds ++ r ∷ []) next es fs
taken-more tracks rounds r noted next entries es frames fs t a =
    let all : entries_of (rounds ++ r ∷ []) ≡ entries_of rounds ++ r.entries = flat_map-append (λ (r : RoundSeen). r.entries) rounds (r ∷ []) ∙ ap (λ l. entries_of rounds ++ l) (append-nil r.entries) in
    let place : length frames ≡ length (frames_of (entries_of rounds)) = ap length t.frames_are in
    record {
      noted_are = a.noted_are ∙ ap (λ (n : RoundsNoted). record { tracks = n.tracks; rounds = n.rounds ++ noted_of r ∷ [] }) t.noted_are
          ∙ ap (λ (l : List RoundNoted). record { tracks = tracks; rounds = l }) (sym (map_last noted_of rounds r));
      entries_are = a.added.entries_are ∙ ap (λ l. l ++ map (λ (e : EntrySeen). e.entry) r.entries) t.entries_are ∙ sym (map-append (λ (e : EntrySeen). e.entry) (entries_of rounds) r.entries) ∙ ap (map (λ (e : EntrySeen). e.entry)) (sym all);
      frames_are = a.added.frames_are ∙ ap (λ l. l ++ frames_of r.entries) t.frames_are ∙ sym (flat_map-append (λ (e : EntrySeen). e.frames) (entries_of rounds) r.entries) ∙ ap frames_of (sym all);
      form = all-more (IsRound tracks) rounds r t.form a.form;
      each = subst (AreEntries 0) (sym all) (entries-append 0 (entries_of rounds) r.entries t.each (subst (λ n. AreEntries n r.entries) (place ∙ (let e : length (frames_of (entries_of rounds)) ≡ 0 + length (frames_of (entries_of rounds)) = omega arith in e)) a.added.form));
    }

-- ## The journal

seen-again : (place : ℕ) (es : List EntrySeen) → AreEntries place es → entries_seen (frames_of es) (map (λ (e : EntrySeen). e.entry) es) ≡ es
seen-again place [] are = refl
seen-again place (e ∷ es) are =
    let own : take (taken_by e.entry) (e.frames ++ frames_of es) ≡ e.frames = take_at e.frames (frames_of es) (taken_by e.entry) are.1 in
    let rest : drop (taken_by e.entry) (e.frames ++ frames_of es) ≡ frames_of es = drop_at e.frames (frames_of es) (taken_by e.entry) are.1 in
    (λ k. record { entry = e.entry; frames = own k } ∷ entries_seen (rest k) (map (λ (e : EntrySeen). e.entry) es))
    ∙ ap (λ l. e ∷ l) (seen-again (place + length e.frames) es are.3)

rounds-again : (rounds : List RoundSeen) → rounds_seen (entries_of rounds) (map noted_of rounds) ≡ rounds
rounds-again [] = refl
rounds-again (r ∷ rs) =
    let own : take (length r.entries) (r.entries ++ entries_of rs) ≡ r.entries = take_at r.entries (entries_of rs) (length r.entries) refl in
    let rest : drop (length r.entries) (r.entries ++ entries_of rs) ≡ entries_of rs = drop_at r.entries (entries_of rs) (length r.entries) refl in
    (λ k. record { calls = r.calls; turn = r.turn; entries = own k } ∷ rounds_seen (rest k) (map noted_of rs))
    ∙ ap (λ l. r ∷ l) (rounds-again rs)

module _ (tracks : ℕ) (rounds : List RoundSeen) (noted : RoundsNoted) (entries : List CycleEntry) (frames : List Frame) (t : AreTaken tracks rounds noted entries frames) (log : Logged) (entries_is : log.entries ≡ entries) (frames_is : log.frames ≡ frames) where
  log-seen : entries_seen log.frames log.entries ≡ entries_of rounds
  log-seen = (λ k. entries_seen ((frames_is ∙ t.frames_are) k) ((entries_is ∙ t.entries_are) k)) ∙ seen-again 0 (entries_of rounds) t.each

  pub journal-is : journal_of noted log ≡ record { tracks = tracks; rounds = rounds }
  journal-is =
      (λ k. record { tracks = (t.noted_are k).tracks; rounds = rounds_seen (log-seen k) (t.noted_are k).rounds })
      ∙ ap (λ (l : List RoundSeen). record { tracks = tracks; rounds = l }) (rounds-again rounds)

  pub journal-whole : IsWhole noted log
  journal-whole = (
    taken-counted tracks rounds noted entries frames t ∙ ap length (sym entries_is),
    ap frames_of log-seen ∙ sym (frames_is ∙ t.frames_are),
  )

  -- if the numbers of its lines fit
  pub journal-form : tracks < 2 ^ 32 → AllByRecursion IsWritten (flat_map round_lines rounds) → IsJournal (journal_of noted log)
  journal-form few fit = subst IsJournal (sym journal-is) (is_journal tracks rounds few t.form t.each fit)

-- ## Rounds of which so many entries, and looks at a track, are kept

-- the entries taken of them are few enough to be counted
pub read-fit : (tracks : ℕ) (reach : Reach) (start rest : List ℕ) (at : End) (noted : RoundsNoted) (entries : List CycleEntry) (frames : List Frame) → AreRead tracks reach start at noted entries frames rest → length start < 2 ^ 63 → cycles_of noted.rounds < 2 ^ 62
read-fit tracks reach start rest at noted entries frames r few =
    let l = r.lines in
    let n = ap length l.text in let m = length-append (text_of_lines (flat_map round_lines r.rounds)) rest in let long = rounds-long r.rounds in
    let kept = map (first_of_round reach.kept) r.rounds in
    let count = taken-counted tracks kept noted entries frames r.taken in
    let many = ap length r.taken.entries_are ∙ length-map (entries_of kept) (λ (e : EntrySeen). e.entry) in
    let fewer = rounds_few reach.kept r.rounds in omega (arith, n, m, long, count, many, fewer, few)

-- no round was read yet
pub read-none : (tracks : ℕ) (reach : Reach) (start : List ℕ) (noted : RoundsNoted) (entries : List CycleEntry) (frames : List Frame) → AreTaken tracks [] noted entries frames → AreRead tracks reach start why.Last noted entries frames start
read-none tracks reach start noted entries frames taken = record { rounds = []; taken = taken; form = All-nil (IsRound tracks); lines = leaves-none start; ends = refl }

pub last_is : (at : End) → is_last at ≡ true → at ≡ why.Last
last_is why.Last is = refl
last_is why.Enough is = cc
last_is (why.Beyond full) is = cc

-- if rounds are read on, nothing of them is left out
pub read-whole : (tracks : ℕ) (reach : Reach) (start rest : List ℕ) (at : End) (noted : RoundsNoted) (entries : List CycleEntry) (frames : List Frame) → at ≡ why.Last → (r : AreRead tracks reach start at noted entries frames rest) → AreTaken tracks r.rounds noted entries frames
read-whole tracks reach start rest why.Last noted entries frames is r = subst (λ (l : List RoundSeen). AreTaken tracks l noted entries frames) r.ends r.taken
read-whole tracks reach start rest why.Enough noted entries frames is r = absurd (let h = is in cc)
read-whole tracks reach start rest (why.Beyond full) noted entries frames is r = absurd (let h = is in cc)

-- one round more was read
module _ (tracks : ℕ) (reach : Reach) (few : (reach.entries < reach.kept) × (reach.looks < reach.kept)) (start before mid after : List ℕ) (noted next : RoundsNoted) (entries es : List CycleEntry) (frames fs : List Frame)
    (read : RoundRead) (r : AreRead tracks reach start why.Last noted entries frames before) (one : Leaves before (numbers line.Round ∷ []) mid) (s : ReadsRound tracks reach.kept noted entries frames mid next es fs after)
    (beyond : read.beyond ≡ is_beyond reach.entries reach.looks (first_of_round reach.kept s.round)) (full : read.full ≡ (length s.round.entries == reach.kept)) where
  abbrev first : RoundSeen → RoundSeen
  first = first_of_round reach.kept

  equal_is : (n m : ℕ) → (n == m) ≡ true → n ≡ m
  equal_is n m e = grind (arith, nat_tests, e)

  all_whole : read.beyond ≡ false → map first (r.rounds ++ s.round ∷ []) ≡ r.rounds ++ s.round ∷ []
  all_whole not = map_last first r.rounds s.round ∙ (λ k. r.ends k ++ round_whole reach.kept reach.entries reach.looks few.0 few.1 s.round (sym beyond ∙ not) k ∷ [])

  ends : (at : End) → EndsBy reach.cycles read at → AreUpTo reach (r.rounds ++ s.round ∷ []) at
  ends why.Last by = all_whole by
  ends why.Enough by = (all_whole by.0, by.1)
  ends (why.Beyond told) by = record {
    before = r.rounds;
    last = s.round;
    are = refl;
    others = r.ends;
    few = s.few;
    full_is = λ is. equal_is (length s.round.entries) reach.kept (sym full ∙ sym by.1 ∙ is);
    beyond = sym beyond ∙ by.0;
  }

  pub read-more : (at : End) → EndsBy reach.cycles read at → AreRead tracks reach start at next es fs after
  read-more at by = record {
    rounds = r.rounds ++ s.round ∷ [];
    taken = subst (λ (l : List RoundSeen). AreTaken tracks l next es fs) (sym (map_last first r.rounds s.round)) (taken-more tracks (map first r.rounds) (first s.round) noted next entries es frames fs r.taken s.adds);
    form = all-more (IsRound tracks) r.rounds s.round r.form s.form;
    lines = leaves-more round_lines start before after r.rounds s.round r.lines (leaves-round before mid after s.round one s.lines);
    ends = ends at by;
  }
