-- What is noted of a text begins as what is kept of its reading.
use Rattle.std.proofs.Common.{◌≡◌, ℕ, ◌+◌, ◌-◌, ◌<◌, ◌≤◌, ◌^◌, nat_lt, Bool, true, false, cond, List, [], ◌∷◌, ◌++◌, length, map, take, None, refl, ap, ◌∙◌, sym, subst, arith, All, append-nil, append_assoc, length-append}
use Rattle.af_journal.proofs.Common.{All-append, All-cons, All-head, All-nil, All-tail, AllByRecursion, AreEntries, ClientCall, CycleEntry, EntrySeen, FitsEntry, Frame, IsRound, JournalData, RoundSeen, RoundsNoted, calls_in, entries_of, flat_map, flat_map-append, frames_of, is_lawful_block, is_poke_on, list_any, map-append, marks_of, nat_tests, take_all, take_at, true≢false}
use Rattle.af_journal.proofs.Basics.{fit-append}
use Rattle.af_journal.specs.declared.reach.End.{End}
use Rattle.af_journal.specs.declared.reach.End.TheVariants as why
use Rattle.af_journal.specs.declared.reach.Reach.{Reach}
use Rattle.af_journal.specs.declared.stage.Stage.TheVariants as stage
use Rattle.af_journal.specs.Beginnings.{AreRead, IsFrontOf, LastIsBeyond, NotesBy, NotesRest, PokesAsAll, is_last}
use Rattle.af_journal.specs.Judged.{EndsBeyond, first_of_round}
use Rattle.af_journal.specs.declared.line.Line.TheVariants as line
use Rattle.af_journal.specs.Lines.{Written, numbers}
use Rattle.af_journal.specs.Pokes.{PokeJust, pokes}
use Rattle.af_journal.specs.Ranges.{IsWritten}
use Rattle.af_journal.specs.Readings.{Reads}
use Rattle.af_journal.specs.Taken.{AddsEntries, AddsRound, AreTaken, Leaves}
use Rattle.af_journal.specs.Texts.{entry_lines, fast_lines, each_from, client_lines, turns_lines, round_lines, text_of_lines}
use Rattle.af_journal.proofs.EntriesRead.{adds-none, entries-append}
use Rattle.af_journal.proofs.Fitting.{is_journal, round_fits}
use Rattle.af_journal.proofs.InOrder.{FollowsFrom}
use Rattle.af_journal.proofs.JournalOf.{left}
use Rattle.af_journal.proofs.Judged.{fits-parts, further_left, lawful-same, rounds_fit}
use Rattle.af_journal.proofs.Leaving.{leaves-as, leaves-then}
use Rattle.af_journal.proofs.OneJournal.{one-reading}
use Rattle.af_journal.proofs.PokeLines.{entries-poke, in-place, none-beyond, one-for_all, past-end}
use Rattle.af_journal.proofs.RoundsLeft.{EntriesLeft, RoundsLeft}
use Rattle.af_journal.proofs.RoundsRead.{taken-more}

-- ## The rest of a text

-- the calls of a round poke what these rounds poke, behind further entries
module _ (tracks : ℕ) (clients : List (List ClientCall)) (further : List EntrySeen) (rounds : List RoundSeen) (form : All (IsRound tracks) rounds) (just : PokeJust tracks (λ block track. pokes block track 0 (flat_map entry_lines further ++ flat_map round_lines rounds)) clients) where
  abbrev poking : RoundSeen
  poking = record { calls = clients; turn = None; entries = [] }

  poke-same : (commands : Bool) (track : ℕ) → is_lawful_block commands (poking ∷ []) track ≡ is_lawful_block commands rounds track
  poke-same commands track = one-for_all commands track poking rounds (by_place (nat_lt track tracks) refl)
    where
      by_place : (b : Bool) → nat_lt track tracks ≡ b → list_any (is_poke_on commands) (calls_in poking track) ≡ list_any (λ round. list_any (is_poke_on commands) (calls_in round track)) rounds
      by_place true is = just.each commands track (grind (arith, nat_tests, is)) ∙ entries-poke commands track 0 further rounds
      by_place false is =
          let beyond : tracks ≤ track = grind (arith, nat_tests, is) in
          let many = just.many in
          ap (list_any (is_poke_on commands)) (past-end commands track clients track (omega (arith, many, beyond))) ∙ sym (none-beyond commands track tracks rounds form beyond)

-- further entries, if the round before is full, and rounds
record LeftBy (tracks place : ℕ) (full : Bool) (ws : List Written) : Type 0 where
  left : EntriesLeft tracks place ws
  none : full ≡ false → left.es ≡ []

left_by : (tracks place : ℕ) (rest : List ℕ) (full : Bool) (f : FollowsFrom tracks (cond full stage.Entries stage.Nothing) rest) → LeftBy tracks place full f.ws
left_by tracks place rest true f = record { left = left tracks place stage.Entries f.last f.ws f.fit f.follow f.may; none = λ e. absurd (true≢false e) }
left_by tracks place rest false f =
    let r : RoundsLeft tracks place f.ws = left tracks place stage.Nothing f.last f.ws f.fit f.follow f.may in
    record { left = record { es = []; rounds = r.rounds; form = r.form; are = r.are; lines = r.lines }; none = λ e. refl }

-- the lines of the rest may follow
pub rest_noted : (tracks place : ℕ) (rest : List ℕ) (full : Bool) (clients : List (List ClientCall)) (noted new_noted : RoundsNoted) → FollowsFrom tracks (cond full stage.Entries stage.Nothing) rest
    → ((ws : List Written) → AllByRecursion IsWritten ws → rest ≡ text_of_lines ws → PokeJust tracks (λ block track. pokes block track 0 ws) clients)
    → new_noted ≡ record noted { rounds = noted.rounds ++ record { calls = clients; turn = None; cycles = 0 } ∷ [] } → NotesRest tracks place rest full noted new_noted
rest_noted tracks place rest full clients noted new_noted f just is =
    let by = left_by tracks place rest full f in
    let l = by.left in
    let poked = subst (λ ws. PokeJust tracks (λ block track. pokes block track 0 ws) clients) l.lines (just f.ws f.fit f.is) in
    let all = flat_map entry_lines l.es ++ flat_map round_lines l.rounds in
    record {
      further = l.es;
      more = l.rounds;
      form = l.form;
      entries = l.are;
      lines = record { text = f.is ∙ ap text_of_lines l.lines ∙ sym (append-nil (text_of_lines all)); fits = subst (AllByRecursion IsWritten) l.lines f.fit };
      none = by.none;
      pokes = record {
        round = poking tracks clients l.es l.rounds l.form poked;
        still = refl;
        form = record { calls = poked.many; turn = tt };
        numbers = ((poked.numbers, tt), All-nil (λ (e : EntrySeen). FitsEntry e.entry));
        noted_are = is;
        marks = poke-same tracks clients l.es l.rounds l.form poked;
      };
    }

-- ## The reading

module _ (tracks : ℕ) (few : tracks < 2 ^ 32) (reach : Reach) (text rest : List ℕ) (noted next : RoundsNoted) (entries : List CycleEntry) (frames : List Frame) where
  abbrev first : RoundSeen → RoundSeen
  first = first_of_round reach.kept

  -- what was noted, with the rest
  pub record Begun (whole : Bool) : Type 0 where
    pub rounds_are : List RoundSeen
    pub taken_are : AreTaken tracks rounds_are next entries frames
    pub fits : AllByRecursion IsWritten (flat_map round_lines rounds_are)
    pub front : IsFrontOf reach.kept tracks text whole (record { tracks = tracks; rounds = rounds_are })
    pub beyond : whole ≡ false → reach.cycles ≡ None → EndsBeyond reach.entries reach.looks (record { tracks = tracks; rounds = rounds_are })

  -- the rounds of a text are its one reading
  module _ (rounds : List RoundSeen) (form : All (IsRound tracks) rounds) (each : AreEntries 0 (entries_of rounds)) (lines : Leaves text (flat_map round_lines rounds) []) where
    abbrev reading : JournalData
    reading = record { tracks = tracks; rounds = rounds }

    reads : Reads tracks text reading
    reads = (record { tracks_are = refl; form = is_journal tracks rounds few form each lines.fits }, lines.text ∙ append-nil (text_of_lines (flat_map round_lines rounds)))

    only : (other : JournalData) → Reads tracks text other → other ≡ reading
    only other r = one-reading tracks text other reading r reads

  -- all of the text was noted
  begun_whole : (rounds : List RoundSeen) → AreTaken tracks rounds noted entries frames → All (IsRound tracks) rounds → Leaves text (flat_map round_lines rounds) rest → map first rounds ≡ rounds → rest ≡ [] → next ≡ noted → Begun true
  begun_whole rounds taken form lines whole none same =
      let all = subst (Leaves text (flat_map round_lines rounds)) none lines in
      record {
        rounds_are = rounds;
        taken_are = subst (λ noted. AreTaken tracks rounds noted entries frames) (sym same) taken;
        fits = lines.fits;
        front = record {
          reading = reading rounds form taken.each all;
          reads = reads rounds form taken.each all;
          only = only rounds form taken.each all;
          tracks_are = refl;
          same = λ is. (refl, ap (λ (l : List RoundSeen). record { tracks = tracks; rounds = l }) whole);
          begins = λ is. absurd (true≢false is);
        };
        beyond = λ is. absurd (true≢false is);
      }

  -- what is kept of the first rounds, and a round that pokes what the others poke
  begun_poking : (kept actual more : List RoundSeen) → PokesAsAll tracks more noted next → map first actual ≡ kept → AreTaken tracks kept noted entries frames
      → All (IsRound tracks) actual → All (IsRound tracks) more → AreEntries 0 (entries_of actual ++ entries_of more) → Leaves text (flat_map round_lines actual ++ flat_map round_lines more) []
      → ((q : RoundSeen) → reach.cycles ≡ None → EndsBeyond reach.entries reach.looks (record { tracks = tracks; rounds = kept ++ q ∷ [] })) → Begun false
  begun_poking kept actual more p kept_are taken form more_form each lines beyond =
      let q = p.round in
      let all = actual ++ more in
      let all_form : All (IsRound tracks) all = All-append (IsRound tracks) actual more form more_form in
      let all_each : AreEntries 0 (entries_of all) = subst (AreEntries 0) (sym (flat_map-append (λ (r : RoundSeen). r.entries) actual more)) each in
      let all_lines : Leaves text (flat_map round_lines all) [] = subst (λ l. Leaves text l []) (sym (flat_map-append round_lines actual more)) lines in
      let adds : AddsRound tracks noted entries frames q next entries frames = record { noted_are = p.noted_are; added = subst (λ es. AddsEntries entries frames es entries frames) (sym p.still) (adds-none entries frames); form = p.form } in
      let own_fits : AllByRecursion IsWritten (flat_map round_lines kept) = subst (λ (l : List RoundSeen). AllByRecursion IsWritten (flat_map round_lines l)) kept_are (rounds_fit reach.kept actual (fits-parts (flat_map round_lines actual) (flat_map round_lines more) lines.fits).0) in
      let more_lines : flat_map round_lines (kept ++ q ∷ []) ≡ flat_map round_lines kept ++ round_lines q = flat_map-append round_lines kept (q ∷ []) ∙ ap (λ l. flat_map round_lines kept ++ l) (append-nil (round_lines q)) in
      let long : length (kept ++ q ∷ []) - 1 ≡ length kept = (let h = length-append kept (q ∷ []) in omega (arith, h)) in
      let judged : map first all ≡ kept ++ map first more = map-append first actual more ∙ ap (λ l. l ++ map first more) kept_are in
      let poked : (commands : Bool) (track : ℕ) → is_lawful_block commands (kept ++ q ∷ []) track ≡ is_lawful_block commands (kept ++ map first more) track =
      λ commands track. in-place commands track kept (q ∷ []) (map first more) (p.marks commands track ∙ sym (lawful-same reach.kept track commands more)) in
      record {
        rounds_are = kept ++ q ∷ [];
        taken_are = taken-more tracks kept q noted next entries entries frames frames taken adds;
        fits = subst (AllByRecursion IsWritten) (sym more_lines) (fit-append (flat_map round_lines kept) (round_lines q) own_fits (round_fits tracks 0 q (omega (arith, few)) p.form (subst (AreEntries 0) (sym p.still) tt) p.numbers));
        front = record {
          reading = reading all all_form all_each all_lines;
          reads = reads all all_form all_each all_lines;
          only = only all all_form all_each all_lines;
          tracks_are = refl;
          same = λ is. absurd (true≢false (sym is));
          begins = λ is. record {
            first = ap (λ k. take k (kept ++ q ∷ [])) long ∙ take_at kept (q ∷ []) (length kept) refl ∙ sym (take_at kept (map first more) (length kept) refl) ∙ ap (λ k. take k (kept ++ map first more)) (sym long)
                ∙ ap (λ l. take (length (kept ++ q ∷ []) - 1) l) (sym judged);
            marks = (λ i. record { streams = λ track. poked false track i; commands = λ track. poked true track i }) ∙ ap marks_of (sym judged);
          };
        };
        beyond = λ is. beyond q;
      }

  -- nothing further is left of the last round
  place_of_all : (kept : List RoundSeen) → AreTaken tracks kept noted entries frames → length frames ≡ 0 + length (frames_of (entries_of kept))
  place_of_all kept taken = ap length taken.frames_are ∙ (let e : length (frames_of (entries_of kept)) ≡ 0 + length (frames_of (entries_of kept)) = omega arith in e)

  module _ (rounds : List RoundSeen) (taken : AreTaken tracks (map first rounds) noted entries frames) (form : All (IsRound tracks) rounds) (lines : Leaves text (flat_map round_lines rounds) rest) (same : entries_of (map first rounds) ≡ entries_of rounds)
      (beyond : (q : RoundSeen) → reach.cycles ≡ None → EndsBeyond reach.entries reach.looks (record { tracks = tracks; rounds = map first rounds ++ q ∷ [] })) where
    -- the entries of the rounds, and those that are left
    all_entries : (left : List EntrySeen) → AreEntries (length frames) left → AreEntries 0 (entries_of rounds ++ left)
    all_entries left are =
        subst (λ es. AreEntries 0 (es ++ left)) same (entries-append 0 (entries_of (map first rounds)) left taken.each (subst (λ k. AreEntries k left) (place_of_all (map first rounds) taken) are))

    begun_still : (full : Bool) (n : NotesRest tracks (length frames) rest full noted next) → n.further ≡ [] → Begun false
    begun_still full n none =
        let more_lines : Leaves rest (flat_map round_lines n.more) [] = subst (λ (es : List EntrySeen). Leaves rest (flat_map entry_lines es ++ flat_map round_lines n.more) []) none n.lines in
        let more_each : AreEntries (length frames) (entries_of n.more) = subst (λ (es : List EntrySeen). AreEntries (length frames) (es ++ entries_of n.more)) none n.entries in
        begun_poking (map first rounds) rounds n.more n.pokes refl taken form n.form (all_entries (entries_of n.more) more_each) (leaves-then text rest [] (flat_map round_lines rounds) (flat_map round_lines n.more) lines more_lines) beyond

  -- further entries of the last round are
  module _ (before : List RoundSeen) (last : RoundSeen) (further : List EntrySeen) where
    abbrev with_further : RoundSeen
    with_further = record { calls = last.calls; turn = last.turn; entries = last.entries ++ further }

    further_entries : entries_of (before ++ with_further ∷ []) ≡ entries_of (before ++ last ∷ []) ++ further
    further_entries =
        flat_map-append (λ (r : RoundSeen). r.entries) before (with_further ∷ []) ∙ ap (λ l. entries_of before ++ l) (append-nil (last.entries ++ further)) ∙ sym (append_assoc (entries_of before) last.entries further)
        ∙ ap (λ l. l ++ further) (ap (λ l. entries_of before ++ l) (sym (append-nil last.entries)) ∙ sym (flat_map-append (λ (r : RoundSeen). r.entries) before (last ∷ [])))

    further_fast : (es : List EntrySeen) → 1 ≤ length es → fast_lines (es ++ further) ≡ fast_lines es ++ flat_map entry_lines further
    further_fast [] some = absurd (omega (arith, some))
    further_fast (e ∷ es) some = ap (λ l. numbers line.Fast ∷ l) (flat_map-append entry_lines (e ∷ es) further)

    further_round : 1 ≤ length last.entries → round_lines with_further ≡ round_lines last ++ flat_map entry_lines further
    further_round some =
        let parties = each_from client_lines 0 last.calls ++ turns_lines last.turn in
        ap (λ l. numbers line.Round ∷ (parties ++ l)) (further_fast last.entries some) ∙ ap (λ l. numbers line.Round ∷ l) (sym (append_assoc parties (fast_lines last.entries) (flat_map entry_lines further)))

    further_lines : 1 ≤ length last.entries → flat_map round_lines (before ++ with_further ∷ []) ≡ flat_map round_lines (before ++ last ∷ []) ++ flat_map entry_lines further
    further_lines some =
        flat_map-append round_lines before (with_further ∷ []) ∙ ap (λ l. flat_map round_lines before ++ l) (append-nil (round_lines with_further) ∙ further_round some) ∙ sym (append_assoc (flat_map round_lines before) (round_lines last) (flat_map entry_lines further))
        ∙ ap (λ l. l ++ flat_map entry_lines further) (ap (λ l. flat_map round_lines before ++ l) (sym (append-nil (round_lines last))) ∙ sym (flat_map-append round_lines before (last ∷ [])))

    further_form : All (IsRound tracks) (before ++ last ∷ []) → All (IsRound tracks) (before ++ with_further ∷ [])
    further_form all = more_form before all
      where
        more_form : (rounds : List RoundSeen) → All (IsRound tracks) (rounds ++ last ∷ []) → All (IsRound tracks) (rounds ++ with_further ∷ [])
        more_form [] all = let own = All-head (IsRound tracks) last [] all in All-cons (IsRound tracks) with_further [] (record { calls = own.calls; turn = own.turn }) (All-nil (IsRound tracks))
        more_form (r ∷ rounds) all = All-cons (IsRound tracks) r (rounds ++ with_further ∷ []) (All-head (IsRound tracks) r (rounds ++ last ∷ []) all) (more_form rounds (All-tail (IsRound tracks) r (rounds ++ last ∷ []) all))

    further_kept : length last.entries ≡ reach.kept → map first (before ++ with_further ∷ []) ≡ map first (before ++ last ∷ [])
    further_kept full = map-append first before (with_further ∷ []) ∙ ap (λ r. map first before ++ r ∷ []) (further_left reach.kept last further full) ∙ sym (map-append first before (last ∷ []))

  -- the last round was not kept whole
  module _ (some : 1 ≤ reach.kept) (full : Bool) (rounds : List RoundSeen) (l : LastIsBeyond reach full rounds) where
    kept_form : map first rounds ≡ l.before ++ first l.last ∷ []
    kept_form = ap (map first) l.are ∙ map-append first l.before (l.last ∷ []) ∙ ap (λ b. b ++ first l.last ∷ []) l.others

    of_last : (r : RoundSeen) → entries_of (l.before ++ r ∷ []) ≡ entries_of l.before ++ r.entries
    of_last r = flat_map-append (λ (r : RoundSeen). r.entries) l.before (r ∷ []) ∙ ap (λ es. entries_of l.before ++ es) (append-nil r.entries)

    kept_entries : entries_of (map first rounds) ≡ entries_of rounds
    kept_entries =
        ap entries_of kept_form ∙ of_last (first l.last) ∙ ap (λ es. entries_of l.before ++ es) (take_all reach.kept l.last.entries l.few) ∙ sym (of_last l.last) ∙ ap entries_of (sym l.are)

    ends_beyond : (q : RoundSeen) → reach.cycles ≡ None → EndsBeyond reach.entries reach.looks (record { tracks = tracks; rounds = map first rounds ++ q ∷ [] })
    ends_beyond q none = record {
      before = l.before;
      round = first l.last;
      last = q;
      rounds_are = ap (λ rs. rs ++ q ∷ []) kept_form ∙ append_assoc l.before (first l.last ∷ []) (q ∷ []);
      beyond = l.beyond;
    }

    begun_further : (taken : AreTaken tracks (map first rounds) noted entries frames) → All (IsRound tracks) rounds → Leaves text (flat_map round_lines rounds) rest → full ≡ true → NotesRest tracks (length frames) rest full noted next → Begun false
    begun_further taken form lines is n =
        let count : length l.last.entries ≡ reach.kept = l.full_is is in
        let actual = l.before ++ with_further l.before l.last n.further ∷ [] in
        let kept_are : map first actual ≡ map first rounds = further_kept l.before l.last n.further count ∙ ap (map first) (sym l.are) in
        let are_entries : AreEntries 0 (entries_of rounds ++ (n.further ++ entries_of n.more)) = all_entries rounds taken form lines kept_entries ends_beyond (n.further ++ entries_of n.more) n.entries in
        let own_entries : entries_of actual ≡ entries_of rounds ++ n.further = further_entries l.before l.last n.further ∙ ap (λ (rs : List RoundSeen). entries_of rs ++ n.further) (sym l.are) in
        let each : AreEntries 0 (entries_of actual ++ entries_of n.more) = subst (AreEntries 0) (sym (append_assoc (entries_of rounds) n.further (entries_of n.more)) ∙ ap (λ es. es ++ entries_of n.more) (sym own_entries)) are_entries in
        let own_lines : flat_map round_lines actual ≡ flat_map round_lines rounds ++ flat_map entry_lines n.further = further_lines l.before l.last n.further (omega (arith, count, some)) ∙ ap (λ (rs : List RoundSeen). flat_map round_lines rs ++ flat_map entry_lines n.further) (sym l.are) in
        let all_lines : Leaves text (flat_map round_lines actual ++ flat_map round_lines n.more) [] =
        leaves-as text [] (flat_map round_lines rounds ++ (flat_map entry_lines n.further ++ flat_map round_lines n.more)) (flat_map round_lines actual ++ flat_map round_lines n.more)
        (sym (append_assoc (flat_map round_lines rounds) (flat_map entry_lines n.further) (flat_map round_lines n.more)) ∙ ap (λ ws. ws ++ flat_map round_lines n.more) (sym own_lines))
        (leaves-then text rest [] (flat_map round_lines rounds) (flat_map entry_lines n.further ++ flat_map round_lines n.more) lines n.lines) in
        begun_poking (map first rounds) actual n.more n.pokes kept_are taken (further_form l.before l.last n.further (subst (All (IsRound tracks)) l.are form)) n.form each all_lines ends_beyond

    begun_beyond : (taken : AreTaken tracks (map first rounds) noted entries frames) → All (IsRound tracks) rounds → Leaves text (flat_map round_lines rounds) rest → (b : Bool) → full ≡ b → NotesRest tracks (length frames) rest full noted next → Begun false
    begun_beyond taken form lines true is n = begun_further taken form lines is n
    begun_beyond taken form lines false is n = begun_still rounds taken form lines kept_entries ends_beyond full n (n.none is)

  pub begun : 1 ≤ reach.kept → (at : End) → AreRead tracks reach text at noted entries frames rest → NotesBy tracks rest at noted next → Begun (is_last at)
  begun some why.Last r n = begun_whole r.rounds (subst (λ (l : List RoundSeen). AreTaken tracks l noted entries frames) r.ends r.taken) r.form r.lines r.ends n.0 n.1
  begun some why.Enough r n =
      let m = n (length frames) in
      begun_still r.rounds r.taken r.form r.lines (ap entries_of r.ends.0) (λ q none. absurd (r.ends.1 none)) false m (m.none refl)
  begun some (why.Beyond full) r n = begun_beyond some full r.rounds r.ends r.taken r.form r.lines full refl (n (length frames))
