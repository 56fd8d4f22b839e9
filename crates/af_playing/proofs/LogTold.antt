-- A log by all rounds is the log of their journal.
use Rattle.std.proofs.Common.{◌≡◌, ℕ, zero, suc, ◌+◌, ◌≤◌, All, Bool, true, false, Option, Some, None, List, [], ◌∷◌, length, map, take, drop, refl, sym, ap, ◌∙◌, arith}
use Rattle.af_playing.proofs.Common.{EntrySeen, IsWhole, JournalData, Logged, LoggingState, LogsPlay, MixerState, RoundNoted, RoundSeen, RoundsNoted, TellsLog, count_refused, cycles_of, dealt, entries_of, entries_seen, flat_map-cons, journal_of, length-drop, length-take, most_cycles, notes_kept, rounds_seen, same_entries}
use Rattle.af_playing.specs.PlayedStages.{kept_in}
use Rattle.std.specs.List.{flat_map}
use Rattle.std.proofs.lemmas.List.Elements.{All-head, All-tail}
use Rattle.af_model.proofs.Basics.{same_length}
use Rattle.af_nblog.specs.NoteRounds.{count_accepted}
use Rattle.af_nblog.proofs.Refusals.{none_refused}
use Rattle.af_side_by_side.proofs.LogNotes.{refused_more}

-- each round of a journal has the entries that its round was noted with
rounds_long : (entries : List EntrySeen) (rounds : List RoundNoted) → cycles_of rounds ≡ length entries → map (λ (r : RoundSeen). length r.entries) (rounds_seen entries rounds) ≡ map (λ (r : RoundNoted). r.cycles) rounds
rounds_long entries [] same = refl
rounds_long entries (r ∷ rs) same =
    let left = length-drop r.cycles entries in
    let here : length (take r.cycles entries) ≡ r.cycles = omega (arith, length-take r.cycles entries, same) in
    λ i. here i ∷ rounds_long (drop r.cycles entries) rs (omega (arith, left, same)) i

-- the notes of a round are those accepted and those refused
round_whole : (round : List Bool) → count_accepted round + count_refused round ≡ length round
round_whole [] = refl
round_whole (true ∷ round) = let e = round_whole round in omega arith
round_whole (false ∷ round) = let e = round_whole round in omega arith

-- if all notes were accepted none was refused
all_accepted : (rounds : List (List Bool)) → All (λ (round : List Bool). count_accepted round ≡ length round) rounds → count_refused (flat_map (λ (round : List Bool). round) rounds) ≡ 0
all_accepted [] all = refl
all_accepted (round ∷ rounds) all =
    let here = All-head (λ (r : List Bool). count_accepted r ≡ length r) round rounds all in
    let rest = all_accepted rounds (All-tail (λ (r : List Bool). count_accepted r ≡ length r) round rounds all) in
    let whole = round_whole round in
    let both = refused_more round (flat_map (λ (r : List Bool). r) rounds) in
    ap count_refused (flat_map-cons (λ (r : List Bool). r) round rounds) ∙ omega (arith, here, rest, whole, both)

-- a log by all rounds is the log of their journal
pub tells_log : (kept : Option ℕ) (frames : ℕ) (m : MixerState) (noted : RoundsNoted) (j : JournalData) (l : LoggingState) → LogsPlay kept m noted.rounds l → IsWhole noted m.log → m.frames ≡ frames → length m.log.entries ≤ m.cycles → j ≡ journal_of noted m.log
    → TellsLog kept frames j l
tells_log None frames m noted j l is whole frames_are few journal = is
tells_log (Some room) frames m noted j l h whole frames_are few journal =
    let x = h.logged in
    let log : Logged = m.log in
    let outcomes : List Bool = flat_map (λ (round : List Bool). round) x.outcomes in
    let entries : map (λ (e : EntrySeen). e.entry) (entries_of j.rounds) ≡ log.entries =
    ap (λ (y : JournalData). map (λ (e : EntrySeen). e.entry) (entries_of y.rounds)) journal ∙ ap (λ (es : List EntrySeen). map (λ (e : EntrySeen). e.entry) es) (dealt noted log whole.0) ∙ same_entries log.frames log.entries in
    let rounds : map (λ (r : RoundSeen). length r.entries) j.rounds ≡ map (λ (r : RoundNoted). r.cycles) noted.rounds =
    ap (λ (y : JournalData). map (λ (r : RoundSeen). length r.entries) y.rounds) journal ∙ rounds_long (entries_seen log.frames log.entries) noted.rounds (whole.0 ∙ sym (same_length log.frames log.entries)) in
    let items = ap length x.kept_is in
    let left = x.left in
    let count = x.noted in
    let space = x.space in
    record {
      block = h.block;
      size = h.size;
      room_is = h.room_is;
      ends = h.ends;
      is_log = record {
        outcomes = x.outcomes;
        each = x.each ∙ sym rounds;
        notes_are = x.notes_are ∙ (λ i. notes_kept (frames_are i) 0 (sym entries i) outcomes);
        count = x.count;
        late = x.between.late;
      };
      none = (λ wide. x.count ∙ all_accepted x.outcomes (none_refused room most_cycles 0 x.outcomes wide (omega arith) x.few x.between.late));
      rounds = x.outcomes;
      between = x.between;
      kept = x.kept_is;
      space = omega (arith, items, left, count, space, few);
    }

-- a log with room for some notes is kept
pub kept_is : (room : ℕ) → 1 ≤ room → kept_in room ≡ Some room
kept_is zero some = absurd (omega (arith, some))
kept_is (suc n) some = refl
