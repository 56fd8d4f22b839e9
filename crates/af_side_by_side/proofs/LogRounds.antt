-- A log goes on by a round: the entries of the round were noted, the other party read, and the two ends met.
use Rattle.std.proofs.Common.{◌≡◌, ℕ, ◌+◌, ◌≤◌, Bool, MatchOption, Option, Some, None, List, [], ◌∷◌, ◌++◌, length, drop, sym, ap, ◌∙◌, subst, arith, length-append, inl, inr}
use Rattle.af_side_by_side.proofs.Common.{All-append, All-cons, All-nil, AreEnds, AreInOrder, AuditorState, CycleEntry, HasAudited, HasBothLogged, HasDrained, HasEnds, HasLogged, HasMetLog, IsAuditor, IsBetween, IsLogged, IsScribe, Logged, LoggingState, Logs, LogsPlay, Made, MixerState, Note, ReaderState, Roomy, RoundNoted, ScribeState, WriterState, accepted, append-nil, count_refused, drop-append_seam, flat_map, map-append, most_cycles, no_log, notes_kept, read}
use Rattle.std.proofs.lemmas.List.Concat.{flat_map-append}
use Rattle.af_side_by_side.proofs.LogNotes.{kept_count, kept_more, refused_more}

-- the outcomes of all rounds, one after the other
abbrev flat : List (List Bool) → List Bool
flat outcomes = flat_map (λ (round : List Bool). round) outcomes

-- the outcomes of one round more stand behind those of the rounds before
flat_more : (outcomes : List (List Bool)) (round : List Bool) → flat (outcomes ++ round ∷ []) ≡ flat outcomes ++ round
flat_more outcomes round = flat_map-append (λ (r : List Bool). r) outcomes (round ∷ []) ∙ ap (λ (l : List Bool). flat outcomes ++ l) (append-nil round)

module _ (room : ℕ) (m m' : MixerState) (rounds : List RoundNoted) (r : RoundNoted) (more : List CycleEntry) (w v w' : WriterState) (q q' : ReaderState) (notes notes' : Roomy Note) (before : IsLogged room m rounds w q notes) (logs : Logs (length m.log.entries) m' w v) (frames : m'.frames ≡ m.frames) (cycles : m'.cycles ≡ m.cycles) (grown : m'.log.entries ≡ m.log.entries ++ more) (count : r.cycles ≡ length more) (few : length more ≤ most_cycles) (same : accepted w' ≡ accepted v) (refused_same : w'.refused ≡ v.refused) (space : notes'.room ≡ notes.room) (kept : notes'.items ≡ read q') (order : AreInOrder (accepted w') (read q')) (between : IsBetween room (before.outcomes ++ logs.outcomes ∷ []) w' q') where
  all_notes : accepted w' ≡ notes_kept m'.frames 0 m'.log.entries (flat (before.outcomes ++ logs.outcomes ∷ []))
  all_notes =
      let n : ℕ = length m.log.entries in
      let first : List Bool = flat before.outcomes in
      let back : drop n m'.log.entries ≡ more = ap (drop n) grown ∙ drop-append_seam m.log.entries more in
      same ∙ logs.notes
      ∙ ap (λ (es : List CycleEntry). accepted w ++ notes_kept m'.frames n es logs.outcomes) back
      ∙ ap (λ (ns : List Note). ns ++ notes_kept m'.frames n more logs.outcomes) (before.notes_are ∙ ap (λ (f : ℕ). notes_kept f 0 m.log.entries first) (sym frames))
      ∙ ap (λ (p : ℕ). notes_kept m'.frames 0 m.log.entries first ++ notes_kept m'.frames p more logs.outcomes) (let e : n ≡ 0 + n = omega arith in e)
      ∙ sym (kept_more m'.frames 0 m.log.entries more first logs.outcomes (sym before.all))
      ∙ ap (λ (x : List CycleEntry × List Bool). notes_kept m'.frames 0 x.0 x.1) (λ i. (sym grown i, sym (flat_more before.outcomes logs.outcomes) i))

  pub log_more : IsLogged room m' (rounds ++ r ∷ []) w' q' notes'
  log_more =
      let own = logs.each in
      let long_log = ap length grown ∙ length-append m.log.entries more in
      let one : length logs.outcomes ≡ r.cycles = omega (arith, own, long_log, count) in
      let long = length-append (read q') order.left in
      let together = ap length order.together in
      let counted = refused_more (flat before.outcomes) logs.outcomes in
      let counted_all : count_refused (flat (before.outcomes ++ logs.outcomes ∷ [])) ≡ count_refused (flat before.outcomes ++ logs.outcomes) = ap count_refused (flat_more before.outcomes logs.outcomes) in
      let refused_before = before.count in
      let refused_here = logs.refused in
      let flat_long : length (flat (before.outcomes ++ logs.outcomes ∷ [])) ≡ length (flat before.outcomes) + length logs.outcomes = ap length (flat_more before.outcomes logs.outcomes) ∙ length-append (flat before.outcomes) logs.outcomes in
      let all_before = before.all in
      let short : length logs.outcomes ≤ most_cycles = omega (arith, one, count, few) in
      let long_all : length m'.log.entries ≡ length (flat (before.outcomes ++ logs.outcomes ∷ [])) = omega (arith, own, flat_long, all_before) in
      let refused_all : w'.refused ≡ count_refused (flat (before.outcomes ++ logs.outcomes ∷ [])) = omega (arith, refused_same, refused_here, refused_before, counted, counted_all) in
      record {
        outcomes = before.outcomes ++ logs.outcomes ∷ [];
        each = map-append length before.outcomes (logs.outcomes ∷ []) ∙ ap (λ (x : List ℕ × ℕ). x.0 ++ x.1 ∷ []) (λ i. (before.each i, one i)) ∙ sym (map-append (λ (round : RoundNoted). round.cycles) rounds (r ∷ []));
        few = All-append (λ (round : List Bool). length round ≤ most_cycles) before.outcomes (logs.outcomes ∷ []) before.few (All-cons (λ (round : List Bool). length round ≤ most_cycles) logs.outcomes [] short (All-nil (λ (round : List Bool). length round ≤ most_cycles)));
        all = sym long_all;
        notes_are = all_notes;
        count = refused_all;
        noted =
            (let kept_here = kept_count m'.frames 0 m'.log.entries (flat (before.outcomes ++ logs.outcomes ∷ [])) long_all in
            let notes_here = ap length all_notes in
            omega (arith, kept_here, notes_here, refused_all));
        between = between;
        left = omega (arith, long, together);
        kept_is = kept;
        space = (let e = before.space in omega (arith, e, space, cycles));
      }

-- ## What the turns of a round need

-- the fast mixer's party has its end of the log that was kept for the rounds played so far
pub has_scribe : (kept : Option ℕ) (m : MixerState) (rounds : List RoundNoted) (l : LoggingState) → LogsPlay kept m rounds l → IsScribe l.log (length m.log.entries) l.scribe
has_scribe None m rounds l is = subst (λ (o : Option Made). IsScribe o (length m.log.entries) l.scribe) (sym is.0) is.1
has_scribe (Some room) m rounds l h =
    subst (λ (o : Option Made). IsScribe o (length m.log.entries) l.scribe) (sym h.ends.log) (h.ends.writer, h.ends.scribe, h.ends.made.0, h.logged.noted)

-- the auditor has its end of the log that was kept for the rounds played so far
pub has_auditor : (kept : Option ℕ) (m : MixerState) (rounds : List RoundNoted) (l : LoggingState) → length m.log.entries ≤ m.cycles → LogsPlay kept m rounds l → IsAuditor l.log l.auditor
has_auditor None m rounds l few is = subst (λ (o : Option Made). IsAuditor o l.auditor) (sym is.0) is.2
has_auditor (Some room) m rounds l few h =
    let x = h.logged in
    let items = ap length x.kept_is in
    let left = x.left in
    let noted = x.noted in
    let space = x.space in
    let room_is = h.room_is in
    let enough : length l.auditor.notes.items + l.auditor.room ≤ l.auditor.notes.room = omega (arith, items, left, noted, space, room_is, few) in
    subst (λ (o : Option Made). IsAuditor o l.auditor) (sym h.ends.log) (h.ends.reader, h.ends.auditor, h.ends.made.1, enough, x.kept_is)

-- ## A round

-- if no log is kept before the turns of a round, none is kept after them
still_none : (first : ℕ) (m : MixerState) (l l' : LoggingState) → no_log l → HasBothLogged first m l l' → no_log l'
still_none first m l l' none both =
    let scribe : l'.scribe ≡ l.scribe = subst (λ (o : Option WriterState). MatchOption o (l'.scribe ≡ l.scribe) (λ w. (w' : WriterState) × (l'.scribe.end ≡ Some w') × Logs first m w w')) none.1 both.scribe in
    let auditor : l'.auditor ≡ record l.auditor { end = None } = subst (λ (o : Option ReaderState). HasAudited
    (record l.auditor { end = o }) l'.auditor) none.2 both.auditor in
    (both.log ∙ none.0, ap (λ (s : ScribeState). s.end) scribe ∙ none.1, ap (λ (a : AuditorState). a.end) auditor)

-- the two ends of a log behind their turns
record Turned (first : ℕ) (m : MixerState) (block : Made) (l l' : LoggingState) (a : HasEnds block l) : Type 0 where
  ends : HasEnds block l'
  logs : Logs first m a.writer ends.writer
  more : List Note
  auditor : l'.auditor ≡ record l.auditor { end = Some ends.reader; notes = record l.auditor.notes { items = l.auditor.notes.items ++ more } }
  reads : read ends.reader ≡ read a.reader ++ more
  drained : HasDrained l.auditor.room a.reader.pass more ends.reader.pass

-- the two ends after their turns, if a log is kept
turned_ends : (first : ℕ) (m : MixerState) (block : Made) (l l' : LoggingState) (a : HasEnds block l) → HasBothLogged first m l l' → Turned first m block l l' a
turned_ends first m block l l' a both =
    let scribe = subst (λ (o : Option WriterState). HasLogged first m (record { end = o }) l'.scribe) a.scribe both.scribe in
    let auditor = subst (λ (o : Option ReaderState). HasAudited (record l.auditor { end = o }) l'.auditor) a.auditor both.auditor in
    record {
      ends = record {
        writer = scribe.0;
        reader = auditor.0;
        log = both.log ∙ a.log;
        scribe = scribe.1;
        auditor = ap (λ (x : AuditorState). x.end) auditor.2;
        made = (scribe.2.made ∙ a.made.0, auditor.3 ∙ a.made.1);
      };
      logs = scribe.2;
      more = auditor.1;
      auditor = auditor.2;
      reads = auditor.4;
      drained = auditor.5;
    }

-- the two ends can meet after their turns
pub are_ends : (kept : Option ℕ) (s t : MixerState) (rounds : List RoundNoted) (l l' : LoggingState) → LogsPlay kept s rounds l → HasBothLogged (length s.log.entries) t l l' → AreEnds l'
are_ends None s t rounds l l' is both = inl (still_none (length s.log.entries) t l l' is both)
are_ends (Some room) s t rounds l l' h both = inr (h.block, (turned_ends (length s.log.entries) t h.block l l' h.ends both).ends)

-- a log that is kept of a mixer is kept of one with the same sizes and the same log
logged_same : (room : ℕ) (t t' : MixerState) (rounds : List RoundNoted) (w : WriterState) (r : ReaderState) (notes : Roomy Note) → t'.frames ≡ t.frames → t'.cycles ≡ t.cycles → t'.log ≡ t.log → IsLogged room t rounds w r notes → IsLogged room t' rounds w r notes
logged_same room t t' rounds w r notes frames cycles log x = record {
  outcomes = x.outcomes;
  each = x.each;
  few = x.few;
  all = x.all ∙ ap (λ (y : Logged). length y.entries) (sym log);
  notes_are = x.notes_are ∙ ap (λ (y : ℕ × Logged). notes_kept y.0 0 y.1.entries (flat x.outcomes)) (λ i. (sym frames i, sym log i));
  count = x.count;
  noted = x.noted ∙ ap (λ (y : Logged). length y.entries) (sym log);
  between = x.between;
  left = x.left;
  kept_is = x.kept_is;
  space = x.space ∙ ap (λ (n : ℕ). n + room) (sym cycles);
}

-- a log that was kept for the rounds before is kept for one round more
pub round_logs : (kept : Option ℕ) (s t t' : MixerState) (rounds : List RoundNoted) (r : RoundNoted) (more : List CycleEntry) (l l' l'' : LoggingState) → LogsPlay kept s rounds l → HasBothLogged (length s.log.entries) t l l' → HasMetLog l' l''
    → t.frames ≡ s.frames → t.cycles ≡ s.cycles → t.log.entries ≡ s.log.entries ++ more → length more ≤ most_cycles → r.cycles ≡ length more → t'.frames ≡ t.frames → t'.cycles ≡ t.cycles → t'.log ≡ t.log → LogsPlay kept t' (rounds ++ r ∷ []) l''
round_logs None s t t' rounds r more l l' l'' is both met frames cycles grown few count frames' cycles' log' =
    let none = still_none (length s.log.entries) t l l' is both in
    subst no_log (sym (met.none none)) none
round_logs (Some room) s t t' rounds r more l l' l'' h both met frames cycles grown few count frames' cycles' log' =
    let n : ℕ = length s.log.entries in
    let x = turned_ends n t h.block l l' h.ends both in
    let m = met.some h.block x.ends in
    let ends : HasEnds h.block l'' = m.0 in
    let meets = m.2 in
    let drained : HasDrained room h.ends.reader.pass x.more x.ends.reader.pass = subst (λ (k : ℕ). HasDrained k h.ends.reader.pass x.more x.ends.reader.pass) h.room_is x.drained in
    let notes : l''.auditor.notes ≡ record l.auditor.notes { items = l.auditor.notes.items ++ x.more } = ap (λ (a : AuditorState). a.notes) m.1 ∙ ap (λ (a : AuditorState). a.notes) x.auditor in
    let kept : l''.auditor.notes.items ≡ read ends.reader = ap (λ (y : Roomy Note). y.items) notes ∙ ap (λ (ns : List Note). ns ++ x.more) h.logged.kept_is ∙ sym x.reads ∙ sym meets.kept.2 in
    record {
      block = h.block;
      size = h.size;
      room_is = ap (λ (a : AuditorState). a.room) m.1 ∙ ap (λ (a : AuditorState). a.room) x.auditor ∙ h.room_is;
      ends = ends;
      logged = logged_same room t t' (rounds ++ r ∷ []) ends.writer ends.reader l''.auditor.notes frames' cycles' log'
          (log_more room s t rounds r more h.ends.writer x.ends.writer ends.writer h.ends.reader ends.reader l.auditor.notes l''.auditor.notes h.logged x.logs frames cycles grown count few meets.kept.0 meets.kept.1
          (ap (λ (y : Roomy Note). y.room) notes) kept meets.order
          (meets.rounds room h.logged.outcomes x.logs.outcomes x.more h.ends.writer h.ends.reader h.size h.logged.between x.logs.noted drained));
    }
