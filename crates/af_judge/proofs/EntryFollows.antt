-- What is kept of the fast mixer follows an entry as the run tells it.
use Rattle.std.proofs.Common.{◌≡◌, ℕ, zero, suc, ◌+◌, ◌<◌, ◌≤◌, ◌==◌, ◌||◌, Bool, true, false, nat_lt, if◌then◌else◌, unwrap_or, refl, sym, ap, ◌∙◌, List, [], ◌∷◌, ◌++◌, append_assoc, length, length-append, map, arith}
use Rattle.af_judge.proofs.Common.{CycleEntry, EntrySeen, FastState, Frame, Listed, Marks, Report, Run, Session, SlotReport, TrackTold, cold_of, entry_slot, fold-append, frames_taken, get_or-eq_default, get_or-map-range_with_len, get_or_from_slice_get, is_cold, is_exit, is_mixed, known_by, known_of, last_report, length-map, listed, nat_tests, next_report, no_report, no_track, nothing_heard, packed_word, range_with_len, report_at, slot_frames, slot_of, slots, state_at, state_for, state_of, stream_of, takes_shown, told_at, two, twos, with_looks, with_mix, wrapped}
use Rattle.std.proofs.lemmas.List as lists
use Rattle.af_base.specs.declared.event.ServerEvent.TheVariants as server
use Rattle.af_judge.specs.declared.track_judge.TrackJudge.{TrackJudge}
use Rattle.af_judge.specs.Blocks.{listed_in}
use Rattle.af_judge.specs.Entries.{FastOf}
use Rattle.af_judge.proofs.Words.{StandsIn, StreamsOf}
use Rattle.af_judge.specs.FastKept.{FastKept, fast_added, heard_slots, pipe_played}
use Rattle.af_judge.specs.PipeKept.{with_look}
use Rattle.af_judge.specs.Reporting.{block_at, heard_at, no_block, report_added, slot_added, state_in, told_at_slot, told_by}
use Rattle.af_judge.proofs.EntryLegal.{there, twos-more}

same-map : (f g : ℕ → SlotReport) (a n : ℕ) → ((i : ℕ) → i < a + n → f i ≡ g i) → map f (range_with_len a n) ≡ map g (range_with_len a n)
same-map f g a zero h = refl
same-map f g a (suc n) h = let rest = same-map f g (a + 1) n (λ i lt. h i (omega (arith, lt))) in λ j. h a (omega arith) j ∷ rest j

-- a server of the tracks is that of the run
server-same : (marks : Marks) (run : Run) (tracks : List TrackJudge) → StreamsOf marks run tracks → (n : ℕ) → listed_in (block_at (map (λ t. t.stream) tracks) n) ≡ listed (told_at run n).stream
server-same marks run tracks streams n = by_case (nat_lt n (length tracks)) refl
  where
    by_case : (b : Bool) → nat_lt n (length tracks) ≡ b → listed_in (block_at (map (λ t. t.stream) tracks) n) ≡ listed (told_at run n).stream
    by_case true is =
        let low : n < length tracks = grind (arith, nat_tests, is) in
        let t = there tracks n low in
        let h = streams.each n t.track t.is in
        let block : block_at (map (λ t. t.stream) tracks) n ≡ t.track.stream =
        lists.get_or-map (λ (u : TrackJudge). u.stream) tracks n t.track no_block low ∙ ap (λ (u : TrackJudge). u.stream) (get_or_from_slice_get tracks n t.track t.track t.is) in
        ap listed_in block ∙ h.server
    by_case false ge =
        let out : length tracks ≤ n = grind (arith, nat_tests, ge) in
        let l = length-map tracks (λ (u : TrackJudge). u.stream) in
        let m = streams.many in
        ap listed_in (get_or-eq_default (map (λ (u : TrackJudge). u.stream) tracks) no_block (omega (arith, out, l)))
        ∙ sym (ap (λ (u : TrackTold). listed u.stream) (get_or-eq_default run.tracks no_track (omega (arith, out, m))))

module _ (s : Session) (marks : Marks) (r : Run) (e : EntrySeen) (f : FastKept) (frames : List Frame) (tracks : List TrackJudge) (earlier : List Report) (fast : FastOf s earlier r f) (drafts : f.told.draft ≡ r.normal.draft) (stands : StandsIn frames e) (streams : StreamsOf marks (with_looks s e r) tracks) where
  abbrev x : FastState
  x = state_in f.told r.states e.entry.state

  known-same : (i : ℕ) → i < slots → told_at_slot (heard_slots tracks x) i ≡ known_of (listed (stream_of (with_looks s e r) (state_for s r e.entry.state) i))
  known-same i low =
      let state : x ≡ state_for s r e.entry.state = λ j. unwrap_or (state_of r.states e.entry.state) (if e.entry.state == 0 then state_at (fast.asked j) r.states (fast.current j) else drafts j) in
      ap told_by (get_or-map-range_with_len (heard_at (map (λ t. t.stream) tracks) x) 0 slots i i nothing_heard low (omega arith))
      ∙ (ap (λ (z : Listed). told_by (known_by z)) (server-same marks (with_looks s e r) tracks streams (slot_of x i).track)
      ∙ ap (λ (y : FastState). known_of (listed (stream_of (with_looks s e r) y i))) state)

  report-same : report_added r.states (told_at_slot (heard_slots tracks x)) e.entry f.told ≡ next_report s (with_looks s e r) e.entry
  report-same =
      let cycle : f.told.report.cycle + 1 ≡ length r.entries + 1 = ap (λ (n : ℕ). n + 1) (ap (λ (q : Report). q.cycle) fast.report ∙ fast.numbered.cycle) in
      let each = same-map _ _ 0 slots (λ i low. λ j. slot_added (fast.asked j) r.states (unwrap_or (state_of r.states e.entry.state) (if e.entry.state == 0 then state_at (fast.asked j) r.states (fast.current j) else drafts j))
      (unwrap_or (state_of r.states (fast.used j)) (if fast.used j == 0 then state_at (fast.asked j) r.states (fast.current j) else drafts j)) e.entry (known-same i low j) i (report_at (fast.report j).slots i)) in
      λ j. record { cycle = cycle j; slots = each j }

  takes-same : (b : Bool) → (let slot = entry_slot e.entry 0 in let es = λ (n : ℕ). server.SawRear slot.rear ∷ server.SawFront (wrapped n) ∷ takes_shown slot.seen in
      (if b then with_look slot.rear slot.seen (frames_taken frames slot) f.pipe else f.pipe).takes ≡ twos (if b then record r.pipe { told = r.pipe.told ++ map two (es (length r.pipe.taken)); taken = r.pipe.taken ++ map packed_word (slot_frames e 0) } else r.pipe).told)
  takes-same true =
      let slot = entry_slot e.entry 0 in
      (λ j. fast.takes j ++ server.SawRear slot.rear ∷ server.SawFront (wrapped (length (fast.taken j))) ∷ takes_shown slot.seen)
      ∙ sym (twos-more r.pipe.told (server.SawRear slot.rear ∷ server.SawFront (wrapped (length r.pipe.taken)) ∷ takes_shown slot.seen))
  takes-same false = fast.takes

  taken-same : (b : Bool) → (let slot = entry_slot e.entry 0 in let es = λ (n : ℕ). server.SawRear slot.rear ∷ server.SawFront (wrapped n) ∷ takes_shown slot.seen in
      (if b then with_look slot.rear slot.seen (frames_taken frames slot) f.pipe else f.pipe).taken ≡ (if b then record r.pipe { told = r.pipe.told ++ map two (es (length r.pipe.taken)); taken = r.pipe.taken ++ map packed_word (slot_frames e 0) } else r.pipe).taken)
  taken-same true = λ j. fast.taken j ++ map packed_word (stands.same 0 (omega arith) j)
  taken-same false = fast.taken

  -- what is kept after the mix is kept of the run after it
  pub fast_mixed : FastOf s earlier (with_mix s e r) (fast_added r.states x tracks e.entry (record f { pipe = pipe_played frames e.entry f.pipe }))
  unfolding with_mix
  fast_mixed =
      let report = next_report s (with_looks s e r) e.entry in
      let last : last_report (r.reports ++ report ∷ []) ≡ report = fold-append (λ (a b : Report). b) no_report r.reports (report ∷ []) in
      record {
        asked = fast.asked;
        current = fast.current;
        used = sym (fold-append (λ (n : ℕ) (y : CycleEntry). y.state) 0 r.entries (e.entry ∷ []));
        report = report-same ∙ sym last;
        numbered = record {
          many = length-append r.reports (report ∷ []) ∙ (ap (λ (n : ℕ). n + 1) fast.numbered.many ∙ sym (length-append r.entries (e.entry ∷ [])));
          cycle = ap (λ (q : Report). q.cycle) last ∙ sym (length-append r.entries (e.entry ∷ []));
        };
        before = fast.before;
        first = fast.first;
        reports = (λ j. fast.reports j ++ sym report-same j ∷ []) ∙ append_assoc earlier f.reports (report_added r.states (told_at_slot (heard_slots tracks x)) e.entry f.told ∷ []);
        cold = ap (λ (c : ℕ). if is_cold e.entry.cycle then cold_of (state_of r.states e.entry.state) else c) fast.cold
            ∙ sym (fold-append (λ (done : ℕ) (y : CycleEntry). if is_cold y.cycle then cold_of (state_of r.states y.state) else done) 0 r.entries (e.entry ∷ []));
        ended = ap (λ (b : Bool). b || is_exit e.entry.cycle) fast.ended ∙ sym (fold-append (λ (b : Bool) (y : CycleEntry). b || is_exit y.cycle) false r.entries (e.entry ∷ []));
        takes = takes-same (is_mixed e.entry.cycle);
        taken = taken-same (is_mixed e.entry.cycle);
      }
