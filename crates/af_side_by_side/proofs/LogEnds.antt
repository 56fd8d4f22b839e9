-- What is read of a log behind the last meeting.
use Rattle.std.proofs.Common.{◌≡◌, ℕ, ◌≤◌, Option, Some, List, [], ◌∷◌, ◌++◌, length, refl, sym, ap, subst, ◌∙◌, append-nil, arith, length-append}
use Rattle.af_side_by_side.proofs.Common.{AreInOrder, AuditorState, HasAudited, HasDrained, HasEnds, HasLogOf, HasMetLog, JournalData, LoggingState, Note, ReaderState, WriterState, accepted, read}
use Rattle.af_nblog.proofs.Basics.{last_of}

-- if as many notes were read as were accepted, they are the same notes
none_left : (xs ys : List Note) → AreInOrder xs ys → length xs ≤ length ys → ys ≡ xs
none_left xs ys order long = by_left order.left order.together
  where
    by_left : (left : List Note) → ys ++ left ≡ xs → ys ≡ xs
    by_left [] is = sym (append-nil ys) ∙ is
    by_left (n ∷ ns) is = absurd (omega (arith, long, ap length is, length-append ys (n ∷ ns)))

-- an auditor that read once more, and met, has read all that was accepted
pub finished : (frames room : ℕ) (j : JournalData) (l : LoggingState) (a : AuditorState) (l' : LoggingState) (h : HasLogOf frames room j l) → HasAudited l.auditor a → HasMetLog (record l { auditor = a }) l'
    → (l'.auditor.notes.items ≡ accepted h.ends.writer) × ((w : WriterState) × (l'.scribe.end ≡ Some w) × (w.refused ≡ h.ends.writer.refused))
finished frames room j l a l' h audited met =
    let d = subst (λ (o : Option ReaderState). HasAudited (record l.auditor { end = o }) a) h.ends.auditor audited in
    let ends : HasEnds h.block (record l { auditor = a }) = record {
      writer = h.ends.writer;
      reader = d.0;
      log = h.ends.log;
      scribe = h.ends.scribe;
      auditor = ap (λ (x : AuditorState). x.end) d.2;
      made = (h.ends.made.0, d.3 ∙ h.ends.made.1);
    } in
    let x = met.some h.block ends in
    let drained : HasDrained room h.ends.reader.pass d.1 d.0.pass = subst (λ (k : ℕ). HasDrained k h.ends.reader.pass d.1 d.0.pass) h.room_is d.5 in
    let between = x.2.rounds room h.rounds [] d.1 h.ends.writer h.ends.reader h.size h.between refl drained in
    let last = last_of 0 h.rounds [] in
    let short = between.drained in
    let all : read x.0.reader ≡ accepted x.0.writer = none_left (accepted x.0.writer) (read x.0.reader) x.2.order (omega (arith, short, last)) in
    let items : l'.auditor.notes.items ≡ read x.0.reader =
    ap (λ (y : AuditorState). y.notes.items) x.1 ∙ ap (λ (y : AuditorState). y.notes.items) d.2 ∙ ap (λ (ns : List Note). ns ++ d.1) h.kept ∙ sym d.4 ∙ sym x.2.kept.2 in
    (items ∙ all ∙ x.2.kept.0, (x.0.writer, x.0.scribe, x.2.kept.1))
