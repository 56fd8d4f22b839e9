-- The two ends of a log met.
use Rattle.std.proofs.Common.{◌≡◌, Option, Some, None, ap, subst, ◌∙◌}
use Rattle.af_side_by_side.proofs.Common.{AuditorState, HasMetLog, LoggingState, Made, NotesMet, ReaderState, WriterState, reader_made, writer_made}

-- an option that is None is not Some
none_some : {X : Type 0} (o : Option X) (x : X) → o ≡ None → o ≡ Some x → ⊥
none_some o x none some = let e : ⊥ = cc in e

-- an option is Some of one item only
same_some : {X : Type 0} (o : Option X) (x y : X) → o ≡ Some x → o ≡ Some y → x ≡ y
same_some o x y one two = cc

-- a log has met if its two ends have
pub met_log : (l l' : LoggingState) (block : Made) (w w' : WriterState) (r r' : ReaderState) → l.log ≡ Some block → l.scribe.end ≡ Some w → l.auditor.end ≡ Some r → writer_made w' ≡ block → reader_made r' ≡ block → NotesMet block w w' r r'
    → l'.log ≡ Some block → l'.scribe.end ≡ Some w' → l'.auditor ≡ record l.auditor { end = Some r' } → HasMetLog l l'
met_log l l' block w w' r r' log scribe auditor made_w made_r met log' scribe' auditor' = record {
  none = (λ none. absurd (none_some l.log block none.0 log));
  some = (λ block' a.
      let block_is : block ≡ block' = same_some l.log block block' log a.log in
      let writer_is : w ≡ a.writer = same_some l.scribe.end w a.writer scribe a.scribe in
      let reader_is : r ≡ a.reader = same_some l.auditor.end r a.reader auditor a.auditor in (
        record {
          writer = w';
          reader = r';
          log = log' ∙ ap (λ (x : Made). Some x) block_is;
          scribe = scribe';
          auditor = ap (λ (x : AuditorState). x.end) auditor';
          made = (made_w ∙ block_is, made_r ∙ block_is);
        },
        auditor',
        subst (λ (x : Made × (WriterState × ReaderState)). NotesMet x.0 x.1.0 w' x.1.1 r') (λ i. (block_is i, (writer_is i, reader_is i))) met,
      ));
}
