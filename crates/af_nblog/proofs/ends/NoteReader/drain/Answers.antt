use Rattle.std.proofs.Common.{◌≡◌, ◌+◌, List, [], ◌∷◌, ◌++◌, length, ap, ◌∙◌, arith, append_assoc, length-append}
use Rattle.af_base.specs.Roomy.{Roomy}
use Rattle.af_nblog.specs.declared.entries.Note.{Note}
use Rattle.af_nblog.specs.NoteEnds.{read}
use Rattle.af_nblog.proofs.Turns.{one_more_read}
use Rattle.af_nblog.proofs.ends.NoteReader.drain.Goals as goal

pub loop-i-preserved : goal.loop-i-preserved
loop-i-preserved g c =
    let old = c.loop-i.invariant.more in
    let last : List Note = c.in-Some.note ∷ [] in
    let notes : Roomy Note = c.args.notes.now in
    let count : length (old.0 ++ last) ≡ length old.0 + 1 = length-append old.0 last in
    let before = old.4 in
    record {
      made = c.next.ensures.made;
      more = (
        old.0 ++ last,
        c.push.ensures ∙ ap (λ (l : Roomy Note). record l { items = l.items ++ last }) old.1 ∙ ap (λ (ns : List Note). record notes { items = ns }) (append_assoc notes.items old.0 last),
        c.in-Some.ensures.notes ∙ ap (λ (ns : List Note). ns ++ last) old.2 ∙ append_assoc (read c.args.self.now) old.0 last,
        one_more_read old.0 c.args.self.now.pass c.loop-i.self.pass c.next.new.self.pass c.in-Some.note old.3 c.in-Some.ensures.reads,
        omega arith,
      );
    }
