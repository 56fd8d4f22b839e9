use Rattle.std.proofs.Common.{◌≡◌, Option, Some, sym, ap, ◌∙◌, subst, rules}
use Rattle.af_side_by_side.proofs.Common.{AuditorState, HasAudited, Note, ReaderState, Roomy, reader_made}
use Rattle.af_side_by_side.proofs.logging.Auditor.read_in.Goals as goal

pub returns : goal.returns
returns g c =
    let d = c.drain.ensures.drains in
    let q : ReaderState = c.drain.new.self in
    let at : Roomy Note → AuditorState = λ ns. record { end = Some q; room = c.self.inside.room; notes = ns } in
    let old : reader_made c.in-Some-end.end ≡ c.in-Some.block = search rules in
    subst (λ (a : AuditorState). HasAudited a (at c.drain.new.notes)) c.self.view_is
    (subst (λ (o : Option ReaderState). HasAudited (record { end = o; room = c.self.inside.room; notes = c.self.inside.notes }) (at c.drain.new.notes)) (sym c.in-Some-end.is)
    (q, d.0, ap at d.1, c.drain.ensures.made ∙ sym old, d.2, d.3))
