use Rattle.std.proofs.Common.{◌≡◌, ℕ, ◌-◌, ◌<◌, ◌≤◌, [], ◌∷◌, ◌++◌, length, List, sym, ap, ◌∙◌, subst, arith, append-nil, length-append}
use Rattle.af_nblog.proofs.Common.{ClientPart, Made, releases_of}
use Rattle.af_nblog.specs.declared.entries.Note.{Note}
use Rattle.af_nblog.specs.declared.writing.Noted.TheVariants.{Sent, Refused}
use Rattle.af_nblog.specs.Notes.{notes_in}
use Rattle.af_nblog.specs.NoteEnds.{WriterState, NotedBy, accepted}
use Rattle.af_nblog.proofs.Noting.{look_keeps, noted_refused, one_refused, one_accepted, ten_steps, count, put_notes, put_keeps, release_count, noted_sent}
use Rattle.af_nblog.proofs.ends.NoteWriter.note.Goals as goal

pub overflow_add-self : goal.overflow_add-self
overflow_add-self g c =
    let a = c.requires.few in
    let b : c.self.inside.refused ≡ c.args.self.now.refused = ap (λ (w : WriterState). w.refused) c.self.view_is in
    omega arith

pub invariant_of-self : goal.invariant_of-self
invariant_of-self g c = look_keeps c.self.inside.puts.pass.part c.room.new.self.pass.part c.self.inside.sent c.self.inside.room c.self.invariant c.room.ensures.saw

pub returns-then-room-lt8-clause-noted : goal.returns-then-room-lt8-clause-noted
returns-then-room-lt8-clause-noted g c =
    let o = c.self.inside.puts.pass.part in
    let p = c.room.new.self.pass.part in
    let known : c.saturating_sub.result ≡ c.self.inside.sent - c.self.inside.room = c.saturating_sub.ensures ∙ ap (λ (n : ℕ). c.self.inside.sent - n) c.from.ensures in
    subst (λ (x : ClientPart). NotedBy x c.args.note (Refused c.self.inside.sent c.saturating_sub.result) p) (ap (λ (w : WriterState). w.pass.part) c.self.view_is)
    (subst (λ (n : ℕ). NotedBy o c.args.note (Refused c.self.inside.sent n) p) (sym known)
    (noted_refused o p c.args.note c.self.inside.sent c.self.inside.room c.self.invariant c.room.ensures.saw (subst (λ (n : ℕ). n < 8) c.room.ensures.room.0 c.if-room-lt8.true)))

pub returns-then-room-lt8-clause-notes : goal.returns-then-room-lt8-clause-notes
returns-then-room-lt8-clause-notes g c =
    ap (λ (x : ClientPart). notes_in x.frames) c.room.ensures.saw ∙ ap (λ (w : WriterState). accepted w) c.self.view_is ∙ sym (append-nil (accepted c.args.self.now))

pub returns-then-room-lt8-clause-each : goal.returns-then-room-lt8-clause-each
returns-then-room-lt8-clause-each g c =
    one_refused _ _ _ _ (ap (λ (x : ClientPart). length (notes_in x.frames)) c.room.ensures.saw ∙ ap (λ (w : WriterState). length (accepted w)) c.self.view_is) (ap (λ (w : WriterState). w.refused) c.self.view_is)

pub overflow_add-self-2 : goal.overflow_add-self-2
overflow_add-self-2 g c =
    let a = c.requires.few in
    let b : length (notes_in c.self.inside.puts.pass.part.frames) ≡ length (accepted c.args.self.now) = ap (λ (w : WriterState). length (accepted w)) c.self.view_is in
    let d = c.self.invariant.sent_is in
    omega arith

pub invariant_of-self-2 : goal.invariant_of-self-2
invariant_of-self-2 g c =
    let k = look_keeps c.self.inside.puts.pass.part c.room.new.self.pass.part c.self.inside.sent c.self.inside.room c.self.invariant c.room.ensures.saw in
    put_keeps c.room.new.self.pass.part c.put.new.self.pass.part c.args.note c.frames_of.result c.self.inside.sent c.self.inside.room k c.frames_of.ensures c.put.ensures.put

pub returns-clause-noted : goal.returns-clause-noted
returns-clause-noted g c =
    let o = c.self.inside.puts.pass.part in
    let p = c.room.new.self.pass.part in
    let q = c.put.new.self.pass.part in
    let k = look_keeps o p c.self.inside.sent c.self.inside.room c.self.invariant c.room.ensures.saw in
    subst (λ (x : ClientPart). NotedBy x c.args.note Sent q) (ap (λ (w : WriterState). w.pass.part) c.self.view_is)
    (noted_sent p q c.args.note c.frames_of.result c.self.inside.sent c.self.inside.room k c.frames_of.ensures c.put.ensures.put o c.room.ensures.saw (subst (λ (n : ℕ). 8 ≤ n) c.room.ensures.room.0 c.if-room-lt8.false))

pub returns-clause-notes : goal.returns-clause-notes
returns-clause-notes g c =
    let o = c.self.inside.puts.pass.part in
    let p = c.room.new.self.pass.part in
    let q = c.put.new.self.pass.part in
    let k = look_keeps o p c.self.inside.sent c.self.inside.room c.self.invariant c.room.ensures.saw in
    put_notes p q c.args.note c.frames_of.result c.self.inside.sent c.self.inside.room k c.frames_of.ensures c.put.ensures.put
    ∙ ap (λ (x : ClientPart). notes_in x.frames ++ c.args.note ∷ []) c.room.ensures.saw
    ∙ ap (λ (w : WriterState). accepted w ++ c.args.note ∷ []) c.self.view_is

pub returns-clause-each : goal.returns-clause-each
returns-clause-each g c =
    one_accepted _ _ _ _ (ap (λ (ns : List Note). length ns) (returns-clause-notes g c) ∙ length-append (accepted c.args.self.now) (c.args.note ∷ [])) (ap (λ (w : WriterState). w.refused) c.self.view_is)

pub returns-clause-steps : goal.returns-clause-steps
returns-clause-steps g c =
    let o = c.self.inside.puts.pass.part in
    let p = c.room.new.self.pass.part in
    let q = c.put.new.self.pass.part in
    let frames = c.frames_of.result in
    let k = look_keeps o p c.self.inside.sent c.self.inside.room c.self.invariant c.room.ensures.saw in
    let cells : p.shape.cells ≡ c.args.block.now.shape.cells = ap (λ (m : Made). m.shape.cells) c.room.ensures.made in
    ten_steps c.args.steps.now c.room.new.steps c.put.new.steps (length frames) (length (releases_of c.args.block.now.shape.cells (length p.frames) (length frames))) c.room.ensures.steps c.put.ensures.steps
    (count p q c.args.note frames c.self.inside.sent c.self.inside.room k c.frames_of.ensures c.put.ensures.put)
    (release_count p q c.args.note frames c.self.inside.sent c.self.inside.room k c.frames_of.ensures c.put.ensures.put c.args.block.now.shape.cells cells)
