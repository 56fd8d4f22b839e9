use Rattle.std.proofs.Common.{◌≡◌, ℕ, ◌*◌, ◌≤◌, [], ◌∷◌, ◌++◌, length, refl, ap, ◌∙◌, subst, arith}
use Rattle.af_nblog.proofs.Common.{InSide, Made, OutSide}
use Rattle.af_base.specs.declared.event.ClientEvent.TheVariants as client
use Rattle.af_base.specs.declared.event.ServerEvent.TheVariants as server
use Rattle.af_nblog.specs.Notes.{notes_in}
use Rattle.af_nblog.specs.NoteEnds.{WriterState, ReaderState, IsNoting, IsReading, accepted, read}
use Rattle.af_nblog.proofs.Spelling.{in_order}
use Rattle.af_nblog.proofs.NotesRead.{reading_same}
use Rattle.af_nblog.proofs.Fronts.{sees_read}
use Rattle.af_nblog.proofs.Rears.{sees_put, put_count, read_count}
use Rattle.af_nblog.proofs.Rounds.{round_more}
use Rattle.af_nblog.proofs.Refusals.{none_refused}
use Rattle.af_nblog.proofs.ends.meet_notes.Goals as goal

pub invariant_of-reader : goal.invariant_of-reader
invariant_of-reader g c =
    let is = c.meet_pipe.ensures.to in
    reading_same c.reader.inside.takes.pass.part c.meet_pipe.new.to.pass.part (server.Learn (length c.writer.inside.puts.pass.part.events) ∷ [])
    (ap (λ (x : OutSide). x.pass.part.frames) is) (ap (λ (x : OutSide). x.pass.part.events) is) refl c.reader.invariant

pub returns-clause-kept : goal.returns-clause-kept
returns-clause-kept g c = (
  ap (λ (x : InSide). notes_in x.pass.part.frames) c.meet_pipe.ensures.from ∙ ap (λ (w : WriterState). accepted w) c.writer.view_is,
  ap (λ (w : WriterState). w.refused) c.writer.view_is,
  ap (λ (x : OutSide). notes_in x.pass.part.frames) c.meet_pipe.ensures.to ∙ ap (λ (r : ReaderState). read r) c.reader.view_is,
)

pub returns-clause-order : goal.returns-clause-order
returns-clause-order g c =
    in_order (length (notes_in c.meet_pipe.new.to.pass.part.frames)) c.meet_pipe.new.from.pass.part.frames c.meet_pipe.new.to.pass.part.frames (invariant_of-reader g c).whole c.meet_pipe.ensures.history.begins

pub returns-clause-fronts : goal.returns-clause-fronts
returns-clause-fronts g c =
    sees_read c.args.block.now.shape.frames c.meet_pipe.new.from.pass.part.events c.meet_pipe.new.from.pass.part.frames c.meet_pipe.new.to.pass.part.events c.meet_pipe.new.to.pass.part.frames
    c.meet_pipe.ensures.history (invariant_of-reader g c).takes

pub returns-clause-rears : goal.returns-clause-rears
returns-clause-rears g c =
    sees_put c.args.block.now.shape.frames c.meet_pipe.new.from.pass.part.events c.meet_pipe.new.from.pass.part.frames c.meet_pipe.new.to.pass.part.events c.meet_pipe.new.to.pass.part.frames c.meet_pipe.ensures.history

pub returns-clause-rounds : goal.returns-clause-rounds
returns-clause-rounds g c = λ room rounds round notes w r size_is before noted drained.
    let v = c.args.writer.now in
    let s = c.args.reader.now in
    let from = c.meet_pipe.new.from.pass.part in
    let to = c.meet_pipe.new.to.pass.part in
    let size : ℕ = c.args.block.now.shape.frames in
    let w' : WriterState = record { pass = c.meet_pipe.new.from.pass; refused = c.writer.inside.refused } in
    let r' : ReaderState = record { pass = c.meet_pipe.new.to.pass } in
    let noting : IsNoting v.pass.part c.writer.inside.sent c.writer.inside.room = subst (λ (x : WriterState). IsNoting x.pass.part c.writer.inside.sent c.writer.inside.room) c.writer.view_is c.writer.invariant in
    let reading : IsReading s.pass.part = subst (λ (x : ReaderState). IsReading x.pass.part) c.reader.view_is c.reader.invariant in
    let shape : v.pass.part.shape.frames ≡ size = ap (λ (m : Made). m.shape.frames) c.requires.made.0 in
    let some : 1 ≤ room = (let a = noting.some in let b = noting.size in omega arith) in
    let few : size ≤ 65536 = (let a = noting.shape.few in omega arith) in
    let whole : length v.pass.part.frames ≡ 8 * length (accepted v) = (let a = noting.whole in let b = noting.sent_is in omega arith) in
    let history = c.meet_pipe.ensures.history in
    let all = (invariant_of-reader g c).takes in
    let puts_is : from.events ≡ v.pass.part.events ++ client.Learn (length s.pass.part.events) ∷ [] =
    ap (λ (x : InSide). x.pass.part.events) c.meet_pipe.ensures.from ∙ ap (λ (x : WriterState × ReaderState). x.0.pass.part.events ++ client.Learn (length x.1.pass.part.events) ∷ []) (λ i. (c.writer.view_is i, c.reader.view_is i)) in
    let put_same : from.frames ≡ v.pass.part.frames = ap (λ (x : InSide). x.pass.part.frames) c.meet_pipe.ensures.from ∙ ap (λ (x : WriterState). x.pass.part.frames) c.writer.view_is in
    let takes_is : to.events ≡ s.pass.part.events ++ server.Learn (length v.pass.part.events) ∷ [] =
    ap (λ (x : OutSide). x.pass.part.events) c.meet_pipe.ensures.to ∙ ap (λ (x : WriterState × ReaderState). x.1.pass.part.events ++ server.Learn (length x.0.pass.part.events) ∷ []) (λ i. (c.writer.view_is i, c.reader.view_is i)) in
    let taken_same : to.frames ≡ s.pass.part.frames = ap (λ (x : OutSide). x.pass.part.frames) c.meet_pipe.ensures.to ∙ ap (λ (x : ReaderState). x.pass.part.frames) c.reader.view_is in
    round_more size room rounds round notes w v r s w' r' size_is some few before shape noted drained whole reading.whole puts_is put_same takes_is taken_same all (put_count size from.events from.frames to.events to.frames history) (read_count size from.events from.frames to.events to.frames history all)
    (sees_read size from.events from.frames to.events to.frames history all) (sees_put size from.events from.frames to.events to.frames history)

pub returns-clause-none : goal.returns-clause-none
returns-clause-none g c = λ room most rounds between half few. none_refused room most 0 rounds half (omega arith) few between.late
