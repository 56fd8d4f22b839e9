use Rattle.std.proofs.Common.{◌≡◌, [], ◌∷◌, ◌++◌, length, refl, sym, ap, ◌∙◌, subst, arith, append-nil}
use Rattle.af_nblog.proofs.Common.{ServerIs, ServerSide, ahead}
use Rattle.af_base.specs.declared.event.ServerEvent.TheVariants as server
use Rattle.af_nblog.specs.Notes.{words_of, notes_in}
use Rattle.af_nblog.specs.NoteEnds.{ReaderState, looked, note_taken, read}
use Rattle.af_nblog.proofs.NotesRead.{reading_same, reading_more, read_notes, read_one, read_frames, read_events, looked_events, shown_less, shown_more}
use Rattle.af_nblog.proofs.ends.NoteReader.next.Goals as goal

pub invariant_of-self : goal.invariant_of-self
invariant_of-self g c =
    let p = c.self.inside.takes.pass in
    let q = c.look.new.self.pass in
    reading_same p.part q.part (server.SawRear q.part.rear ∷ server.SawFront q.part.front ∷ []) (ap (λ (x : ServerSide). x.part.frames) c.look.ensures.saw) (looked_events p q q.part.rear q.part.front c.look.ensures.saw) refl c.self.invariant

pub returns-then-look-lt8-clause-reads : goal.returns-then-look-lt8-clause-reads
returns-then-look-lt8-clause-reads g c =
    let q = c.look.new.self.pass in (
      q.part.rear,
      q.part.front,
      (
        shown_less c.look.result (ahead q.part.front q.part.rear) c.look.ensures.shows c.if-look-lt8.true,
        subst (λ (x : ServerSide). ServerIs (looked x.part q.part.rear q.part.front) x q) (ap (λ (r : ReaderState). r.pass) c.self.view_is) c.look.ensures.saw,
      ),
    )

pub returns-then-look-lt8-clause-notes : goal.returns-then-look-lt8-clause-notes
returns-then-look-lt8-clause-notes g c =
    ap (λ (x : ServerSide). notes_in x.part.frames) c.look.ensures.saw ∙ ap (λ (r : ReaderState). read r) c.self.view_is ∙ sym (append-nil (read c.args.self.now))

pub invariant_of-self-2 : goal.invariant_of-self-2
invariant_of-self-2 g c =
    let p = c.self.inside.takes.pass in
    let mid = c.look.new.self.pass in
    let q = c.take.new.self.pass in
    let into = c.take.new.into in
    let count : length into ≡ 8 = (let b = c.take.auto.into in omega arith) in
    reading_more p.part q.part c.note_in.result c.self.invariant (read_frames p mid q mid.part.rear mid.part.front into c.note_in.result c.look.ensures.saw c.take.ensures.taken c.note_in.ensures)
    (server.SawRear mid.part.rear ∷ server.SawFront mid.part.front ∷ server.Take 8 ∷ []) (read_events p mid q mid.part.rear mid.part.front into c.look.ensures.saw c.take.ensures.taken count) refl

pub returns-clause-reads : goal.returns-clause-reads
returns-clause-reads g c =
    let p = c.self.inside.takes.pass in
    let mid = c.look.new.self.pass in
    let q = c.take.new.self.pass in
    let into = c.take.new.into in
    let note = c.note_in.result in
    let count : length into ≡ 8 = (let b = c.take.auto.into in omega arith) in (
      mid.part.rear,
      mid.part.front,
      (
        shown_more c.look.result (ahead mid.part.front mid.part.rear) c.look.ensures.shows c.if-look-lt8.false,
        subst (λ (x : ServerSide). ServerIs (note_taken (looked x.part mid.part.rear mid.part.front) (words_of note)) x q) (ap (λ (r : ReaderState). r.pass) c.self.view_is)
            (read_one p mid q mid.part.rear mid.part.front into note c.look.ensures.saw c.take.ensures.taken count c.note_in.ensures),
      ),
    )

pub returns-clause-notes : goal.returns-clause-notes
returns-clause-notes g c =
    let p = c.self.inside.takes.pass in
    let mid = c.look.new.self.pass in
    let q = c.take.new.self.pass in
    let note = c.note_in.result in
    read_notes p.part q.part note c.self.invariant (read_frames p mid q mid.part.rear mid.part.front c.take.new.into note c.look.ensures.saw c.take.ensures.taken c.note_in.ensures)
    ∙ ap (λ (r : ReaderState). read r ++ note ∷ []) c.self.view_is
