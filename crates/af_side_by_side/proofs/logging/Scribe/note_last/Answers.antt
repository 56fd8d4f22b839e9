use Rattle.std.proofs.Common.{◌≡◌, ◌-◌, ◌≤◌, ◌++◌, ℕ, Some, List, length, refl, sym, ap, subst, ◌∙◌, arith, rules}
use Rattle.af_side_by_side.proofs.Common.{CycleEntry, HasLogged, Logged, MixerState, Note, Noted, NotedBy, Refused, ScribeState, Sent, WriterState, accepted, entry_at, kept, note_of, note_steps, writer_made}
use Rattle.af_tally.specs.Steps.{most_note}
use Rattle.af_side_by_side.proofs.LogNotes.{at_last, logged_one}
use Rattle.af_side_by_side.proofs.logging.Scribe.note_last.Goals as goal

pub returns-clause-logged : goal.returns-clause-logged
returns-clause-logged g c =
    let m : MixerState = c.args.fast.now in
    let es : List CycleEntry = m.log.entries in
    let first : ℕ = length es - 1 in
    let w : WriterState = c.in-Some-end.end in
    let w' : WriterState = c.note.new.self in
    let some = c.requires.some in
    let long : c.len-place.result ≡ length es = c.len-place.ensures ∙ ap (λ (l : Logged). length l.entries) c.log-entries.ensures in
    let place : c.len-place.result - 1 ≡ first = ap (λ (n : ℕ). n - 1) long in
    let entry : c.in-Some-entry.entry.now ≡ entry_at es first = c.in-Some-entry.ensures.1 ∙ (λ i. entry_at (c.log-entries.ensures i).entries (place i)) in
    let frames : c.args.frames ≡ m.frames = c.requires.frames in
    let note : c.note_of.result ≡ note_of first (entry_at es first) m.frames = c.note_of.ensures ∙ (λ i. note_of (place i) (entry i) (frames i)) in
    let by = subst (λ (n : Note). NotedBy w.pass.part n c.note.result w'.pass.part) note c.note.ensures.noted in
    let notes = c.note.ensures.notes ∙ ap (λ (n : Note). accepted w ++ kept c.note.result n) note in
    let old : writer_made w ≡ c.in-Some.block = search rules in
    let next : ScribeState = record { end = Some w' } in
    subst (λ (s : ScribeState). HasLogged first m s next) c.self.view_is
    (subst (λ o. HasLogged first m (record { end = o }) next) (sym c.in-Some-end.is)
    (w', refl, logged_one c.note.result first m w w' (entry_at es first) (at_last es first (omega arith)) (omega arith) by notes c.note.ensures.refused (c.note.ensures.made ∙ sym old)))

-- a note takes ten steps at most
few : (noted : Noted) → note_steps noted ≤ most_note
few Sent = omega arith
few (Refused sent known) = omega arith

pub returns-clause-steps : goal.returns-clause-steps
returns-clause-steps g c = let le = few c.note.result in omega (arith, c.note.ensures.steps)
