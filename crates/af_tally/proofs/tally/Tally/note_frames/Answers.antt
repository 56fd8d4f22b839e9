use Rattle.std.proofs.Common.{◌≡◌, max, ap, ◌∙◌}
use Rattle.af_base.specs.Mix.{peak_of}
use Rattle.af_tally.specs.Tallies.{Tallied}
use Rattle.af_tally.proofs.Tallying.{frames_noted}
use Rattle.af_tally.proofs.tally.Tally.note_frames.Goals as goal

pub returns-clause-tally : goal.returns-clause-tally
returns-clause-tally c = λ run is.
    let now = c.args.self.now in
    let inside = c.self.inside in
    let view = c.self.view_is in
    let peak : c.max-self-inside.result ≡ max now.peak (peak_of c.args.written.now) =
    c.max-self-inside.ensures ∙ (λ i. max (view i).peak (c.peak_of.ensures i)) in
    frames_noted run now (record { tracks = inside.tracks.items; cycles = inside.cycles; looks = inside.looks; peak = c.max-self-inside.result; steps = inside.steps.items }) c.args.written.now
    (ap (λ (t : Tallied). t.tracks) view) (ap (λ (t : Tallied). t.cycles) view) (ap (λ (t : Tallied). t.looks) view) peak (ap (λ (t : Tallied). t.steps) view) is
