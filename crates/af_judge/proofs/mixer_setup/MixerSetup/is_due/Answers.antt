use Rattle.std.proofs.Common.{sym, ap, ◌∙◌}
use Rattle.af_judge.proofs.Common.{TrackKept, learnt_of, track_seen}
use Rattle.af_judge.proofs.ServedExactly.{living}
use Rattle.af_judge.proofs.mixer_setup.MixerSetup.is_due.Goals as goal

pub returns : goal.returns
returns c = let e = c.ready.ensures in
    living c.args.self.now (learnt_of c.args.report.now c.args.own.now) (track_seen c.args.seen.now) c.args.tracks.now c.args.i c.ready.result.given c.ready.result.heard c.ready.result.track c.is_served.result (sym (ap (λ (t : TrackKept). t.life.ended) c.track_at.ensures) ∙ c.if-track_at.false) e.given e.heard e.track c.is_served.ensures
