use Rattle.std.proofs.Common.{◌∙◌, replicate, ap}
use Rattle.af_normal.proofs.Common.{TrackKept}
use Rattle.af_normal.proofs.make.new_lives.Goals as goal

pub returns-clause-tracks : goal.returns-clause-tracks
returns-clause-tracks c = c.in_ok-tracks.ensures.items_if_clones_equal (λ y e. e) ∙ ap (λ (t : TrackKept). replicate c.args.count t) c.new_track.ensures
