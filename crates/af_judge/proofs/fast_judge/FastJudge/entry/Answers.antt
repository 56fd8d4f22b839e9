use Rattle.std.proofs.Common.{◌≡◌, subst, sym, ap, ◌∙◌}
use Rattle.af_judge.proofs.Common.{FastState, slots}
use Rattle.af_judge.specs.FastKept.{FastKept, IsMixRight, entry_tracks, fast_added, fast_polled, pipe_played, slots_played}
use Rattle.af_judge.specs.Reporting.{state_in}
use Rattle.af_judge.proofs.fast_judge.FastJudge.entry.Goals as goal

pub returns-clause-tracks : goal.returns-clause-tracks
returns-clause-tracks c =
    let states = c.args.states.now in
    let entry = c.args.entry.now in
    let polled = c.in_ok-poll.ensures in
    let state = c.state-state.ensures ∙ ap (λ (f : FastKept). state_in f.told states entry.state) polled in
    c.in_ok-mixes.ensures.tracks ∙ (λ j. slots_played (polled j).told.asked (state j) c.args.log.now.frames entry slots c.args.tracks.now)

pub returns-clause-told : goal.returns-clause-told
returns-clause-told c =
    let v : FastKept = c.args.self.now in
    let states = c.args.states.now in
    let frames = c.args.log.now.frames in
    let entry = c.args.entry.now in
    let g : FastKept = fast_polled states entry.state v in
    let polled : c.poll.new.self ≡ g = c.in_ok-poll.ensures in
    let state : c.state-state.result ≡ state_in g.told states entry.state = c.state-state.ensures ∙ ap (λ (f : FastKept). state_in f.told states entry.state) polled in
    let tracks : c.mix.new.tracks ≡ entry_tracks states frames entry v c.args.tracks.now =
    c.in_ok-mixes.ensures.tracks ∙ (λ j. slots_played (polled j).told.asked (state j) frames entry slots c.args.tracks.now) in
    let mixed : c.mix.new.self ≡ record g { pipe = pipe_played frames entry g.pipe } =
    c.in_ok-mixes.ensures.told ∙ ap (λ (f : FastKept). let k : FastKept = record f { pipe = pipe_played frames entry f.pipe } in k) polled in
    c.in_ok-add.ensures ∙ (λ j. fast_added states (state j) (tracks j) entry (mixed j))

pub returns-clause-right : goal.returns-clause-right
returns-clause-right c =
    let v : FastKept = c.args.self.now in
    let states = c.args.states.now in
    let entry = c.args.entry.now in
    let g : FastKept = fast_polled states entry.state v in
    let polled : c.poll.new.self ≡ g = c.in_ok-poll.ensures in
    let state : c.state-state.result ≡ state_in g.told states entry.state = c.state-state.ensures ∙ ap (λ (f : FastKept). state_in f.told states entry.state) polled in
    let Q : FastKept → FastState → Type 0 = λ f x. IsMixRight f.told.asked x c.args.log.now.frames entry f.pipe c.args.tracks.now in (
      λ h.
          (let b = c.both.ensures.0 h in
          record {
            follows = c.follows-follows.ensures.0 b.0;
            mixes = subst (λ x. Q g x) state (subst (λ f. Q f c.state-state.result) polled (c.in_ok-mixes.ensures.right.0 b.1));
          }),
      λ r. c.both.ensures.1 (c.follows-follows.ensures.1 r.follows, c.in_ok-mixes.ensures.right.1 (subst (λ f. Q f c.state-state.result) (sym polled) (subst (λ x. Q g x) (sym state) r.mixes))),
    )
