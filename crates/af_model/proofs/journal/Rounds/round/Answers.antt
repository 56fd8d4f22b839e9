use Rattle.std.proofs.Common.{◌≡◌, ◌<◌, ◌+◌, length, map, take, slice_index_or, ap, ◌∙◌, rules, arith}
use Rattle.af_model.proofs.Common.{length-map}
use Rattle.af_model.specs.Journals.{RoundsNoted, cycles_of}
use Rattle.af_model.specs.Noting.{round_noted}
use Rattle.af_model.proofs.Journals.{first-place}
use Rattle.af_model.proofs.journal.Rounds.round.Goals as goal

pub returns-clause-first : goal.returns-clause-first
returns-clause-first c = let rounds = c.self.inside.rounds.items in
    let same : length (map round_noted rounds) ≡ length c.args.self.now.rounds = ap (λ (r : RoundsNoted). length r.rounds) c.self.view_is in
    let inside : c.args.round < length rounds = let e = length-map rounds round_noted in let f = c.requires in omega arith in
    let here : c.index.result.now ≡ slice_index_or rounds c.args.round c.index.result.now = search rules in
    let place : (slice_index_or rounds c.args.round c.index.result.now).first ≡ cycles_of (take c.args.round (map round_noted rounds)) =
    let e = first-place 0 rounds c.args.round c.index.result.now c.self.invariant.0 inside in omega arith in
    ap (λ r. r.first) here ∙ place ∙ ap (λ (r : RoundsNoted). cycles_of (take c.args.round r.rounds)) c.self.view_is
