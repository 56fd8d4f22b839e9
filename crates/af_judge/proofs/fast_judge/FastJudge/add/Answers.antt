use Rattle.std.proofs.Common.{◌≡◌, ◌∷◌, [], ◌++◌, ◌||◌, if◌then◌else◌, ap, ◌∙◌}
use Rattle.af_judge.proofs.Common.{cold_of, is_cold, is_exit, state_of}
use Rattle.af_judge.specs.FastKept.{FastKept, heard_slots}
use Rattle.af_judge.specs.Reporting.{Telling, entry_added, told_at_slot}
use Rattle.af_judge.proofs.fast_judge.FastJudge.add.Goals as goal

pub returns : goal.returns
returns c =
    let v : FastKept = c.args.self.now in
    let states = c.args.states.now in
    let entry = c.args.entry.now in
    let heard = heard_slots c.args.tracks.now c.args.state.now in
    let view = c.self.view_is in
    let told_is : c.self.inside.told ≡ v.told = ap (λ (f : FastKept). f.told) view in
    let told : c.add_played.new.self ≡ entry_added states (told_at_slot heard) entry v.told =
    c.add_played.ensures ∙ ap (λ (t : Telling). entry_added states (told_at_slot heard) entry t) told_is in
    let last : c.report.result ≡ (entry_added states (told_at_slot heard) entry v.told).report = c.report.ensures ∙ ap (λ (t : Telling). t.report) told in
    let reports : c.push.new.self.items ≡ v.reports ++ (entry_added states (told_at_slot heard) entry v.told).report ∷ [] =
    c.in_ok-push.ensures.items ∙ (λ j. (ap (λ (f : FastKept). f.reports) view j) ++ last j ∷ []) in
    let cold : c.cold_after-self-inside.result ≡ (if is_cold entry.cycle then cold_of (state_of states entry.state) else v.cold) =
    c.cold_after-self-inside.ensures ∙ (λ j. if is_cold entry.cycle then cold_of (c.state_of.ensures j) else (ap (λ (f : FastKept). f.cold) view j)) in
    let ended : c.ended_after-self-inside.result ≡ (v.ended || is_exit entry.cycle) = c.ended_after-self-inside.ensures ∙ ap (λ (f : FastKept). f.ended || is_exit entry.cycle) view in
    let before : c.self.inside.before ≡ v.before = ap (λ (f : FastKept). f.before) view in
    let queue : c.self.inside.queue ≡ v.queue = ap (λ (f : FastKept). f.queue) view in
    let pipe : c.self.inside.pipe ≡ v.pipe = ap (λ (f : FastKept). f.pipe) view in
    λ j. record { told = told j; cold = cold j; ended = ended j; before = before j; reports = reports j; queue = queue j; pipe = pipe j }
