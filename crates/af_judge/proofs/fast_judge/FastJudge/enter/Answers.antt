use Rattle.std.proofs.Common.{◌≡◌, ℕ, ◌<◌, List, drop, get_or, length, length-drop, sym, ◌∙◌, arith}
use Rattle.af_judge.proofs.Common.{CycleEntry, get_or-drop, no_entry}
use Rattle.af_judge.specs.EntriesTold.{playing}
use Rattle.af_judge.proofs.EntriesStep.{leaves_so, right_so, step_right, step_told}
use Rattle.af_judge.proofs.fast_judge.FastJudge.enter.Goals as goal

pub loop-at-preserved : goal.loop-at-preserved
loop-at-preserved c =
    let states = c.args.states.now in
    let frames = c.args.log.now.frames in
    let first = c.args.entries.first in
    let log = c.args.log.now.entries in
    let at : ℕ = c.loop-at.at in
    let es : List CycleEntry = drop first log in
    let f = c.loop-at.self in
    let tracks = c.loop-at.tracks in
    let before = playing c.args.self.now c.args.tracks.now in
    let now = playing f tracks in
    let entry = c.in-Some.entry.now in
    let inv = c.loop-at.invariant in
    let answers = c.in_ok-legal.ensures in
    let low : at < length es = omega (arith, length-drop first log, c.in-Some.ensures.0) in
    let is : entry ≡ get_or es at no_entry = c.in-Some.ensures.1 ∙ sym (get_or-drop first log at no_entry) in
    record {
      told = step_told states frames es at entry before now low is inv.told (playing c.entry-in-loop-at.new.self c.entry-in-loop-at.new.tracks) (leaves_so states frames entry f c.entry-in-loop-at.new.self tracks c.entry-in-loop-at.new.tracks answers.told answers.tracks);
      right = step_right states frames es at entry before now low is inv.told c.loop-at.right c.in_ok-legal.legal c.both-right.result c.both-right.ensures inv.right (right_so states frames entry f tracks c.in_ok-legal.legal answers.right);
    }
