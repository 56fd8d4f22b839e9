use Rattle.std.proofs.Common.{◌≡◌, ◌<◌, if◌then◌else◌, ap, ◌∙◌, sym, refl, List, length, arith}
use Rattle.af_judge.proofs.Common.{FastState, Learnt, TrackKept, TrackTurn, after_ack, learnt_of, length-set, slice_index_or, slot_number, track_at, track_in, track_seen, turn_of, welcomed}
use Rattle.af_judge.proofs.Basics.{there_is}
use Rattle.af_judge.specs.declared.track_judge.TrackJudge.{TrackJudge}
use Rattle.af_judge.specs.NormalJudged.{NormalJudged}
use Rattle.af_judge.specs.NormalTold.{IsTrackAt}
use Rattle.af_judge.proofs.NormalKept.{found_slot}
use Rattle.af_judge.proofs.NormalTells.{found_is, one_told, one_right}
use Rattle.af_judge.proofs.ServedAll.{seen_is}
use Rattle.af_judge.proofs.normal_judge.NormalJudge.tell_all.Goals as goal

pub heard-heard-requires : goal.heard-heard-requires
heard-heard-requires c =
    let is = ap slot_number (c.found-found.ensures) ∙ found_slot c.args.entry.now.ack c.args.self.now.last c.track_at.result
    ∙ ap slot_number (c.track_at.ensures ∙ ap (λ ts. track_at ts c.loop-i.i) (c.tracks.ensures ∙ ap (λ (j : NormalJudged). j.plain.kept.tracks) c.self.view_is)) in
    let there = (c.requires.judged.small.tracks c.loop-i.i).slot in
    record { slot = omega (arith, is, there) }

pub loop-i-preserved : goal.loop-i-preserved
loop-i-preserved c =
    let m = c.args.self.now.plain.kept in
    let e = turn_of c.args.entry.now in
    let lt = c.loop-i-test.true in
    let sizes = c.requires.sizes in
    let in_tracks : c.loop-i.i < length m.tracks = omega (arith, lt, sizes) in
    let here : c.track_at.result ≡ track_at m.tracks c.loop-i.i = c.track_at.ensures ∙ ap (λ (ts : List TrackKept). track_at ts c.loop-i.i) (c.tracks.ensures ∙ ap (λ (j : NormalJudged). j.plain.kept.tracks) c.self.view_is) in
    let found : c.found-found.result ≡ track_at (after_ack e.ack m).tracks c.loop-i.i = c.found-found.ensures
    ∙ ap (λ (t : TrackKept). if c.args.entry.now.ack then welcomed c.args.self.now.last t else t) here
    ∙ ap (λ (x : FastState). if c.args.entry.now.ack then welcomed x (track_at m.tracks c.loop-i.i) else track_at m.tracks c.loop-i.i) c.requires.judged.last
    ∙ sym (found_is c.args.entry.now.ack m c.loop-i.i in_tracks) in
    let t : TrackJudge = slice_index_or c.loop-i.tracks c.loop-i.i c.index-tracks-i.result in
    let many = c.loop-i.invariant.many in
    let at : IsTrackAt c.loop-i.tracks c.loop-i.i t = there_is c.loop-i.tracks c.loop-i.i c.index-tracks-i.result (omega (arith, lt, many)) in
    let k : Learnt = learnt_of c.args.report.now c.args.own.now in
    let seen : track_seen c.index-as_slice-i.result ≡ track_in e c.loop-i.i =
    sym (seen_is c.args.entry.now.tracks.items c.loop-i.i c.index-as_slice-i.result (omega (arith, lt, sizes))
    (c.index-as_slice-i.is ∙ ap (λ (ts : List TrackTurn). slice_index_or ts c.loop-i.i c.index-as_slice-i.result) c.as_slice.ensures)) in
    let l = length-set c.loop-i.tracks c.loop-i.i c.tell.new.track in
    record {
      many = omega (arith, l, many);
      told = one_told k m e c.args.tracks.now c.loop-i.tracks c.loop-i.i t c.loop-i.invariant.told lt at c.tell.new.track c.found-found.result c.heard-heard.result (track_seen c.index-as_slice-i.result) found
          (c.heard-heard.ensures k c.loop-i.i refl refl) seen c.in_ok-right.ensures.told;
      right = one_right k m e c.args.tracks.now c.loop-i.tracks c.loop-i.i t c.loop-i.invariant.told lt at c.loop-i.right c.in_ok-right.field-0 (track_seen c.index-as_slice-i.result) seen c.loop-i.invariant.right c.in_ok-right.ensures.right;
    }
