use Rattle.std.proofs.Common.{◌≡◌, ◌<◌, ap, ◌∙◌, length, List, arith}
use Rattle.af_life.proofs.Common.{CommandLook, turn_of}
use Rattle.af_life.specs.declared.kept.TrackKept.{TrackKept}
use Rattle.af_life.specs.Kept.{track_at, slot_number}
use Rattle.af_life.specs.Plain.{Plain, learnt_of}
use Rattle.af_life.proofs.Lives.{served_len, not_yet}
use Rattle.af_life.proofs.Weights.{looks_up_to}
use Rattle.af_life.proofs.plain.PlainMixer.serve_all.Goals as goal

-- the tracks are as many as at first
tracks_len : (c : goal.After-looks_at) → length c.loop-i.self.kept.tracks ≡ length c.args.self.now.kept.tracks
tracks_len c = ap (λ (p : Plain). length p.kept.tracks) c.loop-i.invariant
    ∙ served_len c.args.self.now.setup (learnt_of c.args.report.now c.args.own.now) (turn_of c.args.entry.now).tracks c.args.self.now.kept.tracks c.loop-i.i

-- the track that is served now is as it was
track_is : (c : goal.After-looks_at) → track_at c.loop-i.self.kept.tracks c.loop-i.i ≡ track_at c.args.self.now.kept.tracks c.loop-i.i
track_is c = ap (λ (p : Plain). track_at p.kept.tracks c.loop-i.i) c.loop-i.invariant
    ∙ not_yet c.args.self.now.setup (learnt_of c.args.report.now c.args.own.now) (turn_of c.args.entry.now).tracks c.args.self.now.kept.tracks c.loop-i.i c.loop-i.i (omega arith)

there : (c : goal.After-looks_at) → c.loop-i.i < length c.args.self.now.kept.tracks
there c = let v = ap (λ (p : Plain). length p.kept.tracks) c.self.view_is in let t = c.loop-i-test.true in let e = c.len-i-end.ensures in omega (arith, v, t, e)

pub served-requires-clause-track : goal.served-requires-clause-track
served-requires-clause-track c = let l = tracks_len c in let t = there c in let own = c.requires.own in let w = c.requires.small.whole in
    let s = ap (λ (p : Plain). length p.setup.settings) c.loop-i.invariant in (omega arith, omega arith, omega arith)

pub served-requires-clause-slot : goal.served-requires-clause-slot
served-requires-clause-slot c = let e = ap slot_number (track_is c) in let s = (c.requires.small.tracks c.loop-i.i).slot in omega arith

pub served-requires-clause-room : goal.served-requires-clause-room
served-requires-clause-room c = let e = ap (λ (t : TrackKept). t.settled) (track_is c) in let s = (c.requires.small.tracks c.loop-i.i).settled in
    let few = looks_up_to (turn_of c.args.entry.now) c.loop-i.i in let looks = ap (λ (ls : List CommandLook). length ls) c.looks_at.ensures in let n = c.requires.turns in omega arith

pub index_mut-requires : goal.index_mut-requires
index_mut-requires c =
    let now = ap (λ (p : Plain). length p.kept.tracks) c.self-in-loop-i.view_is in
    let same = ap (λ (p : Plain). length p.kept.tracks) c.loop-i.invariant
    ∙ served_len c.args.self.now.setup (learnt_of c.args.report.now c.args.own.now) (turn_of c.args.entry.now).tracks c.args.self.now.kept.tracks c.loop-i.i in
    let first = ap (λ (p : Plain). length p.kept.tracks) c.self.view_is in
    let count = c.len-i-end.ensures in
    let below = c.loop-i-test.true in
    omega arith
