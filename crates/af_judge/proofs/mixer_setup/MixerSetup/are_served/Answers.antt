use Rattle.std.proofs.Common.{◌+◌, ◌<◌, refl, ap, sym, ◌∙◌, List, length, map, arith}
use Rattle.af_judge.proofs.Common.{Learnt, LegalTrack, TrackSeen, TrackTurn, all_more, learnt_of, seen_at, served_to, track_seen}
use Rattle.af_judge.proofs.ServedAll.{seen_is, looks_are, as_many, slot_is, settled_is, next, legal_so}
use Rattle.af_judge.proofs.mixer_setup.MixerSetup.are_served.Goals as goal

there : (c : goal.After-index-turns-i) → c.loop-i.i < length c.args.tracks.items
there c = let a = c.loop-i-test.true in let b = c.len-i-end.ensures in omega (arith, a, b)

in_turns : (c : goal.After-index-turns-i) → c.loop-i.i < length c.args.turns.now
in_turns c = let a = there c in let b = c.requires.sizes in omega (arith, a, b)

pub is_due-requires-clause-track : goal.is_due-requires-clause-track
is_due-requires-clause-track c =
    let l = as_many c.args.self.now (learnt_of c.args.report.now c.args.own.now) (map track_seen c.args.turns.now) c.args.tracks.items c.deref.result.now c.loop-i.i (c.deref.ensures.value ∙ c.loop-i.invariant.so_far) in
    let t = there c in let s = c.requires.sizes in (omega (arith, l, t), omega (arith, t, s), omega (arith, t, s))

pub is_due-requires-clause-slot : goal.is_due-requires-clause-slot
is_due-requires-clause-slot c = let a = slot_is c.args.self.now (learnt_of c.args.report.now c.args.own.now) (map track_seen c.args.turns.now) c.args.tracks.items c.deref.result.now c.loop-i.i (c.deref.ensures.value ∙ c.loop-i.invariant.so_far) in let b = c.requires.slots c.loop-i.i in omega (arith, a, b)

pub is_due-requires-clause-room : goal.is_due-requires-clause-room
is_due-requires-clause-room c =
    let a = settled_is c.args.self.now (learnt_of c.args.report.now c.args.own.now) (map track_seen c.args.turns.now) c.args.tracks.items c.deref.result.now c.loop-i.i (c.deref.ensures.value ∙ c.loop-i.invariant.so_far) in
    let b = looks_are c.args.turns.now c.loop-i.i c.index-turns-i.result _ (in_turns c) c.index-turns-i.is refl in let r = c.requires.room c.loop-i.i in omega (arith, a, b, r)

pub served-requires-clause-track : goal.served-requires-clause-track
served-requires-clause-track c =
    let l = as_many c.args.self.now (learnt_of c.args.report.now c.args.own.now) (map track_seen c.args.turns.now) c.args.tracks.items c.deref-in-loop-i.result.now c.loop-i.i (c.deref-in-loop-i.ensures.value ∙ c.loop-i.invariant.so_far) in
    let t = c.loop-i-test.true in let e = c.len-i-end.ensures in let s = c.requires.sizes in (omega (arith, l, t, e), omega (arith, t, e, s), omega (arith, t, e, s))

pub served-requires-clause-slot : goal.served-requires-clause-slot
served-requires-clause-slot c = let a = slot_is c.args.self.now (learnt_of c.args.report.now c.args.own.now) (map track_seen c.args.turns.now) c.args.tracks.items c.deref-in-loop-i.result.now c.loop-i.i (c.deref-in-loop-i.ensures.value ∙ c.loop-i.invariant.so_far) in let b = c.requires.slots c.loop-i.i in omega (arith, a, b)

pub served-requires-clause-room : goal.served-requires-clause-room
served-requires-clause-room c =
    let a = settled_is c.args.self.now (learnt_of c.args.report.now c.args.own.now) (map track_seen c.args.turns.now) c.args.tracks.items c.deref-in-loop-i.result.now c.loop-i.i (c.deref-in-loop-i.ensures.value ∙ c.loop-i.invariant.so_far) in
    let t = c.loop-i-test.true in let e = c.len-i-end.ensures in let s = c.requires.sizes in
    let l = looks_are c.args.turns.now c.loop-i.i c.index-turns-i-in-loop-i.result c.as_slice.result.now (omega (arith, t, e, s)) c.index-turns-i-in-loop-i.is (c.as_slice.ensures ∙ sym (ap (λ (x : TrackTurn). x.looks.items) c.index-turns-i-in-loop-i.is)) in let r = c.requires.room c.loop-i.i in
    omega (arith, a, l, r)

pub loop-i-preserved : goal.loop-i-preserved
loop-i-preserved c =
    let k : Learnt = learnt_of c.args.report.now c.args.own.now in
    let seen : List TrackSeen = map track_seen c.args.turns.now in
    let t = c.loop-i-test.true in let e = c.len-i-end.ensures in let s = c.requires.sizes in
    let there : c.loop-i.i < length c.args.turns.now = omega (arith, t, e, s) in
    record {
      so_far = next c.args.self.now k seen c.args.tracks.items c.loop-i.tracks.items c.loop-i.i c.loop-i.invariant.so_far c.deref-in-loop-i.result.now c.as_slice.result.now c.served.result (c.loop-i.i + 1) c.deref-in-loop-i.ensures.value
          (c.as_slice.ensures ∙ sym (ap (λ (x : TrackTurn). x.looks.items) c.index-turns-i-in-loop-i.is) ∙ sym (ap (λ (x : TrackSeen). x.looks) (seen_is c.args.turns.now c.loop-i.i c.index-turns-i-in-loop-i.result there c.index-turns-i-in-loop-i.is))) c.served.ensures (omega arith);
      legal = all_more (λ j. LegalTrack c.args.self.now k (seen_at seen j) (served_to c.args.self.now k seen c.args.tracks.items j) j) c.loop-i.i c.loop-i.invariant.legal
          ((legal_so c.args.self.now k seen c.args.tracks.items c.deref.result.now c.loop-i.i (c.deref.ensures.value ∙ c.loop-i.invariant.so_far) (track_seen c.index-turns-i.result) c.is_due.result
          (sym (seen_is c.args.turns.now c.loop-i.i c.index-turns-i.result there c.index-turns-i.is)) c.is_due.ensures).0 c.if-not-is_due.false);
    }
