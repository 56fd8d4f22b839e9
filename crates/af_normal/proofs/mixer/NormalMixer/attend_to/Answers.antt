use Rattle.std.proofs.Common.{◌≡◌, ℕ, List, length, map, slice_set, Option, sym, ap, ◌∙◌, subst, arith, length-set}
use Rattle.af_normal.proofs.Common.{HandSide, Heard, ServerState, TrackKept, TrackSeen, after_part, get_or_default, heard_by, new_track, noted, report_at, settled_at, slot_for, slot_number, track_at, track_seen, with_items, with_items_is}
use Rattle.af_normal.specs.Mixing.{stream_at}
use Rattle.af_normal.specs.Ready.{AreOwn, serving_of}
use Rattle.af_normal.specs.Serving.{known_at}
use Rattle.af_normal.specs.State.{NormalState, setup_of}
use Rattle.af_normal.proofs.ServedBy.{at_same, serves_by, by_own, made_ready}
use Rattle.af_normal.proofs.mixer.NormalMixer.attend_to.Goals as goal

pub own-own-requires-clause-order : goal.own-own-requires-clause-order
own-own-requires-clause-order g c = λ s e. (c.requires.own.stream_is s e).in_order

pub returns-clause-own : goal.returns-clause-own
returns-clause-own g c =
    subst (λ (d : List (Option ServerState) × List ServerState × List HandSide). AreOwn c.args.links.now d.0 d.1 d.2 c.args.i)
    (λ j. (
      sym (with_items_is c.self.inside.streams c.attend_at.new.streams (let a = c.attend_at.auto.streams in let v = ap length c.deref_mut.ensures.value in let o = c.self.inside.streams.ok.0 in omega arith)) j,
      sym (with_items_is c.self.inside.commands c.attend_at.new.commands (let a = c.attend_at.auto.commands in let v = ap length c.deref_mut-2.ensures.value in let o = c.self.inside.commands.ok.0 in omega arith)) j,
      sym (with_items_is c.self.inside.hands c.attend_at.new.hands (let a = c.attend_at.auto.hands in let v = ap length c.deref_mut-3.ensures.value in let o = c.self.inside.hands.ok.0 in omega arith)) j,
    )) c.attend_at.ensures.own

pub returns-clause-serves : goal.returns-clause-serves
returns-clause-serves g c = λ k r o.
    let i : ℕ = c.args.i in
    let x : NormalState = c.args.self.now in
    let seen : TrackSeen = track_seen c.attend_at.new.seen in
    let own : Heard = c.own-own.result in
    let n : TrackKept = track_at x.tracks i in
    let tracks : c.self.inside.tracks.items ≡ x.tracks = ap (λ (m : NormalState). m.tracks) c.self.view_is in
    let long = ap length tracks in let inside_lt = c.requires.track.0 in
    let here : c.index-track.result.now ≡ n = c.index-track.ensures ∙ get_or_default c.self.inside.tracks.items c.args.i c.index-track.result.now new_track (omega arith) ∙ ap (λ (l : List TrackKept). track_at l c.args.i) tracks in
    let reported : c.slot_reported-reported.result ≡ report_at c.args.report.now.slots (slot_number n) = c.slot_reported-reported.ensures ∙ ap (λ (t : TrackKept). report_at c.args.report.now.slots (slot_number t)) here in
    let eh : c.heard-heard.result ≡ by_own (setup_of x) k i (serving_of x) (serving_of x) seen c.args.report.now own = c.heard-heard.ensures ∙ (λ j. heard_by own (reported j) (here j)) in
    let er : c.settled_at-ready.result ≡ made_ready (setup_of x) k i (serving_of x) (serving_of x) seen c.args.report.now own = c.settled_at-ready.ensures.settles ∙ (λ j. settled_at (eh j).flush_seen ((c.noted.ensures.noted ∙ (λ l. noted (reported l) (here l))) j)) in
    let eg : c.slot_for-given.result ≡ slot_for (setup_of x) x.tracks i = c.slot_for-given.ensures in
    let own_is : own ≡ known_at (stream_at x.streams i) = c.own-own.ensures in
    let ps : c.deref_mut.result.now ≡ x.streams = c.deref_mut.ensures.value ∙ ap (λ (m : NormalState). m.streams) c.self.view_is in
    let pc : c.deref_mut-2.result.now ≡ x.commands = c.deref_mut-2.ensures.value ∙ ap (λ (m : NormalState). m.commands) c.self.view_is in
    let pf : c.deref_mut-3.result.now ≡ x.hands = c.deref_mut-3.ensures.value ∙ ap (λ (m : NormalState). m.hands) c.self.view_is in
    let pt = sym (with_items_is c.self.inside.streams c.attend_at.new.streams (let a = c.attend_at.auto.streams in let v = ap length c.deref_mut.ensures.value in let o = c.self.inside.streams.ok.0 in omega arith)) in
    let pd = sym (with_items_is c.self.inside.commands c.attend_at.new.commands (let a = c.attend_at.auto.commands in let v = ap length c.deref_mut-2.ensures.value in let o = c.self.inside.commands.ok.0 in omega arith)) in
    let pe = sym (with_items_is c.self.inside.hands c.attend_at.new.hands (let a = c.attend_at.auto.hands in let v = ap length c.deref_mut-3.ensures.value in let o = c.self.inside.hands.ok.0 in omega arith)) in
    let full : c.attend_at.result ≡ after_part (slot_for (setup_of x) x.tracks i) (by_own (setup_of x) k i (serving_of x) (serving_of x) seen c.args.report.now own) seen.looks (made_ready (setup_of x) k i (serving_of x) (serving_of x) seen c.args.report.now own) =
    c.attend_at.ensures.track ∙ (λ j. after_part (eg j) (eh j) seen.looks (er j)) in
    serves_by (setup_of x) k i (serving_of x) _ seen c.args.report.now own r (o ∙ sym own_is) c.requires.lives
    (at_same i seen c.slot_for-given.result (slot_for (setup_of x) x.tracks i) c.heard-heard.result _ c.settled_at-ready.result _ c.deref_mut.result.now x.streams c.attend_at.new.streams _ c.deref_mut-2.result.now x.commands c.attend_at.new.commands _ c.deref_mut-3.result.now x.hands c.attend_at.new.hands _
    eg eh er ps pc pf pt pd pe c.attend_at.ensures.attends)
    (λ j. slice_set (tracks j) c.args.i (full j))
    (ap (λ (m : NormalState). map track_seen m.entry.tracks.items) c.self.view_is)

pub returns-clause-same : goal.returns-clause-same
returns-clause-same g c =
    ap (λ (m : NormalState). record m {
      tracks = slice_set c.self.inside.tracks.items c.args.i c.attend_at.result;
      streams = (with_items c.self.inside.streams c.attend_at.new.streams).items;
      commands = (with_items c.self.inside.commands c.attend_at.new.commands).items;
      hands = (with_items c.self.inside.hands c.attend_at.new.hands).items;
    }) c.self.view_is

pub invariant_of-self : goal.invariant_of-self
invariant_of-self g c =
    let whole = c.self.invariant in
    (whole.0, whole.1, whole.2, omega (arith, length-set c.self.inside.tracks.items c.args.i c.attend_at.result))
