use Rattle.std.proofs.Common.{◌≡◌, ◌+◌, ◌≤◌, true, ℕ, length, List, [], ◌∷◌, ◌++◌, sym, ap, ◌∙◌, subst, length-append, arith}
use Rattle.af_normal.proofs.Common.{CommandLook, TrackKept, after_all, after_look, after_looks, all_go_on, are_due, goes_on}
use Rattle.af_normal.specs.Commands.{LooksMade}
use Rattle.af_normal.proofs.OneMore.{push_made, one_more, last_due, all_due, all_after}
use Rattle.af_life.proofs.LooksSoFar.{still_on, after-push}
use Rattle.af_life.proofs.Settles.{settles_one}
use Rattle.af_normal.proofs.commands.look_at_commands.Goals as goal

pub returns-then-not-goes_on-clause-looks : goal.returns-then-not-goes_on-clause-looks
returns-then-not-goes_on-clause-looks g c =
    subst (λ (xs : List CommandLook). LooksMade c.args.server.now xs c.look_once-look.new.server) (sym (ap (λ l. l.items) c.push.ensures))
    (push_made c.args.server.now c.loop-made.server c.look_once-look.new.server c.loop-made.looks.items c.look_once-look.result c.loop-made.invariant.looks c.look_once-look.ensures.looks)

pub returns-then-not-goes_on-clause-due : goal.returns-then-not-goes_on-clause-due
returns-then-not-goes_on-clause-due g c =
    let i = c.loop-made.invariant in
    let stepped : c.after_look-track.result ≡ after_look c.args.given c.args.flush_seen c.look_once-look.result (after_all c.args.given c.args.flush_seen c.args.track c.loop-made.looks.items) =
    c.after_look-track.ensures ∙ ap (λ (t : TrackKept). after_look c.args.given c.args.flush_seen c.look_once-look.result t) i.track in
    ap (λ l. are_due 64 c.args.given c.args.flush_seen l.items c.args.track) c.push.ensures
    ∙ last_due c.args.given c.args.flush_seen c.args.track c.loop-made.looks.items c.look_once-look.result 64 i.all (let a = c.loop-made-test.true in let b = i.count in omega arith)
    (ap (λ (t : TrackKept). goes_on c.look_once-look.result t) (sym stepped) ∙ sym c.goes_on.ensures ∙ c.if-not-goes_on.true)

pub returns-then-not-goes_on-clause-track : goal.returns-then-not-goes_on-clause-track
returns-then-not-goes_on-clause-track g c =
    let i = c.loop-made.invariant in
    c.after_look-track.ensures ∙ ap (λ (t : TrackKept). after_look c.args.given c.args.flush_seen c.look_once-look.result t) i.track
    ∙ sym (one_more c.args.given c.args.flush_seen c.args.track c.loop-made.looks.items c.look_once-look.result i.all)
    ∙ ap (λ l. after_looks c.args.given c.args.flush_seen l.items c.args.track) (sym c.push.ensures)

pub loop-made-preserved : goal.loop-made-preserved
loop-made-preserved g c =
    let i = c.loop-made.invariant in
    let now : List CommandLook = c.loop-made.looks.items in
    let look : CommandLook = c.look_once-look.result in
    let pushed : c.push.new.self.items ≡ now ++ look ∷ [] = ap (λ l. l.items) c.push.ensures in
    let stepped : c.after_look-track.result ≡ after_look c.args.given c.args.flush_seen look (after_all c.args.given c.args.flush_seen c.args.track now) =
    c.after_look-track.ensures ∙ ap (λ (t : TrackKept). after_look c.args.given c.args.flush_seen look t) i.track in
    let on : goes_on look c.after_look-track.result ≡ true = sym c.goes_on.ensures ∙ c.if-not-goes_on.false in
    record {
      ready = c.look_once-look.ensures.ready;
      looks = subst (λ (xs : List CommandLook). LooksMade c.args.server.now xs c.look_once-look.new.server) (sym pushed)
          (push_made c.args.server.now c.loop-made.server c.look_once-look.new.server now look i.looks c.look_once-look.ensures.looks);
      all = ap (λ (xs : List CommandLook). all_go_on c.args.given c.args.flush_seen xs c.args.track) pushed
          ∙ still_on c.args.given c.args.flush_seen c.args.track now look i.all (ap (λ (t : TrackKept). goes_on look t) (sym stepped) ∙ on);
      track = stepped ∙ sym (after-push c.args.given c.args.flush_seen c.args.track now look) ∙ ap (λ (xs : List CommandLook). after_all c.args.given c.args.flush_seen c.args.track xs) (sym pushed);
      count = ap (λ (xs : List CommandLook). length xs) pushed ∙ length-append now (look ∷ []) ∙ ap (λ (n : ℕ). n + 1) i.count;
      room = ap (λ l. l.room) c.push.ensures ∙ i.room;
      few = (let a : (after_look c.args.given c.args.flush_seen look c.loop-made.track).settled ≤ c.loop-made.track.settled + 1 = settles_one c.args.given c.args.flush_seen look c.loop-made.track in
          let b = i.few in let e : c.after_look-track.result.settled ≡ (after_look c.args.given c.args.flush_seen look c.loop-made.track).settled = ap (λ (t : TrackKept). t.settled) c.after_look-track.ensures in omega arith);
    }

pub returns-clause-due : goal.returns-clause-due
returns-clause-due g c =
    let i = c.loop-made.invariant in
    let full : 64 ≡ length c.loop-made.looks.items = (let a = i.count in omega arith) in
    ap (λ (n : ℕ). are_due n c.args.given c.args.flush_seen c.loop-made.looks.items c.args.track) full ∙ all_due c.args.given c.args.flush_seen c.args.track c.loop-made.looks.items i.all

pub returns-clause-track : goal.returns-clause-track
returns-clause-track g c =
    let i = c.loop-made.invariant in i.track ∙ sym (all_after c.args.given c.args.flush_seen c.args.track c.loop-made.looks.items i.all)

pub returns-then-not-goes_on-clause-few : goal.returns-then-not-goes_on-clause-few
returns-then-not-goes_on-clause-few g c =
    let one = settles_one c.args.given c.args.flush_seen c.look_once-look.result c.loop-made.track in
    let is = ap (λ (t : TrackKept). t.settled) c.after_look-track.ensures in
    let few = c.loop-made.invariant.few in
    let below = c.loop-made-test.true in
    omega arith
