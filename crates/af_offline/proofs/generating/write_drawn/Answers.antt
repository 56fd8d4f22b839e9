use Rattle.std.proofs.Common.{◌≡◌, ◌∙◌, ◌≤◌, ◌<◌, ℕ, List, Some, sym, ap, subst, arith, rules}
use Rattle.af_offline.proofs.Common.{LeavesFront, NamedFile, SetsFile, generated_name, with_files}
use Rattle.af_offline.specs.Generated.{generated_file}
use Rattle.af_offline.proofs.Draws.{drawn_none, file_is, state_is}
use Rattle.af_offline.proofs.Generated.{count_stays, drawn_before, drawn_files-none, drawn_more, drawn_up_to}
use Rattle.af_offline.proofs.generating.write_drawn.Goals as goal

pub loop-track-init : goal.loop-track-init
loop-track-init g c =
    let old = g.S.Store.files c.args.store.now in
    record {
      written = (λ told name. ap (λ (files : List NamedFile). with_files old files name) (sym (drawn_files-none c.args.number)));
      tells = (λ told. told);
      stays = (λ k. g.S.Store.faults c.args.store.now);
      state = sym (drawn_none c.args.number);
      bound = c.requires;
    }

pub returns-in_err-drawn-clause-left : goal.returns-in_err-drawn-clause-left
returns-in_err-drawn-clause-left g c = λ told.
    let old = g.S.Store.files c.args.store.now in
    let mid = g.S.Store.files c.loop-track.store in
    let few : c.loop-track.track ≤ 8 = omega (arith, c.loop-track-test.true) in
    let left = drawn_before c.args.number c.loop-track.track old mid few (c.loop-track.invariant.written told) in
    search (rules, left)

pub returns-in_err-write_file-clause-left : goal.returns-in_err-write_file-clause-left
returns-in_err-write_file-clause-left g c = λ told.
    let old = g.S.Store.files c.args.store.now in
    let mid = g.S.Store.files c.loop-track.store in
    let new = g.S.Store.files c.write_file.new.store in
    let track = c.loop-track.track in
    let few : track < 8 = omega (arith, c.loop-track-test.true) in
    let bytes : c.deref.result.now ≡ generated_file c.args.number track =
    c.deref.ensures.value ∙ file_is c.args.number track c.loop-track.state c.in_ok-drawn.drawn.bytes.items c.loop-track.invariant.state c.in_ok-drawn.ensures.bytes in
    let front : LeavesFront mid c.generated_name.result.now c.deref.result.now new = c.in_err-write_file.ensures.left (c.loop-track.invariant.tells told) in
    let here : LeavesFront mid (generated_name track) (generated_file c.args.number track) new =
    subst (λ (one : List ℕ × List ℕ). LeavesFront mid one.0 one.1 new) (λ k. (c.generated_name.ensures.text k, bytes k)) front in
    let left = drawn_up_to c.args.number track old mid new few (c.loop-track.invariant.written told) here in
    search (rules, left)

pub loop-track-preserved : goal.loop-track-preserved
loop-track-preserved g c =
    let l = c.loop-track in
    let old = g.S.Store.files c.args.store.now in
    let mid = g.S.Store.files l.store in
    let new = g.S.Store.files c.write_file.new.store in
    let number = c.args.number in
    let bytes : c.deref.result.now ≡ generated_file number l.track =
    c.deref.ensures.value ∙ file_is number l.track l.state c.in_ok-drawn.drawn.bytes.items l.invariant.state c.in_ok-drawn.ensures.bytes in
    record {
      written = (λ told.
          let set : SetsFile mid c.generated_name.result.now (Some c.deref.result.now) new = c.in_ok-write_file.ensures.written (l.invariant.tells told) in
          drawn_more number l.track old mid new (l.invariant.written told)
          (subst (λ (one : List ℕ × List ℕ). SetsFile mid one.0 (Some one.1) new) (λ k. (c.generated_name.ensures.text k, bytes k)) set));
      tells = (λ told. c.in_ok-write_file.ensures.tells (l.invariant.tells told));
      stays = count_stays c.in_ok-write_file.field-0 (g.S.Store.faults l.store) (g.S.Store.faults c.write_file.new.store) c.in_ok-write_file.ensures.cause ∙ l.invariant.stays;
      state = state_is number l.track l.state c.in_ok-drawn.drawn.state l.invariant.state c.in_ok-drawn.ensures.state;
      bound = c.in_ok-drawn.ensures.bound;
    }
