use Rattle.std.proofs.Common.{◌≡◌, ◌∙◌, ◌<◌, List, Ok, Err, Result, Vec, Global, length, arith, subst, sym}
use Rattle.af_offline.proofs.Common.{Files, Frame, files_are}
use Rattle.af_offline.specs.Asked.{track_file_in, tracks_in}
use Rattle.af_offline.specs.Loading.{file_view}
use Rattle.af_offline.specs.Status.{HasFault, Meets}
use Rattle.af_offline.specs.declared.status.Refusal.{Refusal}
use Rattle.af_offline.proofs.Chains.{Meets-memory, passed_on}
use Rattle.af_offline.proofs.Loads.{AreServed-step, all_served, fault_passed, faultless_memory, faultless_ok, faults_stay, tracks_done, tracks_step, tracks_stopped}
use Rattle.af_offline.proofs.load.load_tracks.Goals as goal

pub loop-number-preserved : goal.loop-number-preserved
loop-number-preserved g c =
    let l = c.loop-number in
    let track = c.index-tracks-number.result in
    let file = c.in_ok-file.file in
    let told_file = c.in_ok-file.ensures in
    let lt : l.number < length c.args.tracks.now = omega (arith, c.loop-number-test.true, l.auto.number-end) in
    record {
      told = (λ told.
          let first = g.S.Store.files c.args.store.now in
          let here : track_file_in first l.number l.total track ≡ Ok (file.pcm, file.total) =
          subst (λ (files : Files). track_file_in files l.number l.total track ≡ Ok (file.pcm, file.total)) (files_are first (g.S.Store.files l.store) (l.invariant.same told)) (told_file.file (l.invariant.tells told)) in
          l.invariant.told told
          ∙ tracks_step first l.number l.total file.total c.args.tracks.now track file.pcm l.files.items c.push.new.self.items lt c.index-tracks-number.is here c.in_ok-push.ensures.items);
      same = (λ told name. told_file.same (l.invariant.tells told) name ∙ l.invariant.same told name);
      tells = (λ told. told_file.tells (l.invariant.tells told));
      stays = faults_stay file (g.S.Store.faults l.store) (g.S.Store.faults c.load_track.new.store) told_file.cause ∙ l.invariant.stays;
      total = told_file.total;
      have = AreServed-step c.args.tracks.now l.files.items c.push.new.self.items l.number track file.pcm lt c.index-tracks-number.is l.invariant.have told_file.serves c.in_ok-push.ensures.items;
    }

pub returns-clause-serve : goal.returns-clause-serve
returns-clause-serve g c =
    let l = c.loop-number in
    all_served c.args.tracks.now l.files.items l.number (omega (arith, c.loop-number-test.false, l.auto.number-end)) l.invariant.have

pub returns-in_err-file-clause-files : goal.returns-in_err-file-clause-files
returns-in_err-file-clause-files g c = λ told.
    let l = c.loop-number in
    let first = g.S.Store.files c.args.store.now in
    let track = c.index-tracks-number.result in
    let e = c.in_err-file.field-0.0 in
    let lt : l.number < length c.args.tracks.now = omega (arith, c.loop-number-test.true, l.auto.number-end) in
    let here : Meets file_view (Err e) (track_file_in first l.number l.total track) =
    subst (λ (files : Files). Meets file_view (Err e) (track_file_in files l.number l.total track)) (files_are first (g.S.Store.files l.store) (l.invariant.same told)) (c.in_err-file.ensures.file (l.invariant.tells told)) in
    let stopped : Meets (λ (files : Vec (List Frame) Global). files.items) (Err e) (tracks_in first 0 0 c.args.tracks.now) =
    subst (λ (r : Result (List (List Frame)) Refusal). Meets (λ (files : Vec (List Frame) Global). files.items) (Err e) r) (sym (l.invariant.told told))
    (tracks_stopped (λ (files : Vec (List Frame) Global). files.items) first l.number l.total c.args.tracks.now track l.files.items e lt c.index-tracks-number.is here) in
    passed_on (λ r. Meets (λ (files : Vec (List Frame) Global). files.items) r (tracks_in first 0 0 c.args.tracks.now)) c.from_residual.result e stopped c.from_residual.ensures.1

pub returns-in_err-file-clause-cause : goal.returns-in_err-file-clause-cause
returns-in_err-file-clause-cause g c =
    let before = g.S.Store.faults c.args.store.now in
    let now = g.S.Store.faults c.load_track.new.store in
    let e = c.in_err-file.field-0.0 in
    let since : HasFault {X = Vec (List Frame) Global} before now (Err e) = fault_passed e before (g.S.Store.faults c.loop-number.store) now c.loop-number.invariant.stays c.in_err-file.ensures.cause in
    passed_on (λ r. HasFault before now r) c.from_residual.result e since c.from_residual.ensures.1

pub returns-in_err-push-clause-files : goal.returns-in_err-push-clause-files
returns-in_err-push-clause-files g c = λ told. Meets-memory (λ (files : Vec (List Frame) Global). files.items) c.from_residual-in_err-push.result (tracks_in (g.S.Store.files c.args.store.now) 0 0 c.args.tracks.now) c.from_residual-in_err-push.ensures.1

pub returns-in_err-push-clause-cause : goal.returns-in_err-push-clause-cause
returns-in_err-push-clause-cause g c =
    faultless_memory c.from_residual-in_err-push.result (g.S.Store.faults c.args.store.now) (g.S.Store.faults c.load_track.new.store)
    (faults_stay c.in_ok-file.file (g.S.Store.faults c.loop-number.store) (g.S.Store.faults c.load_track.new.store) c.in_ok-file.ensures.cause ∙ c.loop-number.invariant.stays) c.from_residual-in_err-push.ensures.1

pub returns-clause-files : goal.returns-clause-files
returns-clause-files g c = λ told.
    let l = c.loop-number in
    tracks_done (g.S.Store.files c.args.store.now) l.number l.total c.args.tracks.now l.files.items (omega (arith, c.loop-number-test.false, l.auto.number-end)) (l.invariant.told told)

pub returns-clause-cause : goal.returns-clause-cause
returns-clause-cause g c = faultless_ok c.loop-number.files (g.S.Store.faults c.args.store.now) (g.S.Store.faults c.loop-number.store) c.loop-number.invariant.stays
