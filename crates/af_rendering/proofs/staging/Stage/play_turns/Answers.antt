use Rattle.std.proofs.Common.{◌≡◌, ◌≤◌, ℕ, [], Some, OnErr, OnOk, inr, length, ap, subst, ◌∙◌}
use Rattle.std.proofs.lemmas.Result.{on_err_weaker, on_ok_weaker}
use Rattle.af_rendering.proofs.Common.{All, FitsEntry, IsFrame, LeavesFront, Logged, Rig, RoundsNoted, SessionState, SetsFile, pcm_of}
use Rattle.af_rendering.specs.Rendered.{LeavesSound}
use Rattle.af_rendering.specs.SoFar.{HasPlayedTo, noted_of}
use Rattle.af_rendering.specs.Stages.{HasRendered}
use Rattle.af_rendering.specs.declared.staging.Stage.{Stage}
use Rattle.af_session.specs.Rooms.{given_of}
use Rattle.af_rendering.proofs.ComeSoFar.{come, played_none, round_of_turn}
use Rattle.af_rendering.proofs.FirstRound.{frames_first, silent_first}
use Rattle.af_rendering.proofs.StagesRun.{has_rendered, new_room}
use Rattle.af_rendering.proofs.staging.Stage.play_turns.Goals as goal

pub play_rounds-sent-requires-clause-begins : goal.play_rounds-sent-requires-clause-begins
play_rounds-sent-requires-clause-begins g c =
    let s = c.args.self.now in
    let rig : Rig = record { links = c.links-links.result; tracks = c.tracks-tracks.result; files = c.args.files } in
    let none = played_none c.args.script.now rig c.tracks-tracks.ensures.value s.shared s.parties c.requires.new.new c.requires.files (c.requires.new.together c.links-links.result c.links-links.ensures) s.room.tally c.requires.new.room.tally in
    (none, (0, come c.args.script.now rig 0 s.parties s.room.tally none))

pub play_rounds-sent-requires-clause-plays : goal.play_rounds-sent-requires-clause-plays
play_rounds-sent-requires-clause-plays g c = λ k s r far going room.
    let script = c.args.script.now in
    let rig : Rig = record { links = c.links-links.result; tracks = c.tracks-tracks.result; files = c.args.files } in
    ((far, going, room), (λ answer k' s' r' post. round_of_turn script rig k.now k'.now s.now s'.now r.now r'.now answer going post))

pub play_rounds-sent-requires-clause-room : goal.play_rounds-sent-requires-clause-room
play_rounds-sent-requires-clause-room g c = new_room c.args.script.now c.args.self.now c.requires.new

pub play_rounds-sent-requires-clause-silent : goal.play_rounds-sent-requires-clause-silent
play_rounds-sent-requires-clause-silent g c = let s = c.args.self.now in silent_first c.args.script.now s.shared s.parties c.requires.new.new [] s.parties.fast.frames

pub returns-clause-rendered : goal.returns-clause-rendered
returns-clause-rendered g c =
    let script = c.args.script.now in
    let rig : Rig = record { links = c.links-links.result; tracks = c.tracks-tracks.result; files = c.args.files } in
    let s : Stage = record { shared = c.args.self.now.shared; parties = c.play_rounds-sent.new.parties; room = c.play_rounds-sent.new.room } in
    let log : c.log-log.result.now ≡ s.parties.fast.log = c.log-log.ensures ∙ ap (λ (x : SessionState). x.fast.log) c.parties.view_is in
    let samples : All IsFrame s.parties.fast.log.frames = subst (All IsFrame) (c.frames.ensures ∙ ap (λ (l : Logged). l.frames) log) c.know_frames.ensures in
    let entries : All FitsEntry s.parties.fast.log.entries = subst (λ (l : Logged). All FitsEntry l.entries) log c.know_log.ensures in
    let n : ℕ = c.play_rounds-sent.new.kept in
    on_ok_weaker c.play_rounds-sent.result
    (λ (done : HasPlayedTo script rig n s.parties s.room.tally × (length script.turns ≤ n)).
    let rendered : (rounds : RoundsNoted) × HasRendered script c.args.files.now rounds s =
    (noted_of (given_of rig) done.0.rounds, has_rendered script rig s (c.play_rounds-sent.ensures.sizes.released ∙ c.requires.new.room.released) n done.0 done.1 samples entries) in
    rendered)
    c.play_rounds-sent.ensures.over

pub returns-clause-written : goal.returns-clause-written
returns-clause-written g c = λ told.
    let s = c.args.self.now in
    let script = c.args.script.now in
    let r = c.play_rounds-sent.result in
    let base = g.S.Store.files c.args.store.now in
    let new = g.S.Store.files c.play_rounds-sent.new.store in
    let log : Logged = c.play_rounds-sent.new.parties.fast.log in
    subst (λ (n : ℕ). OnOk r (SetsFile base c.args.name.now (Some (pcm_of n log)) new)) (frames_first script s.shared s.parties c.requires.new.new []) (c.play_rounds-sent.ensures.written told)

pub returns-clause-left : goal.returns-clause-left
returns-clause-left g c = λ told.
    let s = c.args.self.now in
    let script = c.args.script.now in
    let name = c.args.name.now in
    let r = c.play_rounds-sent.result in
    let base = g.S.Store.files c.args.store.now in
    let new = g.S.Store.files c.play_rounds-sent.new.store in
    let is : SessionState = c.play_rounds-sent.new.parties in
    let came = c.play_rounds-sent.ensures.came in
    on_err_weaker r
    (λ (front : LeavesFront base name (pcm_of script.frames is.fast.log) new). let left : LeavesSound script c.args.files.now name base new = inr (came.0, is, came.1, front) in left)
    (subst (λ (n : ℕ). OnErr r (LeavesFront base name (pcm_of n is.fast.log) new)) (frames_first script s.shared s.parties c.requires.new.new []) (c.play_rounds-sent.ensures.left told))
