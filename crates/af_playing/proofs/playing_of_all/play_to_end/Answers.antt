use Rattle.std.proofs.Common.{rules, ◌≡◌, ℕ, [], Some, OnErr, OnOk, true, false, inr, ap, subst, ◌∙◌}
use Rattle.std.proofs.lemmas.Result.{on_err_weaker, on_ok_weaker}
use Rattle.af_playing.proofs.Common.{All, HasRanges, IsFrame, LeavesFront, Logged, Rig, SessionState, SetsFile, Stage, frames_first, journal_of, pcm_of, silent_first}
use Rattle.af_playing.specs.PlayedRuns.{LeavesRun, all_ended, is_full}
use Rattle.af_playing.specs.PlayedStages.{HasPlayed, HasPlayedRounds, kept_in}
use Rattle.af_playing.specs.declared.noted.Noted.{Noted}
use Rattle.af_playing.proofs.RoundsPlayed.{cycles_are, has_played, played_none}
use Rattle.af_playing.proofs.RunOfAll.{plays_none}
use Rattle.af_rendering.proofs.StagesRun.{new_room}
use Rattle.af_playing.proofs.playing_of_all.play_to_end.Goals as goal

-- ## Before the first round

pub play_rounds-sent-requires-clause-begins : goal.play_rounds-sent-requires-clause-begins
play_rounds-sent-requires-clause-begins g c =
    let p = c.args.piece.now in
    let s = c.args.stage.now in
    let rig : Rig = record { links = c.links-links.result; tracks = c.tracks-tracks.result; files = p.files } in
    let none =
    played_none p.script.now rig (kept_in p.room) c.tracks-tracks.ensures.value s.shared s.parties c.requires.new.new c.requires.files (c.requires.new.together c.links-links.result c.links-links.ensures) s.room.tally c.requires.new.room.tally
    c.args.noted.now c.requires.none c.requires.log in
    (none, ([], plays_none p.script.now s.shared s.parties c.requires.new.new p.files.now))

pub play_rounds-sent-requires-clause-asks : goal.play_rounds-sent-requires-clause-asks
play_rounds-sent-requires-clause-asks g c = λ k s tally so.
    let p = c.args.piece.now in
    let rig : Rig = record { links = c.links-links.result; tracks = c.tracks-tracks.result; files = p.files } in
    (cycles_are p.script.now rig (kept_in p.room) k.now s.now tally so, (λ answer post. (post.0, post.1)))

pub play_rounds-sent-requires-clause-plays : goal.play_rounds-sent-requires-clause-plays
play_rounds-sent-requires-clause-plays g c = λ k s r so going room.
    let p = c.args.piece.now in
    (((p.script.now, kept_in p.room, so, going, room), search rules), (λ answer k' s' r' post. post p.script.now (kept_in p.room) so))

pub play_rounds-sent-requires-clause-room : goal.play_rounds-sent-requires-clause-room
play_rounds-sent-requires-clause-room g c = new_room c.args.piece.now.script.now c.args.stage.now c.requires.new

pub play_rounds-sent-requires-clause-silent : goal.play_rounds-sent-requires-clause-silent
play_rounds-sent-requires-clause-silent g c = let s = c.args.stage.now in silent_first c.args.piece.now.script.now s.shared s.parties c.requires.new.new [] s.parties.fast.frames

-- ## At the end

pub returns-clause-played : goal.returns-clause-played
returns-clause-played g c =
    let p = c.args.piece.now in
    let rig : Rig = record { links = c.links-links.result; tracks = c.tracks-tracks.result; files = p.files } in
    let noted : Noted = c.play_rounds-sent.new.kept in
    let s : Stage = record { shared = c.args.stage.now.shared; parties = c.play_rounds-sent.new.parties; room = c.play_rounds-sent.new.room } in
    let log : Logged = s.parties.fast.log in
    let is : c.log-log.result.now ≡ log = c.log-log.ensures ∙ ap (λ (x : SessionState). x.fast.log) c.parties.view_is in
    let samples : All IsFrame log.frames = subst (All IsFrame) (c.frames.ensures ∙ ap (λ (l : Logged). l.frames) is) c.know_frames.ensures in
    let numbers : HasRanges (journal_of noted.rounds log) = subst (λ (l : Logged). HasRanges (journal_of noted.rounds l)) is c.know_numbers.ensures in
    on_ok_weaker c.play_rounds-sent.result
    (λ (done : HasPlayedRounds p.script.now (kept_in p.room) rig noted s.parties s.room.tally × (all_ended s.parties ≡ false → is_full s.parties ≡ true)).
    let played : HasPlayed p.script.now p.files.now noted.rounds s =
    has_played p.script.now rig (kept_in p.room) noted s (c.play_rounds-sent.ensures.sizes.released ∙ c.requires.new.room.released) done.0 done.1 samples numbers in
    played)
    c.play_rounds-sent.ensures.over

pub returns-clause-written : goal.returns-clause-written
returns-clause-written g c = λ told.
    let p = c.args.piece.now in
    let s = c.args.stage.now in
    let r = c.play_rounds-sent.result in
    let log : Logged = c.play_rounds-sent.new.parties.fast.log in
    subst (λ (n : ℕ). OnOk r (SetsFile (g.S.Store.files c.args.store.now) p.name.now (Some (pcm_of n log)) (g.S.Store.files c.play_rounds-sent.new.store))) (frames_first p.script.now s.shared s.parties c.requires.new.new [])
    (c.play_rounds-sent.ensures.written told)

pub returns-clause-left : goal.returns-clause-left
returns-clause-left g c = λ told.
    let p = c.args.piece.now in
    let s = c.args.stage.now in
    let r = c.play_rounds-sent.result in
    let old = g.S.Store.files c.args.store.now in
    let new = g.S.Store.files c.play_rounds-sent.new.store in
    let is : SessionState = c.play_rounds-sent.new.parties in
    let came = c.play_rounds-sent.ensures.came in
    on_err_weaker r
    (λ (front : LeavesFront old p.name.now (pcm_of p.script.now.frames is.fast.log) new). let left : LeavesRun p.script.now p.files.now p.name.now old new = inr (came.0, is, came.1, front) in left)
    (subst (λ (n : ℕ). OnErr r (LeavesFront old p.name.now (pcm_of n is.fast.log) new)) (frames_first p.script.now s.shared s.parties c.requires.new.new []) (c.play_rounds-sent.ensures.left told))

pub returns-clause-log : goal.returns-clause-log
returns-clause-log g c =
    let p = c.args.piece.now in
    let rig : Rig = record { links = c.links-links.result; tracks = c.tracks-tracks.result; files = p.files } in
    let noted : Noted = c.play_rounds-sent.new.kept in
    let s : SessionState = c.play_rounds-sent.new.parties in
    on_ok_weaker c.play_rounds-sent.result (λ (done : HasPlayedRounds p.script.now (kept_in p.room) rig noted s c.play_rounds-sent.new.room.tally × (all_ended s ≡ false → is_full s ≡ true)). done.0.log)
    c.play_rounds-sent.ensures.over
