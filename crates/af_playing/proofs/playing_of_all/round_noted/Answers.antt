use Rattle.std.proofs.Common.{◌≡◌, ◌+◌, ℕ, Result, Ok, Err, OnOk, length, refl, ap, ◌∙◌, arith}
use Rattle.std.proofs.lemmas.Result.{on_ok_weaker}
use Rattle.af_playing.proofs.Common.{Logged, NotesFrames, Room, RoundNoted, RoundsNoted, SessionState, all_noted, cycles_of, few_noted, given_of}
use Rattle.af_playing.specs.PlayedStages.{HasPlayedRounds, NotesRound}
use Rattle.af_playing.specs.declared.noted.Noted.{Noted}
use Rattle.af_playing.proofs.RoundsOfAll.{notes_of_all}
use Rattle.af_playing.proofs.RoundsPlayed.{come_more, fewer_left, places_for, played_more, ready_for}
use Rattle.af_rendering.proofs.ComeSoFar.{room_behind}
use Rattle.af_playing.proofs.playing_of_all.round_noted.Goals as goal

-- ## The round

pub round_of_all-requires-clause-ready : goal.round_of_all-requires-clause-ready
round_of_all-requires-clause-ready g c = λ κs lives.
    let far = c.requires.far in
    ready_for far.0 c.args.rig.now far.1 c.args.noted.now c.args.parties.now c.args.room.now.tally far.2 c.requires.going

pub round_of_all-requires-clause-room : goal.round_of_all-requires-clause-room
round_of_all-requires-clause-room g c = λ κs lives.
    let far = c.requires.far in
    room_behind c.args.parties.now c.args.room.now c.requires.room (places_for far.0 c.args.rig.now far.1 c.args.noted.now c.args.parties.now c.args.room.now.tally far.2 c.requires.going)

pub round_of_all-requires-clause-log : goal.round_of_all-requires-clause-log
round_of_all-requires-clause-log g c = λ κs lives. (c.requires.far.1, c.args.noted.now.rounds.rounds, c.requires.far.2.log)

-- ## Its note

pub note_all-requires-clause-more : goal.note_all-requires-clause-more
note_all-requires-clause-more g c =
    let now : SessionState = c.args.parties.now in
    let next : SessionState = c.round_of_all.new.parties in
    let round = c.round_of_all.ensures.round in
    let count : c.len-entries.result ≡ length now.fast.log.entries = c.len-entries.ensures ∙ ap (λ (l : Logged). length l.entries) c.log.ensures ∙ ap (λ (x : SessionState). length x.fast.log.entries) c.parties.view_is in
    let longer = (notes_of_all (given_of c.args.rig.now) now (all_noted now next) round.0 next round.2).goes.longer in
    omega (arith, count, longer)

pub note_all-requires-clause-few : goal.note_all-requires-clause-few
note_all-requires-clause-few g c =
    let rig = c.args.rig.now in
    let so = c.requires.far.2 in
    let noted : RoundsNoted = c.args.noted.now.rounds in
    let i : ℕ = length noted.rounds in
    few_noted rig.links (given_of rig) i (i + 1) c.args.parties.now c.round_of_all.new.parties so.ready (c.round_of_all.ensures.carried.ready i so.ready) (cycles_of noted.rounds) so.form.count

-- ## What it comes to

both_ok : {T E : Type 0} (A B C : Type 0) (r : Result T E) → (A → B → C) → OnOk r A → OnOk r B → OnOk r C
both_ok A B C (Ok x) f a b = f a b
both_ok A B C (Err e) f a b = tt

pub returns : goal.returns
returns g c = λ script kept so.
    let rig = c.args.rig.now in
    let noted : Noted = c.args.noted.now in
    let now : SessionState = c.args.parties.now in
    let next : SessionState = c.round_of_all.new.parties in
    let room : Room = c.args.room.now in
    let room' : Room = c.round_of_all.new.room in
    let did = c.round_of_all.ensures in
    let r : RoundNoted = all_noted now next in
    let rounds' : RoundsNoted = c.note_all.new.rounds in
    let noted' : Noted = record { rounds = rounds'; logging = c.round_of_all.new.logging } in
    let count : c.len-entries.result ≡ length now.fast.log.entries = c.len-entries.ensures ∙ ap (λ (l : Logged). length l.entries) c.log.ensures ∙ ap (λ (x : SessionState). length x.fast.log.entries) c.parties.view_is in
    let ended : c.has_ended-had_ended.result ≡ now.normal.ended = c.has_ended-had_ended.ensures ∙ ap (λ (x : SessionState). x.normal.ended) c.parties.view_is in
    let notes : OnOk c.note_all.result (NotesRound r noted.rounds rounds') = c.note_all.ensures.noted now ended count in
    let frames : OnOk c.note_all.result (NotesFrames r) = c.note_all.ensures.frames now ended in
    let ends = c.requires.room.ends in
    record {
      between = both_ok (NotesRound r noted.rounds rounds') (NotesFrames r) (HasPlayedRounds script kept rig noted' next room'.tally) c.note_all.result
          (λ is few. played_more script rig kept noted now room.tally so c.requires.going next room room' refl did.carried did.round did.sound ends rounds' is c.round_of_all.new.logging few (did.log kept noted.rounds.rounds so.log)) notes frames;
      fewer = on_ok_weaker c.note_all.result (λ (is : NotesRound r noted.rounds rounds'). fewer_left script rig kept noted now room.tally so c.requires.going next room room' refl did.carried did.round did.sound ends rounds' is) notes;
      came = come_more script rig kept noted now room.tally so c.requires.going next room room' refl did.carried did.round did.sound ends;
      sizes = did.carried.sizes;
      room = did.carried.kept;
      sound = did.sound;
    }
