use Rattle.std.proofs.Common.{◌≡◌, ℕ, List, length, map, ap, ◌∙◌, arith}
use Rattle.af_offline.proofs.Common.{Frame, flat_map, length-map, packed_word}
use Rattle.af_offline.specs.Captured.{state_of, word_bytes}
use Rattle.af_offline.specs.Recorded.{Recording, frames_heard, periods, recording_of}
use Rattle.af_offline.proofs.Taped.{in_words, bytes_of_words, recorded_words, heard_words}
use Rattle.af_offline.proofs.capture.record_frames.Goals as goal

pub returns-clause-bytes : goal.returns-clause-bytes
returns-clause-bytes c =
    let frames : List Frame = c.args.frames.now in
    let state : state_of c.supply_all.new.self ≡ in_words (recording_of c.args.sizes frames) =
    c.in_ok-supply_all.ensures.state ∙ ap (periods c.args.sizes (length frames) (map packed_word frames)) c.in_ok-tape.ensures.1 ∙ recorded_words c.args.sizes frames in
    c.in_ok-drain.ensures.tape.bytes
    ∙ ap (flat_map word_bytes) (c.in_ok-drain.ensures.read ∙ ap (λ (r : Recording ℕ). frames_heard r) state ∙ heard_words c.args.sizes frames)
    ∙ bytes_of_words (frames_heard (recording_of c.args.sizes frames))

pub returns-clause-lost : goal.returns-clause-lost
returns-clause-lost c =
    let frames : List Frame = c.args.frames.now in
    let state : state_of c.supply_all.new.self ≡ in_words (recording_of c.args.sizes frames) =
    c.in_ok-supply_all.ensures.state ∙ ap (periods c.args.sizes (length frames) (map packed_word frames)) c.in_ok-tape.ensures.1 ∙ recorded_words c.args.sizes frames in
    c.in_ok-drain.ensures.lost ∙ ap (λ (r : Recording ℕ). r.lost) state

pub returns-clause-counted : goal.returns-clause-counted
returns-clause-counted c =
    let frames : List Frame = c.args.frames.now in
    let state : state_of c.supply_all.new.self ≡ in_words (recording_of c.args.sizes frames) =
    c.in_ok-supply_all.ensures.state ∙ ap (periods c.args.sizes (length frames) (map packed_word frames)) c.in_ok-tape.ensures.1 ∙ recorded_words c.args.sizes frames in
    let read : length c.drain.new.self.hand.read ≡ length (frames_heard (recording_of c.args.sizes frames)) =
    ap length (c.in_ok-drain.ensures.read ∙ ap (λ (r : Recording ℕ). frames_heard r) state ∙ heard_words c.args.sizes frames) ∙ length-map (frames_heard (recording_of c.args.sizes frames)) packed_word in
    let none : length c.drain.new.self.hand.queued ≡ 0 = ap length c.in_ok-drain.ensures.queued in
    let all = c.in_ok-drain.ensures.tape.counted in
    let a = c.in_ok-drain.ensures.supplied in
    let b = c.in_ok-supply_all.ensures.supplied in
    let d = c.in_ok-tape.ensures.2 in
    omega arith
