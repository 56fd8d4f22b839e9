use Rattle.std.proofs.Common.{ap, ◌∙◌, map}
use Rattle.af_judge.proofs.Common.{packed_word}
use Rattle.af_judge.specs.declared.server_judge.ServerJudge.{ServerJudge}
use Rattle.af_judge.specs.Blocks.{BlockJudged, taken_more}
use Rattle.af_judge.proofs.BlockKept.{words_told}
use Rattle.af_judge.proofs.block_judge.BlockJudge.take_words.Goals as goal

pub returns : goal.returns
returns c =
    let b = c.self.inside in
    let j : BlockJudged = record { shape = b.server.shape; lawful = b.lawful; client = b.lists.client; server = b.lists.server; hand = b.lists.hand; released = b.words.released; taken = b.words.taken } in
    let words = map packed_word c.args.frames.now in
    words_told j c.take_frames.new.self c.consumed-at.result words (c.consumed-at.ensures ∙ ap (λ (s : ServerJudge). s.consumed) c.self.invariant.server_is) c.in_ok-take_frames.ensures
    ∙ ap (λ (k : BlockJudged). taken_more k.server words k) c.self.view_is
