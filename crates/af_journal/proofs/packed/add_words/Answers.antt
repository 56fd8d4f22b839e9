use Rattle.std.proofs.Common.{◌≡◌, ◌++◌, ◌∙◌, List, map, ap}
use Rattle.af_journal.proofs.Common.{Frame, append_assoc, flat_map, packed_word}
use Rattle.af_journal.specs.Lines.{hex_word}
use Rattle.af_journal.proofs.Rows.{both-parts}
use Rattle.af_journal.proofs.packed.add_words.Goals as goal

pub returns : goal.returns
returns c = let before = c.args.text.now.bytes.items in let first = c.split_at.result.0.now in let rest = c.split_at.result.1.now in
    let digits = λ (frames : List Frame). flat_map hex_word (map packed_word frames) in
    let one : c.add_rows.new.text.bytes.items ≡ before ++ digits first = c.in_ok-add_rows.ensures in
    let two : c.add_rest.new.text.bytes.items ≡ c.add_rows.new.text.bytes.items ++ digits rest = c.in_ok-add_rest.ensures in
    two ∙ ap (λ l. l ++ digits rest) one ∙ append_assoc before (digits first) (digits rest) ∙ ap (λ l. before ++ l) (both-parts c.args.frames.now first rest _ c.split_at.ensures.front c.split_at.ensures.back)
