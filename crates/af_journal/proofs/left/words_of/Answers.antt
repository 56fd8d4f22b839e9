use Rattle.std.proofs.Common.{rules, ◌≡◌, ◌∙◌, ap, sym, subst, List, ℕ, ◌++◌, ◌-◌, ◌∷◌, [], ◌≤◌, length, take, drop}
use Rattle.af_journal.proofs.Common.{AreWords, flat_map}
use Rattle.af_journal.specs.Lines.{hex_word}
use Rattle.af_journal.proofs.Counting.{tail_is}
use Rattle.af_journal.proofs.Leaving.{packed-small, word-first, words-fit, words-more}
use Rattle.af_journal.proofs.left.words_of.Goals as goal

pub words-preserved : goal.words-preserved
words-preserved c =
    let rest = c.words.rest.now in
    let long : 8 ≤ length rest = c.in-len8-up.len_at_least in
    let first : rest ≡ hex_word c.in-Some.word ++ drop 8 rest = word-first rest c.in-Some.word long (sym c.packed_of.ensures ∙ c.in-Some.is) in
    let items : c.push.new.self.items ≡ c.words.words.items ++ c.in-Some.word ∷ [] = search rules in
    record {
      digits =
          words-more c.args.digits.now rest c.words.words.items c.in-Some.word c.words.invariant.digits first
          ∙ ap (λ (l : List ℕ). flat_map hex_word (c.words.words.items ++ c.in-Some.word ∷ []) ++ l) (sym (tail_is rest))
          ∙ ap (λ (l : List ℕ). flat_map hex_word l ++ take (length rest - 8) (drop 8 rest)) (sym items);
      fits = subst AreWords (sym items) (words-fit c.words.words.items c.in-Some.word c.words.invariant.fits (packed-small rest c.in-Some.word long (sym c.packed_of.ensures ∙ c.in-Some.is)));
    }
