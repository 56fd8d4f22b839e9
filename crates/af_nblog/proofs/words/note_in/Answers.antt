use Rattle.std.proofs.Common.{◌≡◌, ℕ, [], ◌∷◌, length, sym, ap, ◌∙◌, arith}
use Rattle.af_nblog.specs.Notes.{words_of}
use Rattle.af_nblog.proofs.Spelling.{words_back, eight_words}
use Rattle.af_nblog.proofs.words.note_in.Goals as goal

pub returns : goal.returns
returns c =
    let all : length c.args.frames.now ≡ 8 = omega arith in
    ap (λ (x : ℕ × ℕ). words_of (record { place = x.0; state = x.1; kind = c.pack-5.result; fulls = c.pack-6.result; partials = c.pack-7.result; empties = c.pack-8.result })) (λ i. (c.joined.ensures i, c.joined-2.ensures i))
    ∙ words_back c.pack.result c.pack-2.result c.pack-3.result c.pack-4.result c.pack-5.result c.pack-6.result c.pack-7.result c.pack-8.result c.pack.type_inv c.pack-3.type_inv
    ∙ ap (λ (x : ℕ × ℕ × ℕ × ℕ × ℕ × ℕ × ℕ × ℕ). x.0 ∷ x.1 ∷ x.2 ∷ x.3 ∷ x.4 ∷ x.5 ∷ x.6 ∷ x.7 ∷ [])
    (λ i. (c.pack.ensures i, c.pack-2.ensures i, c.pack-3.ensures i, c.pack-4.ensures i, c.pack-5.ensures i, c.pack-6.ensures i, c.pack-7.ensures i, c.pack-8.ensures i))
    ∙ sym (eight_words c.args.frames.now _ _ _ _ _ _ _ _ all)
