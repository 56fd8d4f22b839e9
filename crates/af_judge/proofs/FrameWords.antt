-- The words of frames, made one after the other.
use Rattle.std.proofs.Common.{◌≡◌, ℕ, ◌+◌, ◌*◌, ◌<◌, List, [], ◌∷◌, ◌++◌, length, map, take, drop, get_or, set, refl, sym, ap, ◌∙◌, append_assoc, arith}
use Rattle.af_judge.proofs.Common.{Frame, map-append, packed_word, take-add, take-set_at, take_more}

-- the words of one frame more
pub words-more : (frames : List Frame) (n word : ℕ) (d : Frame) → n < length frames → word ≡ packed_word (get_or frames n d) → map packed_word (take (n + 1) frames) ≡ map packed_word (take n frames) ++ word ∷ []
words-more frames n word d lt is =
    ap (map packed_word) (take_more frames n d lt) ∙ (map-append packed_word (take n frames) (get_or frames n d ∷ []) ∙ ap (λ (w : ℕ). map packed_word (take n frames) ++ w ∷ []) (sym is))

-- one word more is stored
pub stored-more : (words : List ℕ) (frames : List Frame) (n word : ℕ) (d : Frame) → n < length frames → n < length words → word ≡ packed_word (get_or frames n d)
    → take n words ≡ map packed_word (take n frames) → take (n + 1) (set words n word) ≡ map packed_word (take (n + 1) frames)
stored-more words frames n word d lt room is was = take-set_at words n (n + 1) word refl room ∙ (ap (λ (l : List ℕ). l ++ word ∷ []) was ∙ sym (words-more frames n word d lt is))

-- one word more is added
pub added-more : (first now : List ℕ) (frames : List Frame) (n word : ℕ) (d : Frame) → n < length frames → word ≡ packed_word (get_or frames n d)
    → now ≡ first ++ map packed_word (take n frames) → now ++ word ∷ [] ≡ first ++ map packed_word (take (n + 1) frames)
added-more first now frames n word d lt is was =
    ap (λ (l : List ℕ). l ++ word ∷ []) was ∙ (append_assoc first (map packed_word (take n frames)) (word ∷ []) ∙ ap (λ (l : List ℕ). first ++ l) (sym (words-more frames n word d lt is)))

-- sixteen words more are added
pub added-row : (first now row : List ℕ) (frames : List Frame) (n : ℕ) → row ≡ map packed_word (take 16 (drop (16 * n) frames))
    → now ≡ first ++ map packed_word (take (16 * n) frames) → now ++ row ≡ first ++ map packed_word (take (16 * (n + 1)) frames)
added-row first now row frames n is was =
    let end : 16 * (n + 1) ≡ 16 * n + 16 = omega arith in
    ap (λ (l : List ℕ). l ++ row) was
    ∙ (append_assoc first (map packed_word (take (16 * n) frames)) row
    ∙ ap (λ (l : List ℕ). first ++ l)
    (ap (λ (l : List ℕ). map packed_word (take (16 * n) frames) ++ l) is
    ∙ (sym (map-append packed_word (take (16 * n) frames) (take 16 (drop (16 * n) frames)))
    ∙ (ap (map packed_word) (sym (take-add (16 * n) 16 frames)) ∙ ap (λ (k : ℕ). map packed_word (take k frames)) (sym end)))))
