-- Packed words are read exactly if they are spelled.
use Rattle.std.proofs.Common.{◌≡◌, ℕ, ◌+◌, ◌*◌, ◌/◌, ◌%◌, ◌<◌, ◌^◌, List, [], ◌∷◌, ◌++◌, Option, Some, None, Bool, true, false, ◌==◌, cond, refl, ap, ◌∙◌, sym, subst, arith}
use Rattle.af_journal.proofs.Common.{AreWords, be_bytes_4, byte_at as byte_of, byte_small, equal_is, flat_map, from_be_bytes, from_be_bytes-to_be_bytes_4, nat_tests, none-some, same_Some, small, to_be_bytes, w32}
use Rattle.af_journal.specs.Lines.{Written, numbers, words, line_bytes, hex_byte, hex_digit, hex_word, line_text}
use Rattle.af_journal.specs.declared.line.Line.{Line}
use Rattle.af_journal.specs.LineReading.{◌>>=◌, byte_at, hex_at, call_at, marked_at, turn_line_at, packed_at, some_words, words_after_mark, words_at, written_at, line_at}
use Rattle.af_journal.specs.Ranges.{IsWritten}
use Rattle.af_journal.proofs.Spelled.{bind_some, guard_some}
use Rattle.af_journal.proofs.LineLaws.{line-sound, line-again}

-- ## Digits and bytes

hex-sound : (c d : ℕ) → hex_at c ≡ Some d → (c ≡ hex_digit d) × (d < 16)
hex-sound c d e = grind (arith, nat_tests)

hex-again : (d : ℕ) → d < 16 → hex_at (hex_digit d) ≡ Some d
hex-again d h = grind (arith, nat_tests)

high_of : (a b : ℕ) → b < 16 → (a * 16 + b) / 16 ≡ a
high_of a b h = grind arith

low_of : (a b : ℕ) → b < 16 → (a * 16 + b) % 16 ≡ b
low_of a b h = grind arith

byte-sound : (h l x : ℕ) → byte_at h l ≡ Some x → (h ∷ l ∷ [] ≡ hex_byte x) × (x < 256)
unfolding byte_at
byte-sound h l x e =
    let a = bind_some (hex_at h) _ x e in
    let b = bind_some (hex_at l) _ x a.2 in
    let s = hex-sound h a.0 a.1 in
    let t = hex-sound l b.0 b.1 in
    let is : a.0 * 16 + b.0 ≡ x = same_Some _ _ b.2 in
    let high : a.0 ≡ x / 16 = sym (high_of a.0 b.0 t.1) ∙ ap (λ n. n / 16) is in
    let low : b.0 ≡ x % 16 = sym (low_of a.0 b.0 t.1) ∙ ap (λ n. n % 16) is in
    (ap (λ n. n ∷ l ∷ []) (s.0 ∙ ap hex_digit high) ∙ ap (λ n. hex_digit (x / 16) ∷ n ∷ []) (t.0 ∙ ap hex_digit low), omega (arith, s.1, t.1, is))

byte-again : (x : ℕ) → x < 256 → byte_at (hex_digit (x / 16)) (hex_digit (x % 16)) ≡ Some x
unfolding byte_at
byte-again x h =
    ap (λ (o : Option ℕ). o >>= λ a. hex_at (hex_digit (x % 16)) >>= λ b. Some (a * 16 + b)) (hex-again (x / 16) (omega arith))
    ∙ ap (λ (o : Option ℕ). o >>= λ b. Some (x / 16 * 16 + b)) (hex-again (x % 16) (omega arith))
    ∙ ap Some (let e : x / 16 * 16 + x % 16 ≡ x = omega arith in e)

-- ## Words

word_is : (p q r s w : ℕ) → p < 256 → q < 256 → r < 256 → s < 256 → from_be_bytes w32 (p ∷ q ∷ r ∷ s ∷ []) ≡ w → (to_be_bytes w32 w ≡ p ∷ q ∷ r ∷ s ∷ []) × (w < 2 ^ 32)
word_is p q r s w a b c d e = (be_bytes_4 (p ∷ q ∷ r ∷ s ∷ []) w refl (small p q r s a b c d) (sym e), omega arith)

pub packed-sound : (a b c d e f g h w : ℕ) → packed_at a b c d e f g h ≡ Some w → (a ∷ b ∷ c ∷ d ∷ e ∷ f ∷ g ∷ h ∷ [] ≡ hex_word w) × (w < 2 ^ 32)
unfolding packed_at hex_word
packed-sound a b c d e f g h w is =
    let first = bind_some (byte_at a b) _ w is in
    let second = bind_some (byte_at c d) _ w first.2 in
    let third = bind_some (byte_at e f) _ w second.2 in
    let fourth = bind_some (byte_at g h) _ w third.2 in
    let p = byte-sound a b first.0 first.1 in
    let q = byte-sound c d second.0 second.1 in
    let r = byte-sound e f third.0 third.1 in
    let s = byte-sound g h fourth.0 fourth.1 in
    let bytes = word_is first.0 second.0 third.0 fourth.0 w p.1 q.1 r.1 s.1 (same_Some _ _ fourth.2) in (
      ap (λ x. x ++ (c ∷ d ∷ e ∷ f ∷ g ∷ h ∷ [])) p.0
          ∙ ap (λ x. hex_byte first.0 ++ (x ++ (e ∷ f ∷ g ∷ h ∷ []))) q.0
          ∙ ap (λ x. hex_byte first.0 ++ (hex_byte second.0 ++ (x ++ (g ∷ h ∷ [])))) r.0
          ∙ ap (λ x. hex_byte first.0 ++ (hex_byte second.0 ++ (hex_byte third.0 ++ x))) s.0
          ∙ ap (flat_map hex_byte) (sym bytes.0),
      bytes.1,
    )

packed-again : (w : ℕ) → w < 2 ^ 32
    → packed_at (hex_digit (byte_of 3 w / 16)) (hex_digit (byte_of 3 w % 16)) (hex_digit (byte_of 2 w / 16)) (hex_digit (byte_of 2 w % 16)) (hex_digit (byte_of 1 w / 16)) (hex_digit (byte_of 1 w % 16)) (hex_digit (byte_of 0 w / 16)) (hex_digit (byte_of 0 w % 16)) ≡ Some w
unfolding packed_at
packed-again w h =
    rw (byte-again (byte_of 3 w) (byte_small w 3))
    (rw (byte-again (byte_of 2 w) (byte_small w 2))
    (rw (byte-again (byte_of 1 w) (byte_small w 1))
    (rw (byte-again (byte_of 0 w) (byte_small w 0)) (ap Some (from_be_bytes-to_be_bytes_4 w h)))))

pub words-again : (ws : List ℕ) → AreWords ws → words_at (flat_map hex_word ws) ≡ Some ws
unfolding hex_word
words-again [] fit = refl
words-again (w ∷ ws) fit =
    ap (λ (o : Option ℕ). o >>= λ v. words_at (flat_map hex_word ws) >>= λ vs. Some (v ∷ vs)) (packed-again w fit.0)
    ∙ ap (λ (o : Option (List ℕ)). o >>= λ vs. Some (w ∷ vs)) (words-again ws fit.1)

record Words (digits : List ℕ) (ws : List ℕ) : Type 0 where
  spelled : digits ≡ flat_map hex_word ws
  fits : AreWords ws

words-sound : (digits ws : List ℕ) → words_at digits ≡ Some ws → Words digits ws
words-sound [] ws e = subst (Words []) (same_Some _ _ e) (record { spelled = refl; fits = tt })
words-sound (a ∷ []) ws e = cc
words-sound (a ∷ b ∷ []) ws e = cc
words-sound (a ∷ b ∷ c ∷ []) ws e = cc
words-sound (a ∷ b ∷ c ∷ d ∷ []) ws e = cc
words-sound (a ∷ b ∷ c ∷ d ∷ x ∷ []) ws e = cc
words-sound (a ∷ b ∷ c ∷ d ∷ x ∷ y ∷ []) ws e = cc
words-sound (a ∷ b ∷ c ∷ d ∷ x ∷ y ∷ z ∷ []) ws e = cc
words-sound (a ∷ b ∷ c ∷ d ∷ x ∷ y ∷ z ∷ u ∷ rest) ws e =
    let w = bind_some (packed_at a b c d x y z u) _ ws e in
    let vs = bind_some (words_at rest) _ ws w.2 in
    let p = packed-sound a b c d x y z u w.0 w.1 in
    let r = words-sound rest vs.0 vs.1 in
    subst (Words (a ∷ b ∷ c ∷ d ∷ x ∷ y ∷ z ∷ u ∷ rest)) (same_Some _ _ vs.2) (record { spelled = ap (λ l. l ++ rest) p.0 ∙ ap (λ l. hex_word w.0 ++ l) r.spelled; fits = (p.1, r.fits) })

-- ## A line

pub record SpellsWritten (bytes : List ℕ) (w : Written) : Type 0 where
  pub spelled : bytes ≡ line_bytes w
  pub fits : IsWritten w

some_sound : (mark : ℕ) (bytes us ws : List ℕ) → some_words us ≡ Some ws → mark ∷ bytes ≡ 104 ∷ 32 ∷ flat_map hex_word us → AreWords us → SpellsWritten (mark ∷ bytes) (words ws)
some_sound mark bytes [] ws e text fit = cc
some_sound mark bytes (u ∷ us) ws e text fit = subst (λ (ws : List ℕ). SpellsWritten (mark ∷ bytes) (words ws)) (same_Some _ _ e) (record { spelled = text; fits = fit })

words_of-sound : (mark : ℕ) (rest : List ℕ) (ws : List ℕ) → (mark == 104) ≡ true → words_after_mark rest ≡ Some ws → SpellsWritten (mark ∷ rest) (words ws)
unfolding words_after_mark
words_of-sound mark [] ws m e = cc
words_of-sound mark (c ∷ digits) ws m e =
    let g = guard_some (c == 32) (words_at digits >>= some_words) ws e in
    let us = bind_some (words_at digits) some_words ws g.1 in
    let s = words-sound digits us.0 us.1 in
    some_sound mark (c ∷ digits) us.0 ws us.2 (ap (λ m. m ∷ c ∷ digits) (equal_is mark 104 m) ∙ ap (λ c. 104 ∷ c ∷ digits) (equal_is c 32 g.0) ∙ ap (λ l. 104 ∷ 32 ∷ l) s.spelled) s.fits

written_by : (mark : ℕ) (rest : List ℕ) (b : Bool) (w : Written) → (mark == 104) ≡ b
    → cond b (words_after_mark rest >>= λ ws. Some (words ws)) (marked_at mark rest >>= λ l. Some (numbers l)) ≡ Some w → SpellsWritten (mark ∷ rest) w
written_by mark rest true w m e =
    let ws = bind_some (words_after_mark rest) _ w e in
    subst (SpellsWritten (mark ∷ rest)) (same_Some _ _ ws.2) (words_of-sound mark rest ws.0 m ws.1)
written_by mark rest false w m e =
    let l = bind_some (marked_at mark rest) _ w e in
    let s = line-sound (mark ∷ rest) l.0 l.1 in
    subst (SpellsWritten (mark ∷ rest)) (same_Some _ _ l.2) (record { spelled = s.spelled; fits = s.fits })

pub written-sound : (bytes : List ℕ) (w : Written) → written_at bytes ≡ Some w → SpellsWritten bytes w
written-sound [] w e = cc
written-sound (mark ∷ rest) w e = written_by mark rest (mark == 104) w refl e

-- no line of numbers has the mark of words
no_h : (rest : List ℕ) → marked_at 104 rest ≡ None
unfolding marked_at turn_line_at call_at
no_h rest = refl

number_by : (mark : ℕ) (rest : List ℕ) (l : Line) (b : Bool) → (mark == 104) ≡ b → marked_at mark rest ≡ Some l
    → cond b (words_after_mark rest >>= λ ws. Some (words ws)) (marked_at mark rest >>= λ l. Some (numbers l)) ≡ Some (numbers l)
number_by mark rest l true m e =
    let none : marked_at mark rest ≡ None = ap (λ m. marked_at m rest) (equal_is mark 104 m) ∙ no_h rest in
    absurd (none-some l (sym none ∙ e))
number_by mark rest l false m e = ap (λ (o : Option Line). o >>= λ l. Some (numbers l)) e

number-again : (l : Line) (bytes : List ℕ) → line_at bytes ≡ Some l → written_at bytes ≡ Some (numbers l)
number-again l [] e = cc
number-again l (mark ∷ rest) e = number_by mark rest l (mark == 104) refl e

pub written-again : (w : Written) → IsWritten w → written_at (line_bytes w) ≡ Some w
unfolding words_after_mark
written-again (numbers l) fit = number-again l (line_text l) (line-again l fit)
written-again (words []) fit = absurd fit
written-again (words (w ∷ ws)) fit = ap (λ (o : Option (List ℕ)). (o >>= some_words) >>= λ ws. Some (words ws)) (words-again (w ∷ ws) fit)
