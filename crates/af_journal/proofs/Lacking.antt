-- No line has an LF in it.
use Rattle.std.proofs.Common.{◌≡◌, ℕ, ◌/◌, ◌%◌, ◌<◌, ◌^◌, List, [], ◌∷◌, ◌++◌, Bool, false, ◌==◌, refl, arith, lit<}
use Rattle.af_journal.proofs.Common.{ClientCall, FitsCall, FitsPush, Push, Seen, byte_at, byte_small, decimal, flat_map, nat_tests, one_few, one_if}
use Rattle.af_base.specs.declared.event.ClientCall.TheVariants as call
use Rattle.af_base.specs.declared.seen.Seen.TheVariants as seen
use Rattle.af_base.specs.declared.state.Push.TheVariants as pushing
use Rattle.af_journal.specs.declared.line.Line.{Line}
use Rattle.af_journal.specs.declared.line.Line.TheVariants as line
use Rattle.af_journal.specs.Lines.{Written, numbers, words, call_line, hex_byte, hex_digit, hex_word, line_text, push_line, seen_text, line_bytes}
use Rattle.af_journal.specs.Ranges.{IsLine, IsSeenText, IsWritten}
use Rattle.af_journal.proofs.Spelled.{Lacks, lacks-append, decimal_lacks}

wide : (n : ℕ) → n < 2 ^ 32 → n < 2 ^ 64
wide n h = omega arith

last : (n : ℕ) → n < 2 ^ 64 → Lacks 10 (32 ∷ decimal n)
last n h = (refl, decimal_lacks 10 n (lit< tt) h)

and_more : (n : ℕ) (rest : List ℕ) → n < 2 ^ 64 → Lacks 10 rest → Lacks 10 (32 ∷ (decimal n ++ rest))
and_more n rest h p = (refl, lacks-append 10 (decimal n) rest (decimal_lacks 10 n (lit< tt) h) p)

one : (a : ℕ) → a < 2 ^ 32 → Lacks 10 (32 ∷ decimal a)
one a h = last a (wide a h)

two : (a b : ℕ) → a < 2 ^ 32 → b < 2 ^ 32 → Lacks 10 (32 ∷ (decimal a ++ 32 ∷ decimal b))
two a b h k = and_more a (32 ∷ decimal b) (wide a h) (one b k)

three : (a b c : ℕ) → a < 2 ^ 32 → b < 2 ^ 32 → c < 2 ^ 32 → Lacks 10 (32 ∷ (decimal a ++ 32 ∷ (decimal b ++ 32 ∷ decimal c)))
three a b c h k l = and_more a (32 ∷ (decimal b ++ 32 ∷ decimal c)) (wide a h) (two b c k l)

four : (a b c d : ℕ) → a < 2 ^ 32 → b < 2 ^ 32 → c < 2 ^ 32 → d < 2 ^ 32 → Lacks 10 (32 ∷ (decimal a ++ 32 ∷ (decimal b ++ 32 ∷ (decimal c ++ 32 ∷ decimal d))))
four a b c d h k l m = and_more a (32 ∷ (decimal b ++ 32 ∷ (decimal c ++ 32 ∷ decimal d))) (wide a h) (three b c d k l m)

yes_wide : (b : Bool) → one_if b < 2 ^ 64
yes_wide b = omega (arith, one_few b)

seen_lacks : (s : Seen) → IsSeenText s → Lacks 10 (32 ∷ seen_text s)
seen_lacks seen.Absent f = absurd f
seen_lacks (seen.Frames n) f = (refl, (refl, one n f.1))
seen_lacks seen.Empty f = (refl, (refl, tt))
seen_lacks (seen.Flushed n) f = (refl, (refl, one n f))
seen_lacks (seen.Shut a b) f = (refl, (refl, two a b f.0 f.1.0))

call_lacks : (c : ClientCall) → FitsCall c → Lacks 10 (call_line c)
call_lacks (call.Put a b) f = (refl, two a b f.0 f.1.0)
call_lacks (call.Full a) f = (refl, one a f.0)
call_lacks (call.Dead a) f = (refl, one a f.0)
call_lacks (call.Corrupt a b) f = (refl, two a b f.0 f.1.0)
call_lacks (call.Cleared a) f = (refl, one a f.0)
call_lacks (call.Flush a) f = (refl, one a f.0)
call_lacks (call.Gain a) f = (refl, one a f.0)
call_lacks (call.Sent a b c) f = (refl, three a b c f.0 f.1.0 f.1.1.0)
call_lacks (call.SendFull a) f = (refl, (refl, one a f.0))
call_lacks (call.SendDead a) f = (refl, (refl, one a f.0))
call_lacks (call.SendCorrupt a b) f = (refl, (refl, two a b f.0 f.1.0))
call_lacks (call.Status a) f = (refl, one a f.0)
call_lacks (call.Poke command word value) f = (refl, and_more (one_if command) (32 ∷ (decimal word ++ 32 ∷ decimal value)) (yes_wide command) (two word value f.0 f.1.0))

push_lacks : (p : Push) → FitsPush p → Lacks 10 (push_line p)
push_lacks pushing.Clean f = (refl, (refl, (refl, tt)))
push_lacks (pushing.Pushed n) f = (refl, (refl, (refl, last n f)))
push_lacks (pushing.Busy a b) f = (refl, (refl, (refl, two a b f.0 f.1.0)))

line_lacks : (l : Line) → IsLine l → Lacks 10 (line_text l)
line_lacks line.Round f = (refl, tt)
line_lacks (line.Client track) f = (refl, one track f)
line_lacks (line.Call answer) f = call_lacks answer f
line_lacks (line.Turn room ack cycle) f = (refl, and_more room (32 ∷ (decimal (one_if ack) ++ 32 ∷ decimal cycle)) (wide room f.0) (and_more (one_if ack) (32 ∷ decimal cycle) (yes_wide ack) (last cycle f.1)))
line_lacks line.Ended f = (refl, tt)
line_lacks (line.Look track flush rear answer) f =
    (refl, (refl, lacks-append 10 (decimal track ++ 32 ∷ (decimal flush ++ 32 ∷ decimal rear)) (32 ∷ seen_text answer) (three track flush rear f.0.0 f.0.1.0 f.0.1.1.0).1 (seen_lacks answer f.1)))
line_lacks (line.Disabled track) f = (refl, one track f)
line_lacks (line.Status track word) f = (refl, two track word f.0 f.1.0)
line_lacks (line.Pushed push) f = push_lacks push f
line_lacks (line.Take track gains flush rear answer) f =
    (refl, (refl, lacks-append 10 (decimal track ++ 32 ∷ (decimal gains ++ 32 ∷ (decimal flush ++ 32 ∷ decimal rear))) (32 ∷ seen_text answer) (four track gains flush rear f.0.0 f.0.1.0 f.0.1.1.0 f.0.1.1.1.0).1 (seen_lacks answer f.1)))
line_lacks line.Fast f = (refl, tt)
line_lacks (line.Entry state kind) f = (refl, and_more state (32 ∷ decimal kind) f.0 (last kind (omega (arith, f.1))))
line_lacks (line.Slot slot scale mono gains flush rear answer) f = (
  refl,
  (
    refl,
    lacks-append 10 (decimal slot ++ 32 ∷ (decimal scale ++ 32 ∷ (decimal (one_if mono) ++ 32 ∷ (decimal gains ++ 32 ∷ (decimal flush ++ 32 ∷ decimal rear))))) (32 ∷ seen_text answer)
        (and_more slot (32 ∷ (decimal scale ++ 32 ∷ (decimal (one_if mono) ++ 32 ∷ (decimal gains ++ 32 ∷ (decimal flush ++ 32 ∷ decimal rear))))) (omega (arith, f.0))
        (and_more scale (32 ∷ (decimal (one_if mono) ++ 32 ∷ (decimal gains ++ 32 ∷ (decimal flush ++ 32 ∷ decimal rear)))) (omega (arith, f.1))
        (and_more (one_if mono) (32 ∷ (decimal gains ++ 32 ∷ (decimal flush ++ 32 ∷ decimal rear))) (yes_wide mono) (three gains flush rear f.2.0 f.2.1.0 f.2.1.1.0)))).1
        (seen_lacks answer f.3),
  ),
)

-- ## Packed words

digit_lacks : (d : ℕ) → d < 16 → (hex_digit d == 10) ≡ false
digit_lacks d h = grind (arith, nat_tests)

byte_lacks : (x : ℕ) → x < 256 → Lacks 10 (hex_byte x)
byte_lacks x h = (digit_lacks (x / 16) (omega arith), (digit_lacks (x % 16) (omega arith), tt))

word_lacks : (w : ℕ) → Lacks 10 (hex_word w)
unfolding hex_word
word_lacks w =
    lacks-append 10 (hex_byte (byte_at 3 w)) (hex_byte (byte_at 2 w) ++ (hex_byte (byte_at 1 w) ++ (hex_byte (byte_at 0 w) ++ []))) (byte_lacks (byte_at 3 w) (byte_small w 3))
    (lacks-append 10 (hex_byte (byte_at 2 w)) (hex_byte (byte_at 1 w) ++ (hex_byte (byte_at 0 w) ++ [])) (byte_lacks (byte_at 2 w) (byte_small w 2))
    (lacks-append 10 (hex_byte (byte_at 1 w)) (hex_byte (byte_at 0 w) ++ []) (byte_lacks (byte_at 1 w) (byte_small w 1))
    (lacks-append 10 (hex_byte (byte_at 0 w)) [] (byte_lacks (byte_at 0 w) (byte_small w 0)) tt)))

words_lack : (ws : List ℕ) → Lacks 10 (flat_map hex_word ws)
words_lack [] = tt
words_lack (w ∷ ws) = lacks-append 10 (hex_word w) (flat_map hex_word ws) (word_lacks w) (words_lack ws)

pub written_lacks : (w : Written) → IsWritten w → Lacks 10 (line_bytes w)
written_lacks (numbers l) f = line_lacks l f
written_lacks (words ws) f = (refl, (refl, words_lack ws))
