-- A line is read exactly if it is spelled: all kinds of lines.
use Rattle.std.proofs.Common.{◌≡◌, ℕ, ◌+◌, ◌-◌, ◌<◌, ◌≤◌, ◌^◌, List, [], ◌∷◌, ◌++◌, Option, Some, None, Bool, true, false, ◌==◌, cond, refl, ap, ◌∙◌, sym, subst, arith, append_assoc, append-nil, lit<}
use Rattle.af_journal.proofs.Common.{AreWords, ClientCall, FitsPush, Push, Seen, decimal, decimal_digit, equal_is, nat_tests, one_few, one_if, same_Some, slots}
use Rattle.af_base.specs.declared.event.ClientCall.TheVariants as call
use Rattle.af_base.specs.declared.state.Push.TheVariants as pushing
use Rattle.af_journal.specs.declared.line.Line.{Line}
use Rattle.af_journal.specs.declared.line.Line.TheVariants as line
use Rattle.af_journal.specs.Lines.{call_line, line_text, push_line, seen_text}
use Rattle.af_journal.specs.LineReading.{◌>>=◌, call_at, entry_at, line_at, look_at, marked_at, next_number, next_word, one_at, push_at, pushed_at, busy_at, seen_at, slot_at, slot_from, status_at, take_at, turn_at, turn_line_at, two_at, whole}
use Rattle.af_journal.specs.Ranges.{IsLine, IsSeenText}
use Rattle.af_journal.proofs.Spelled.{bind_some, either, whole_some, number-sound, number-more, number-last, one-sound, one-again, two-sound, two-again, seen-sound, seen-again, yes_is, digit_back, call-sound, call-again, first_of_line}

pub record Spells (bytes : List ℕ) (l : Line) : Type 0 where
  pub spelled : bytes ≡ line_text l
  pub fits : IsLine l

-- ## How the bytes of several numbers are grouped

three_then : (a b c d : List ℕ) → (a ++ 32 ∷ (b ++ 32 ∷ c)) ++ 32 ∷ d ≡ a ++ 32 ∷ (b ++ 32 ∷ (c ++ 32 ∷ d))
three_then a b c d = append_assoc a (32 ∷ (b ++ 32 ∷ c)) (32 ∷ d) ∙ ap (λ l. a ++ 32 ∷ l) (append_assoc b (32 ∷ c) (32 ∷ d))

four_then : (a b c d e : List ℕ) → (a ++ 32 ∷ (b ++ 32 ∷ (c ++ 32 ∷ d))) ++ 32 ∷ e ≡ a ++ 32 ∷ (b ++ 32 ∷ (c ++ 32 ∷ (d ++ 32 ∷ e)))
four_then a b c d e = append_assoc a (32 ∷ (b ++ 32 ∷ (c ++ 32 ∷ d))) (32 ∷ e) ∙ ap (λ l. a ++ 32 ∷ l) (three_then b c d e)

six_then : (a b c d e f g : List ℕ) → (a ++ 32 ∷ (b ++ 32 ∷ (c ++ 32 ∷ (d ++ 32 ∷ (e ++ 32 ∷ f))))) ++ 32 ∷ g ≡ a ++ 32 ∷ (b ++ 32 ∷ (c ++ 32 ∷ (d ++ 32 ∷ (e ++ 32 ∷ (f ++ 32 ∷ g)))))
six_then a b c d e f g =
    append_assoc a (32 ∷ (b ++ 32 ∷ (c ++ 32 ∷ (d ++ 32 ∷ (e ++ 32 ∷ f))))) (32 ∷ g)
    ∙ ap (λ l. a ++ 32 ∷ l) (append_assoc b (32 ∷ (c ++ 32 ∷ (d ++ 32 ∷ (e ++ 32 ∷ f)))) (32 ∷ g) ∙ ap (λ l. b ++ 32 ∷ l) (four_then c d e f g))

-- the text of one number more
abbrev after : ℕ → List ℕ → List ℕ
after n rest = 32 ∷ (decimal n ++ rest)

-- ## The lines of a turn

turn-sound : (rest : List ℕ) (l : Line) → turn_at rest ≡ Some l → Spells (78 ∷ rest) l
unfolding turn_at
turn-sound rest l e =
    let room = bind_some (next_word rest) _ l e in
    let ack = bind_some (next_number 1 room.0.1) _ l room.2 in
    let cycle = bind_some (next_number (2 ^ 64 - 1) ack.0.1) _ l ack.2 in
    let w = whole_some cycle.0.1 (line.Turn room.0.0 (ack.0.0 == 1) cycle.0.0) l cycle.2 in
    let r = number-sound (2 ^ 32 - 1) rest room.0 room.1 in
    let a = number-sound 1 room.0.1 ack.0 ack.1 in
    let k = number-sound (2 ^ 64 - 1) ack.0.1 cycle.0 cycle.1 in
    subst (Spells (78 ∷ rest)) w.1 (record {
      spelled = ap (λ l. 78 ∷ l) (r.spelled ∙ ap (after room.0.0) (a.spelled
          ∙ ap (after ack.0.0) (k.spelled ∙ ap (after cycle.0.0) w.0 ∙ ap (λ l. 32 ∷ l) (append-nil (decimal cycle.0.0)))
          ∙ ap (λ b. after b (32 ∷ decimal cycle.0.0)) (yes_is ack.0.0 a.fits)));
      fits = (omega (arith, r.fits), omega (arith, k.fits));
    })

turn-again : (room : ℕ) (ack : Bool) (cycle : ℕ) → room < 2 ^ 32 → cycle < 2 ^ 64 → turn_at (after room (after (one_if ack) (32 ∷ decimal cycle))) ≡ Some (line.Turn room ack cycle)
unfolding turn_at
turn-again room ack cycle h k =
    rw (number-more (2 ^ 32 - 1) room (decimal (one_if ack) ++ 32 ∷ decimal cycle) (omega arith) (lit< tt))
    (rw (number-more 1 (one_if ack) (decimal cycle) (one_few ack) (lit< tt))
    (rw (number-last (2 ^ 64 - 1) cycle (omega arith) (lit< tt)) (ap (λ b. Some (line.Turn room b cycle)) (digit_back ack))))

look-sound : (rest : List ℕ) (l : Line) → look_at rest ≡ Some l → Spells (113 ∷ rest) l
unfolding look_at
look-sound rest l e =
    let track = bind_some (next_word rest) _ l e in
    let flush = bind_some (next_word track.0.1) _ l track.2 in
    let rear = bind_some (next_word flush.0.1) _ l flush.2 in
    let answer = bind_some (seen_at rear.0.1) _ l rear.2 in
    let t = number-sound (2 ^ 32 - 1) rest track.0 track.1 in
    let f = number-sound (2 ^ 32 - 1) track.0.1 flush.0 flush.1 in
    let r = number-sound (2 ^ 32 - 1) flush.0.1 rear.0 rear.1 in
    let s = seen-sound rear.0.1 answer.0 answer.1 in
    subst (Spells (113 ∷ rest)) (same_Some _ _ answer.2) (record {
      spelled = ap (λ l. 113 ∷ l) (t.spelled ∙ ap (after track.0.0) (f.spelled ∙ ap (after flush.0.0) (r.spelled ∙ ap (after rear.0.0) s.spelled)))
          ∙ ap (λ l. 113 ∷ 32 ∷ l) (sym (three_then (decimal track.0.0) (decimal flush.0.0) (decimal rear.0.0) (seen_text answer.0)));
      fits = ((omega (arith, t.fits), (omega (arith, f.fits), (omega (arith, r.fits), tt))), s.fits);
    })

look-again : (track flush rear : ℕ) (answer : Seen) → AreWords (track ∷ flush ∷ rear ∷ []) → IsSeenText answer → look_at (after track (after flush (after rear (32 ∷ seen_text answer)))) ≡ Some (line.Look track flush rear answer)
unfolding look_at
look-again track flush rear answer fit is =
    let t = fit.0 in let f = fit.1.0 in let r = fit.1.1.0 in
    rw (number-more (2 ^ 32 - 1) track (decimal flush ++ after rear (32 ∷ seen_text answer)) (omega arith) (lit< tt))
    (rw (number-more (2 ^ 32 - 1) flush (decimal rear ++ 32 ∷ seen_text answer) (omega arith) (lit< tt))
    (rw (number-more (2 ^ 32 - 1) rear (seen_text answer) (omega arith) (lit< tt))
    (rw (seen-again answer is) refl)))

take-sound : (rest : List ℕ) (l : Line) → take_at rest ≡ Some l → Spells (109 ∷ rest) l
unfolding take_at
take-sound rest l e =
    let track = bind_some (next_word rest) _ l e in
    let gains = bind_some (next_word track.0.1) _ l track.2 in
    let flush = bind_some (next_word gains.0.1) _ l gains.2 in
    let rear = bind_some (next_word flush.0.1) _ l flush.2 in
    let answer = bind_some (seen_at rear.0.1) _ l rear.2 in
    let t = number-sound (2 ^ 32 - 1) rest track.0 track.1 in
    let g = number-sound (2 ^ 32 - 1) track.0.1 gains.0 gains.1 in
    let f = number-sound (2 ^ 32 - 1) gains.0.1 flush.0 flush.1 in
    let r = number-sound (2 ^ 32 - 1) flush.0.1 rear.0 rear.1 in
    let s = seen-sound rear.0.1 answer.0 answer.1 in
    subst (Spells (109 ∷ rest)) (same_Some _ _ answer.2) (record {
      spelled = ap (λ l. 109 ∷ l) (t.spelled ∙ ap (after track.0.0) (g.spelled ∙ ap (after gains.0.0) (f.spelled ∙ ap (after flush.0.0) (r.spelled ∙ ap (after rear.0.0) s.spelled))))
          ∙ ap (λ l. 109 ∷ 32 ∷ l) (sym (four_then (decimal track.0.0) (decimal gains.0.0) (decimal flush.0.0) (decimal rear.0.0) (seen_text answer.0)));
      fits = ((omega (arith, t.fits), (omega (arith, g.fits), (omega (arith, f.fits), (omega (arith, r.fits), tt)))), s.fits);
    })

take-again : (track gains flush rear : ℕ) (answer : Seen) → AreWords (track ∷ gains ∷ flush ∷ rear ∷ []) → IsSeenText answer
    → take_at (after track (after gains (after flush (after rear (32 ∷ seen_text answer))))) ≡ Some (line.Take track gains flush rear answer)
unfolding take_at
take-again track gains flush rear answer fit is =
    let t = fit.0 in let g = fit.1.0 in let f = fit.1.1.0 in let r = fit.1.1.1.0 in
    rw (number-more (2 ^ 32 - 1) track (decimal gains ++ after flush (after rear (32 ∷ seen_text answer))) (omega arith) (lit< tt))
    (rw (number-more (2 ^ 32 - 1) gains (decimal flush ++ after rear (32 ∷ seen_text answer)) (omega arith) (lit< tt))
    (rw (number-more (2 ^ 32 - 1) flush (decimal rear ++ 32 ∷ seen_text answer) (omega arith) (lit< tt))
    (rw (number-more (2 ^ 32 - 1) rear (seen_text answer) (omega arith) (lit< tt))
    (rw (seen-again answer is) refl))))

status-sound : (rest : List ℕ) (l : Line) → status_at rest ≡ Some l → Spells (97 ∷ rest) l
unfolding status_at
status-sound rest l e =
    let n = bind_some (two_at rest) _ l e in let o = two-sound rest n.0 n.1 in
    subst (Spells (97 ∷ rest)) (same_Some _ _ n.2) (record { spelled = ap (λ l. 97 ∷ l) o.0; fits = o.1 })

record SpellsPush (bytes : List ℕ) (p : Push) : Type 0 where
  spelled : bytes ≡ push_line p
  fits : FitsPush p

-- the two bytes of a kind of push
kind_is : (n : ℕ) (rest more : List ℕ) → n < 10 → rest ≡ after n more → 80 ∷ rest ≡ 80 ∷ 32 ∷ (48 + n) ∷ more
kind_is n rest more h e = ap (λ l. 80 ∷ l) (e ∙ ap (λ l. 32 ∷ (l ++ more)) (decimal_digit n h))

pushed-sound : (bytes : List ℕ) (p : Push) → pushed_at bytes ≡ Some p → SpellsPush (80 ∷ 32 ∷ 49 ∷ bytes) p
unfolding pushed_at
pushed-sound bytes p e =
    let n = bind_some (next_number (2 ^ 64 - 1) bytes) _ p e in
    let s = number-sound (2 ^ 64 - 1) bytes n.0 n.1 in
    let w = whole_some n.0.1 (pushing.Pushed n.0.0) p n.2 in
    subst (SpellsPush (80 ∷ 32 ∷ 49 ∷ bytes)) w.1 (record {
      spelled = ap (λ l. 80 ∷ 32 ∷ 49 ∷ l) (s.spelled ∙ ap (after n.0.0) w.0 ∙ ap (λ l. 32 ∷ l) (append-nil (decimal n.0.0)));
      fits = omega (arith, s.fits);
    })

busy-sound : (bytes : List ℕ) (p : Push) → busy_at bytes ≡ Some p → SpellsPush (80 ∷ 32 ∷ 50 ∷ bytes) p
unfolding busy_at
busy-sound bytes p e =
    let n = bind_some (two_at bytes) _ p e in let o = two-sound bytes n.0 n.1 in
    subst (SpellsPush (80 ∷ 32 ∷ 50 ∷ bytes)) (same_Some _ _ n.2) (record { spelled = ap (λ l. 80 ∷ 32 ∷ 50 ∷ l) o.0; fits = o.1 })

as_pushed : (rest bytes : List ℕ) (p : Push) → 80 ∷ rest ≡ bytes → SpellsPush bytes p → SpellsPush (80 ∷ rest) p
as_pushed rest bytes p e s = record { spelled = e ∙ s.spelled; fits = s.fits }

is_two : (n : ℕ) → n ≤ 2 → (n == 0) ≡ false → (n == 1) ≡ false → n ≡ 2
is_two n h a b = grind (arith, nat_tests)

kind_of_push : (n : ℕ) (more rest : List ℕ) (p : Push) (a b : Bool) → (n == 0) ≡ a → (n == 1) ≡ b → n ≤ 2 → rest ≡ after n more
    → cond a (whole more pushing.Clean) (cond b (pushed_at more) (busy_at more)) ≡ Some p → SpellsPush (80 ∷ rest) p
kind_of_push n more rest p true b i j h r e =
    let z : n ≡ 0 = equal_is n 0 i in let w = whole_some more pushing.Clean p e in
    subst (SpellsPush (80 ∷ rest)) w.1 (record { spelled = kind_is 0 rest [] (lit< tt) (r ∙ ap (λ n. after n more) z ∙ ap (after 0) w.0); fits = tt })
kind_of_push n more rest p false true i j h r e =
    as_pushed rest (80 ∷ 32 ∷ 49 ∷ more) p (kind_is 1 rest more (lit< tt) (r ∙ ap (λ n. after n more) (equal_is n 1 j))) (pushed-sound more p e)
kind_of_push n more rest p false false i j h r e =
    as_pushed rest (80 ∷ 32 ∷ 50 ∷ more) p (kind_is 2 rest more (lit< tt) (r ∙ ap (λ n. after n more) (is_two n h i j))) (busy-sound more p e)

push-sound : (rest : List ℕ) (p : Push) → push_at rest ≡ Some p → SpellsPush (80 ∷ rest) p
unfolding push_at
push-sound rest p e =
    let k = bind_some (next_number 2 rest) _ p e in
    let s = number-sound 2 rest k.0 k.1 in
    kind_of_push k.0.0 k.0.1 rest p (k.0.0 == 0) (k.0.0 == 1) refl refl s.fits s.spelled k.2

-- the kind of a push, before more and at the end
kind-more : (n : ℕ) (more : List ℕ) → n ≤ 2 → next_number 2 (32 ∷ (48 + n) ∷ 32 ∷ more) ≡ Some (n, 32 ∷ more)
kind-more n more h = ap (λ l. next_number 2 (32 ∷ (l ++ 32 ∷ more))) (sym (decimal_digit n (omega arith))) ∙ number-more 2 n more h (lit< tt)

kind-last : (n : ℕ) → n ≤ 2 → next_number 2 (32 ∷ (48 + n) ∷ []) ≡ Some (n, [])
kind-last n h = ap (λ l. next_number 2 (32 ∷ l)) (sym (decimal_digit n (omega arith))) ∙ number-last 2 n h (lit< tt)

abbrev push_from : Option (ℕ × List ℕ) → Option Push
push_from o = o >>= λ kind. cond (kind.0 == 0) (whole kind.1 pushing.Clean) (cond (kind.0 == 1) (pushed_at kind.1) (busy_at kind.1))

abbrev pushed_line_at : List ℕ → Option Push
pushed_line_at [] = None
pushed_line_at (mark ∷ rest) = push_at rest

push-again : (p : Push) → FitsPush p → pushed_line_at (push_line p) ≡ Some p
unfolding push_at pushed_at busy_at
push-again pushing.Clean f = ap push_from (kind-last 0 (omega arith))
push-again (pushing.Pushed n) f = ap push_from (kind-more 1 (decimal n) (omega arith)) ∙ ap (λ (o : Option (ℕ × List ℕ)). o >>= λ a. whole a.1 (pushing.Pushed a.0)) (number-last (2 ^ 64 - 1) n (omega arith) (lit< tt))
push-again (pushing.Busy a b) f = ap push_from (kind-more 2 (decimal a ++ 32 ∷ decimal b) (omega arith)) ∙ ap (λ (o : Option (ℕ × ℕ)). o >>= λ n. Some (pushing.Busy n.0 n.1)) (two-again a b f.0 f.1.0)

-- ## Entries and slots

entry-sound : (rest : List ℕ) (l : Line) → entry_at rest ≡ Some l → Spells (121 ∷ rest) l
unfolding entry_at
entry-sound rest l e =
    let state = bind_some (next_number (2 ^ 64 - 1) rest) _ l e in
    let kind = bind_some (next_number 3 state.0.1) _ l state.2 in
    let w = whole_some kind.0.1 (line.Entry state.0.0 kind.0.0) l kind.2 in
    let s = number-sound (2 ^ 64 - 1) rest state.0 state.1 in
    let k = number-sound 3 state.0.1 kind.0 kind.1 in
    subst (Spells (121 ∷ rest)) w.1 (record {
      spelled = ap (λ l. 121 ∷ l) (s.spelled ∙ ap (after state.0.0) (k.spelled ∙ ap (after kind.0.0) w.0 ∙ ap (λ l. 32 ∷ l) (append-nil (decimal kind.0.0))));
      fits = (omega (arith, s.fits), omega (arith, k.fits));
    })

entry-again : (state kind : ℕ) → state < 2 ^ 64 → kind < 4 → entry_at (after state (32 ∷ decimal kind)) ≡ Some (line.Entry state kind)
unfolding entry_at
entry-again state kind h k =
    rw (number-more (2 ^ 64 - 1) state (decimal kind) (omega arith) (lit< tt)) (rw (number-last 3 kind (omega arith) (lit< tt)) refl)

slot_from-sound : (slot scale : ℕ) (mono : Bool) (rest : List ℕ) (l : Line) → slot_from slot scale mono rest ≡ Some l → slot < slots → scale < 2 ^ 16
    → 122 ∷ after slot (after scale (after (one_if mono) rest)) ≡ line_text l × IsLine l
unfolding slot_from
slot_from-sound slot scale mono rest l e h k =
    let gains = bind_some (next_word rest) _ l e in
    let flush = bind_some (next_word gains.0.1) _ l gains.2 in
    let rear = bind_some (next_word flush.0.1) _ l flush.2 in
    let answer = bind_some (seen_at rear.0.1) _ l rear.2 in
    let g = number-sound (2 ^ 32 - 1) rest gains.0 gains.1 in
    let f = number-sound (2 ^ 32 - 1) gains.0.1 flush.0 flush.1 in
    let r = number-sound (2 ^ 32 - 1) flush.0.1 rear.0 rear.1 in
    let s = seen-sound rear.0.1 answer.0 answer.1 in
    subst (λ (l : Line). (122 ∷ after slot (after scale (after (one_if mono) rest)) ≡ line_text l) × IsLine l) (same_Some _ _ answer.2) (
      ap (λ l. 122 ∷ after slot (after scale (after (one_if mono) l))) (g.spelled ∙ ap (after gains.0.0) (f.spelled ∙ ap (after flush.0.0) (r.spelled ∙ ap (after rear.0.0) s.spelled)))
          ∙ ap (λ l. 122 ∷ 32 ∷ l) (sym (six_then (decimal slot) (decimal scale) (decimal (one_if mono)) (decimal gains.0.0) (decimal flush.0.0) (decimal rear.0.0) (seen_text answer.0))),
      (h, k, (omega (arith, g.fits), (omega (arith, f.fits), (omega (arith, r.fits), tt))), s.fits),
    )

slot-sound : (rest : List ℕ) (l : Line) → slot_at rest ≡ Some l → Spells (122 ∷ rest) l
unfolding slot_at
slot-sound rest l e =
    let slot = bind_some (next_number (slots - 1) rest) _ l e in
    let scale = bind_some (next_number (2 ^ 16 - 1) slot.0.1) _ l slot.2 in
    let mono = bind_some (next_number 1 scale.0.1) _ l scale.2 in
    let i = number-sound (slots - 1) rest slot.0 slot.1 in
    let s = number-sound (2 ^ 16 - 1) slot.0.1 scale.0 scale.1 in
    let m = number-sound 1 scale.0.1 mono.0 mono.1 in
    let rest_is = slot_from-sound slot.0.0 scale.0.0 (mono.0.0 == 1) mono.0.1 l mono.2 (omega (arith, i.fits)) (omega (arith, s.fits)) in
    record {
      spelled = ap (λ l. 122 ∷ l) (i.spelled ∙ ap (after slot.0.0) (s.spelled ∙ ap (after scale.0.0) (m.spelled ∙ ap (λ b. after b mono.0.1) (yes_is mono.0.0 m.fits)))) ∙ rest_is.0;
      fits = rest_is.1;
    }

slot-again : (slot scale : ℕ) (mono : Bool) (gains flush rear : ℕ) (answer : Seen) → IsLine (line.Slot slot scale mono gains flush rear answer)
    → slot_at (after slot (after scale (after (one_if mono) (after gains (after flush (after rear (32 ∷ seen_text answer))))))) ≡ Some (line.Slot slot scale mono gains flush rear answer)
unfolding slot_at slot_from
slot-again slot scale mono gains flush rear answer fit =
    let i = fit.0 in let s = fit.1 in let g = fit.2.0 in let f = fit.2.1.0 in let r = fit.2.1.1.0 in
    rw (number-more (slots - 1) slot (decimal scale ++ after (one_if mono) (after gains (after flush (after rear (32 ∷ seen_text answer))))) (omega arith) (lit< tt))
    (rw (number-more (2 ^ 16 - 1) scale (decimal (one_if mono) ++ after gains (after flush (after rear (32 ∷ seen_text answer)))) (omega arith) (lit< tt))
    (rw (number-more 1 (one_if mono) (decimal gains ++ after flush (after rear (32 ∷ seen_text answer))) (one_few mono) (lit< tt))
    (rw (number-more (2 ^ 32 - 1) gains (decimal flush ++ after rear (32 ∷ seen_text answer)) (omega arith) (lit< tt))
    (rw (number-more (2 ^ 32 - 1) flush (decimal rear ++ 32 ∷ seen_text answer) (omega arith) (lit< tt))
    (rw (number-more (2 ^ 32 - 1) rear (seen_text answer) (omega arith) (lit< tt))
    (rw (seen-again answer fit.3) (ap (λ b. Some (line.Slot slot scale b gains flush rear answer)) (digit_back mono))))))))

-- ## All kinds

alone : (mark code : ℕ) (rest : List ℕ) (x l : Line) → (mark == code) ≡ true → whole rest x ≡ Some l → code ∷ [] ≡ line_text x → IsLine x → Spells (mark ∷ rest) l
alone mark code rest x l m e text fit =
    let w = whole_some rest x l e in
    subst (Spells (mark ∷ rest)) w.1 (record { spelled = ap (λ m. m ∷ rest) (equal_is mark code m) ∙ ap (λ r. code ∷ r) w.0 ∙ text; fits = fit })

one_line : (mark code : ℕ) (rest : List ℕ) (f : ℕ → Line) (l : Line) → (mark == code) ≡ true → (one_at rest >>= λ n. Some (f n)) ≡ Some l
    → ((n : ℕ) → code ∷ 32 ∷ decimal n ≡ line_text (f n)) → ((n : ℕ) → n < 2 ^ 32 → IsLine (f n)) → Spells (mark ∷ rest) l
one_line mark code rest f l m e text fit =
    let n = bind_some (one_at rest) _ l e in
    let o = one-sound rest n.0 n.1 in
    subst (Spells (mark ∷ rest)) (same_Some _ _ n.2) (record { spelled = ap (λ m. m ∷ rest) (equal_is mark code m) ∙ ap (λ l. code ∷ l) o.0 ∙ text n.0; fits = fit n.0 o.1 })

marked : (mark code : ℕ) (rest : List ℕ) (l : Line) → (mark == code) ≡ true → Spells (code ∷ rest) l → Spells (mark ∷ rest) l
marked mark code rest l m s = record { spelled = ap (λ m. m ∷ rest) (equal_is mark code m) ∙ s.spelled; fits = s.fits }

push_of-sound : (rest : List ℕ) (l : Line) → (push_at rest >>= λ push. Some (line.Pushed push)) ≡ Some l → Spells (80 ∷ rest) l
push_of-sound rest l e =
    let p = bind_some (push_at rest) _ l e in let s = push-sound rest p.0 p.1 in
    subst (Spells (80 ∷ rest)) (same_Some _ _ p.2) (record { spelled = s.spelled; fits = s.fits })

call_of-sound : (mark : ℕ) (rest : List ℕ) (l : Line) → (call_at mark rest >>= λ answer. Some (line.Call answer)) ≡ Some l → Spells (mark ∷ rest) l
call_of-sound mark rest l e =
    let p = bind_some (call_at mark rest) _ l e in let s = call-sound mark rest p.0 p.1 in
    subst (Spells (mark ∷ rest)) (same_Some _ _ p.2) (record { spelled = s.spelled; fits = s.fits })

turn_line-sound : (mark : ℕ) (rest : List ℕ) (l : Line) → turn_line_at mark rest ≡ Some l → Spells (mark ∷ rest) l
unfolding turn_line_at
turn_line-sound mark rest l e =
    either (mark == 78) _ _ l e (λ m f. marked mark 78 rest l m (turn-sound rest l f))
    (λ e. either (mark == 69) _ _ l e (λ m f. alone mark 69 rest line.Ended l m f refl tt)
    (λ e. either (mark == 113) _ _ l e (λ m f. marked mark 113 rest l m (look-sound rest l f))
    (λ e. either (mark == 98) _ _ l e (λ m f. one_line mark 98 rest line.Disabled l m f (λ n. refl) (λ n h. h))
    (λ e. either (mark == 97) _ _ l e (λ m f. marked mark 97 rest l m (status-sound rest l f))
    (λ e. either (mark == 80) _ _ l e (λ m f. marked mark 80 rest l m (push_of-sound rest l f))
    (λ e. either (mark == 109) _ _ l e (λ m f. marked mark 109 rest l m (take-sound rest l f))
    (λ e. call_of-sound mark rest l e)))))))

marked-sound : (mark : ℕ) (rest : List ℕ) (l : Line) → marked_at mark rest ≡ Some l → Spells (mark ∷ rest) l
unfolding marked_at
marked-sound mark rest l e =
    either (mark == 82) _ _ l e (λ m f. alone mark 82 rest line.Round l m f refl tt)
    (λ e. either (mark == 67) _ _ l e (λ m f. one_line mark 67 rest line.Client l m f (λ n. refl) (λ n h. h))
    (λ e. either (mark == 70) _ _ l e (λ m f. alone mark 70 rest line.Fast l m f refl tt)
    (λ e. either (mark == 121) _ _ l e (λ m f. marked mark 121 rest l m (entry-sound rest l f))
    (λ e. either (mark == 122) _ _ l e (λ m f. marked mark 122 rest l m (slot-sound rest l f))
    (λ e. turn_line-sound mark rest l e)))))

-- a line that was read is the one that the bytes spell
pub line-sound : (bytes : List ℕ) (l : Line) → line_at bytes ≡ Some l → Spells bytes l
line-sound [] l e = cc
line-sound (mark ∷ rest) l e = marked-sound mark rest l e

-- the marks of calls are those of no other line
call_first : (c : ClientCall) → line_at (call_line c) ≡ (first_of_line (call_line c) >>= λ answer. Some (line.Call answer))
unfolding marked_at turn_line_at
call_first (call.Put a b) = refl
call_first _ = refl

push_first : (p : Push) → line_at (push_line p) ≡ (pushed_line_at (push_line p) >>= λ push. Some (line.Pushed push))
unfolding marked_at turn_line_at
push_first pushing.Clean = refl
push_first (pushing.Pushed n) = refl
push_first (pushing.Busy a b) = refl

-- a line that is spelled is read
pub line-again : (l : Line) → IsLine l → line_at (line_text l) ≡ Some l
unfolding marked_at turn_line_at status_at
line-again line.Round f = refl
line-again (line.Client track) f = ap (λ (o : Option ℕ). o >>= λ n. Some (line.Client n)) (one-again track f)
line-again (line.Call answer) f = call_first answer ∙ ap (λ (o : Option ClientCall). o >>= λ c. Some (line.Call c)) (call-again answer f)
line-again (line.Turn room ack cycle) f = turn-again room ack cycle f.0 f.1
line-again line.Ended f = refl
line-again (line.Look track flush rear answer) f = ap (λ l. look_at (32 ∷ l)) (three_then (decimal track) (decimal flush) (decimal rear) (seen_text answer)) ∙ look-again track flush rear answer f.0 f.1
line-again (line.Disabled track) f = ap (λ (o : Option ℕ). o >>= λ n. Some (line.Disabled n)) (one-again track f)
line-again (line.Status track word) f = ap (λ (o : Option (ℕ × ℕ)). o >>= λ n. Some (line.Status n.0 n.1)) (two-again track word f.0 f.1.0)
line-again (line.Pushed push) f = push_first push ∙ ap (λ (o : Option Push). o >>= λ p. Some (line.Pushed p)) (push-again push f)
line-again (line.Take track gains flush rear answer) f = ap (λ l. take_at (32 ∷ l)) (four_then (decimal track) (decimal gains) (decimal flush) (decimal rear) (seen_text answer)) ∙ take-again track gains flush rear answer f.0 f.1
line-again line.Fast f = refl
line-again (line.Entry state kind) f = entry-again state kind f.0 f.1
line-again (line.Slot slot scale mono gains flush rear answer) f =
    ap (λ l. slot_at (32 ∷ l)) (six_then (decimal slot) (decimal scale) (decimal (one_if mono)) (decimal gains) (decimal flush) (decimal rear) (seen_text answer)) ∙ slot-again slot scale mono gains flush rear answer f
