-- A line is read exactly if it is spelled.
use Rattle.std.proofs.Common.{◌≡◌, ℕ, zero, suc, ◌+◌, ◌-◌, ◌%◌, ◌<◌, ◌≤◌, ◌^◌, List, [], ◌∷◌, ◌++◌, Option, Some, None, Bool, true, false, nat_le, ◌==◌, if◌then◌else◌, cond, refl, ap, ◌∙◌, sym, subst, arith, append-nil, lit<}
use Rattle.af_journal.proofs.Common.{AreWords, ClientCall, FitsCall, Seen, decimal, decimal_by_steps, equal_is, is_within, nat_tests, not_first, not_zero, one_few, one_if, same_Some, some_is}
use Rattle.af_base.specs.declared.event.ClientCall.TheVariants as call
use Rattle.af_base.specs.declared.seen.Seen.TheVariants as seen
use Rattle.af_journal.specs.Digits.{number_at}
use Rattle.af_journal.specs.Lines.{call_line, seen_text}
use Rattle.af_journal.specs.LineReading.{◌>>=◌, call_at, corrupt_at, frames_at, next_number, next_word, one_at, poke_at, put_at, seen_at, send_at, send_corrupt_at, sent_at, shown_at, three_at, two_at, up_to, whole, word_at}
use Rattle.af_journal.specs.Ranges.{IsSeenText}
use Rattle.af_journal.proofs.Decimal.{number_at-sound, number_at-decimal}

-- ## Options

pub bind_some : {A B : Type 0} (r : Option A) (f : A → Option B) (y : B) → (r >>= f) ≡ Some y → (x : A) × (r ≡ Some x) × (f x ≡ Some y)
bind_some (Some x) f y e = (x, refl, e)
bind_some None f y e = cc

pub guard_some : {A : Type 0} (b : Bool) (r : Option A) (y : A) → cond b r None ≡ Some y → (b ≡ true) × (r ≡ Some y)
guard_some true r y e = (refl, e)
guard_some false r y e = cc

-- a result is that of one of two branches
pub either : {A P : Type 0} (b : Bool) (x y : Option A) (z : A) → cond b x y ≡ Some z → (b ≡ true → x ≡ Some z → P) → (y ≡ Some z → P) → P
either true x y z e f g = f refl e
either false x y z e f g = g e

pub whole_some : {A : Type 0} (bytes : List ℕ) (x y : A) → whole bytes x ≡ Some y → (bytes ≡ []) × (x ≡ y)
whole_some [] x y e = (refl, same_Some _ _ e)
whole_some (c ∷ cs) x y e = cc

-- ## Bytes that a line lacks

-- none of the bytes is that one
abbrev pub Lacks : ℕ → List ℕ → Type 0
Lacks b [] = Unit {0}
Lacks b (c ∷ cs) = ((c == b) ≡ false) × Lacks b cs

pub lacks-append : (b : ℕ) (xs ys : List ℕ) → Lacks b xs → Lacks b ys → Lacks b (xs ++ ys)
lacks-append b [] ys p q = q
lacks-append b (x ∷ xs) ys p q = (p.0, lacks-append b xs ys p.1 q)

digit_lacks : (b d : ℕ) → b < 48 → ((48 + d) == b) ≡ false
digit_lacks b d h = grind (arith, nat_tests)

-- digits have no byte below theirs
pub decimal_lacks : (b n : ℕ) → b < 48 → n < 2 ^ 64 → Lacks b (decimal n)
decimal_lacks b n h fits =
    decimal_by_steps (λ n ds. Lacks b ds)
    (λ n _. (digit_lacks b n h, tt))
    (λ n ds _ p. lacks-append b ds ((48 + n % 10) ∷ []) p (digit_lacks b (n % 10) h, tt))
    n fits

-- ## Words

joined_by : (b : Bool) (c : ℕ) (cs : List ℕ) (r : List ℕ × List ℕ) → r.0 ++ r.1 ≡ cs → (cond {A = List ℕ × List ℕ} b ([], c ∷ cs) (c ∷ r.0, r.1)).0 ++ (cond {A = List ℕ × List ℕ} b ([], c ∷ cs) (c ∷ r.0, r.1)).1 ≡ c ∷ cs
joined_by true c cs r e = refl
joined_by false c cs r e = ap (λ l. c ∷ l) e

word-joined : (bytes : List ℕ) → (word_at bytes).0 ++ (word_at bytes).1 ≡ bytes
word-joined [] = refl
word-joined (c ∷ cs) = joined_by (c == 32) c cs (word_at cs) (word-joined cs)

-- a word ends at a space
word-more : (word rest : List ℕ) → Lacks 32 word → word_at (word ++ 32 ∷ rest) ≡ (word, 32 ∷ rest)
word-more [] rest p = refl
word-more (c ∷ cs) rest p =
    ap (λ b. cond {A = List ℕ × List ℕ} b ([], c ∷ (cs ++ 32 ∷ rest)) (c ∷ (word_at (cs ++ 32 ∷ rest)).0, (word_at (cs ++ 32 ∷ rest)).1)) p.0
    ∙ ap (λ (r : List ℕ × List ℕ). (c ∷ r.0, r.1)) (word-more cs rest p.1)

-- a word ends at the end of the line
word-last : (word : List ℕ) → Lacks 32 word → word_at word ≡ (word, [])
word-last [] p = refl
word-last (c ∷ cs) p =
    ap (λ b. cond {A = List ℕ × List ℕ} b ([], c ∷ cs) (c ∷ (word_at cs).0, (word_at cs).1)) p.0
    ∙ ap (λ (r : List ℕ × List ℕ). (c ∷ r.0, r.1)) (word-last cs p.1)

-- ## Numbers

within : (m n limit : ℕ) → m ≡ n → nat_le m limit ≡ true → n ≤ limit
within m n limit same h = grind (arith, nat_tests)

up_to-sound : (limit : ℕ) (word : List ℕ) (n : ℕ) → up_to limit word ≡ Some n → (word ≡ decimal n) × (n ≤ limit)
up_to-sound limit word n e =
    let x = bind_some (number_at word) (λ n. if nat_le n limit then Some n else None) n e in
    let y = guard_some (nat_le x.0 limit) (Some x.0) n x.2 in
    let same : x.0 ≡ n = same_Some _ _ y.1 in
    (number_at-sound word x.0 x.1 ∙ ap decimal same, within x.0 n limit same y.0)

up_to-again : (limit n : ℕ) → n ≤ limit → limit < 2 ^ 64 → up_to limit (decimal n) ≡ Some n
up_to-again limit n h fits =
    ap (λ (o : Option ℕ). o >>= λ n. if nat_le n limit then Some n else None) (number_at-decimal n (omega arith))
    ∙ ap (λ b. cond b (Some n) None) (is_within n limit h)

-- a number was read
pub record Number (limit : ℕ) (bytes : List ℕ) (r : ℕ × List ℕ) : Type 0 where
  pub spelled : bytes ≡ 32 ∷ (decimal r.0 ++ r.1)
  pub fits : r.0 ≤ limit

pub number-sound : (limit : ℕ) (bytes : List ℕ) (r : ℕ × List ℕ) → next_number limit bytes ≡ Some r → Number limit bytes r
unfolding next_number
number-sound limit [] r e = cc
number-sound limit (c ∷ cs) r e =
    let g = guard_some (c == 32) (up_to limit (word_at cs).0 >>= λ n. Some (n, (word_at cs).1)) r e in
    let n = bind_some (up_to limit (word_at cs).0) (λ n. Some (n, (word_at cs).1)) r g.1 in
    let u = up_to-sound limit (word_at cs).0 n.0 n.1 in
    let same : ◌≡◌ {A = ℕ × List ℕ} (n.0, (word_at cs).1) r = same_Some _ _ n.2 in
    subst (Number limit (c ∷ cs)) same (record {
      spelled = ap (λ x. x ∷ cs) (equal_is c 32 g.0) ∙ ap (λ l. 32 ∷ l) (sym (word-joined cs) ∙ ap (λ l. l ++ (word_at cs).1) u.0);
      fits = u.1;
    })

pub number-more : (limit n : ℕ) (rest : List ℕ) → n ≤ limit → limit < 2 ^ 64 → next_number limit (32 ∷ (decimal n ++ 32 ∷ rest)) ≡ Some (n, 32 ∷ rest)
unfolding next_number
number-more limit n rest h fits =
    ap (λ (r : List ℕ × List ℕ). up_to limit r.0 >>= λ n. Some (n, r.1)) (word-more (decimal n) rest (decimal_lacks 32 n (lit< tt) (omega arith)))
    ∙ ap (λ (o : Option ℕ). o >>= λ n. Some (n, 32 ∷ rest)) (up_to-again limit n h fits)

pub number-last : (limit n : ℕ) → n ≤ limit → limit < 2 ^ 64 → next_number limit (32 ∷ decimal n) ≡ Some (n, [])
unfolding next_number
number-last limit n h fits =
    ap (λ (r : List ℕ × List ℕ). up_to limit r.0 >>= λ n. Some (n, r.1)) (word-last (decimal n) (decimal_lacks 32 n (lit< tt) (omega arith)))
    ∙ ap (λ (o : Option ℕ). o >>= λ n. Some (n, [])) (up_to-again limit n h fits)

pub one-sound : (bytes : List ℕ) (n : ℕ) → one_at bytes ≡ Some n → (bytes ≡ 32 ∷ decimal n) × (n < 2 ^ 32)
unfolding one_at
one-sound bytes n e =
    let a = bind_some (next_word bytes) _ n e in
    let s = number-sound (2 ^ 32 - 1) bytes a.0 a.1 in
    let w = whole_some a.0.1 a.0.0 n a.2 in
    (s.spelled ∙ ap (λ l. 32 ∷ (decimal a.0.0 ++ l)) w.0 ∙ ap (λ l. 32 ∷ l) (append-nil (decimal a.0.0)) ∙ ap (λ n. 32 ∷ decimal n) w.1, omega (arith, s.fits, w.1))

pub one-again : (n : ℕ) → n < 2 ^ 32 → one_at (32 ∷ decimal n) ≡ Some n
unfolding one_at
one-again n h = ap (λ (o : Option (ℕ × List ℕ)). o >>= λ a. whole a.1 a.0) (number-last (2 ^ 32 - 1) n (omega arith) (lit< tt))

pub two-sound : (bytes : List ℕ) (n : ℕ × ℕ) → two_at bytes ≡ Some n → (bytes ≡ 32 ∷ (decimal n.0 ++ 32 ∷ decimal n.1)) × AreWords (n.0 ∷ n.1 ∷ [])
unfolding two_at
two-sound bytes n e =
    let a = bind_some (next_word bytes) _ n e in
    let s = number-sound (2 ^ 32 - 1) bytes a.0 a.1 in
    let b = bind_some (one_at a.0.1) _ n a.2 in
    let o = one-sound a.0.1 b.0 b.1 in
    let same : ◌≡◌ {A = ℕ × ℕ} (a.0.0, b.0) n = same_Some _ _ b.2 in
    subst (λ (n : ℕ × ℕ). (bytes ≡ 32 ∷ (decimal n.0 ++ 32 ∷ decimal n.1)) × AreWords (n.0 ∷ n.1 ∷ [])) same
    (s.spelled ∙ ap (λ l. 32 ∷ (decimal a.0.0 ++ l)) o.0, (omega (arith, s.fits), (o.1, tt)))

pub two-again : (a b : ℕ) → a < 2 ^ 32 → b < 2 ^ 32 → two_at (32 ∷ (decimal a ++ 32 ∷ decimal b)) ≡ Some (a, b)
unfolding two_at
two-again a b h k =
    ap (λ (o : Option (ℕ × List ℕ)). o >>= λ x. one_at x.1 >>= λ y. Some (x.0, y)) (number-more (2 ^ 32 - 1) a (decimal b) (omega arith) (lit< tt))
    ∙ ap (λ (o : Option ℕ). o >>= λ y. Some (a, y)) (one-again b k)

three-sound : (bytes : List ℕ) (n : ℕ × ℕ × ℕ) → three_at bytes ≡ Some n → (bytes ≡ 32 ∷ (decimal n.0 ++ 32 ∷ (decimal n.1 ++ 32 ∷ decimal n.2))) × AreWords (n.0 ∷ n.1 ∷ n.2 ∷ [])
unfolding three_at
three-sound bytes n e =
    let a = bind_some (next_word bytes) _ n e in
    let s = number-sound (2 ^ 32 - 1) bytes a.0 a.1 in
    let b = bind_some (two_at a.0.1) _ n a.2 in
    let t = two-sound a.0.1 b.0 b.1 in
    let same : ◌≡◌ {A = ℕ × ℕ × ℕ} (a.0.0, b.0.0, b.0.1) n = same_Some _ _ b.2 in
    subst (λ (n : ℕ × ℕ × ℕ). (bytes ≡ 32 ∷ (decimal n.0 ++ 32 ∷ (decimal n.1 ++ 32 ∷ decimal n.2))) × AreWords (n.0 ∷ n.1 ∷ n.2 ∷ [])) same
    (s.spelled ∙ ap (λ l. 32 ∷ (decimal a.0.0 ++ l)) t.0, (omega (arith, s.fits), t.1))

three-again : (a b c : ℕ) → a < 2 ^ 32 → b < 2 ^ 32 → c < 2 ^ 32 → three_at (32 ∷ (decimal a ++ 32 ∷ (decimal b ++ 32 ∷ decimal c))) ≡ Some (a, b, c)
unfolding three_at
three-again a b c h k l =
    ap (λ (o : Option (ℕ × List ℕ)). o >>= λ x. two_at x.1 >>= λ (y : ℕ × ℕ). Some (x.0, y.0, y.1)) (number-more (2 ^ 32 - 1) a (decimal b ++ 32 ∷ decimal c) (omega arith) (lit< tt))
    ∙ ap (λ (o : Option (ℕ × ℕ)). o >>= λ y. Some (a, y.0, y.1)) (two-again b c k l)

-- ## What a look showed

pub record SpellsSeen (bytes : List ℕ) (s : Seen) : Type 0 where
  pub spelled : bytes ≡ seen_text s
  pub fits : IsSeenText s

some_frames : (n : ℕ) (s : Seen) → (if n == 0 then None else Some (seen.Frames n)) ≡ Some s → (1 ≤ n) × (seen.Frames n ≡ s)
some_frames n s e = let g = not_first (n == 0) (Some (seen.Frames n)) s e in (some_is n g.0, same_Some _ _ g.1)

shown-sound : (mark : ℕ) (rest : List ℕ) (s : Seen) → shown_at mark rest ≡ Some s → SpellsSeen (mark ∷ rest) s
unfolding shown_at frames_at
shown-sound mark rest s e =
    either (mark == 102) _ _ s e
    (λ m f.
    let n = bind_some (one_at rest) _ s f in
    let o = one-sound rest n.0 n.1 in
    let g = some_frames n.0 s n.2 in
    subst (SpellsSeen (mark ∷ rest)) g.1 (record { spelled = ap (λ m. m ∷ rest) (equal_is mark 102 m) ∙ ap (λ l. 102 ∷ l) o.0; fits = (g.0, o.1) }))
    (λ e. either (mark == 101) _ _ s e
    (λ m f.
    let w = whole_some rest seen.Empty s f in
    subst (SpellsSeen (mark ∷ rest)) w.1 (record { spelled = ap (λ m. m ∷ rest) (equal_is mark 101 m) ∙ ap (λ l. 101 ∷ l) w.0; fits = tt }))
    (λ e. either (mark == 108) _ _ s e
    (λ m f.
    let n = bind_some (one_at rest) _ s f in
    let o = one-sound rest n.0 n.1 in
    subst (SpellsSeen (mark ∷ rest)) (same_Some _ _ n.2) (record { spelled = ap (λ m. m ∷ rest) (equal_is mark 108 m) ∙ ap (λ l. 108 ∷ l) o.0; fits = o.1 }))
    (λ e.
    let g = guard_some (mark == 120) (two_at rest >>= λ words. Some (seen.Shut words.0 words.1)) s e in
    let n = bind_some (two_at rest) _ s g.1 in
    let o = two-sound rest n.0 n.1 in
    subst (SpellsSeen (mark ∷ rest)) (same_Some _ _ n.2) (record { spelled = ap (λ m. m ∷ rest) (equal_is mark 120 g.0) ∙ ap (λ l. 120 ∷ l) o.0; fits = o.1 }))))

pub record AfterSpace (bytes : List ℕ) (s : Seen) : Type 0 where
  pub spelled : bytes ≡ 32 ∷ seen_text s
  pub fits : IsSeenText s

pub seen-sound : (bytes : List ℕ) (s : Seen) → seen_at bytes ≡ Some s → AfterSpace bytes s
unfolding seen_at
seen-sound [] s e = cc
seen-sound (c ∷ []) s e = cc
seen-sound (c ∷ mark ∷ rest) s e =
    let g = guard_some (c == 32) (shown_at mark rest) s e in
    let t = shown-sound mark rest s g.1 in
    record { spelled = ap (λ c. c ∷ mark ∷ rest) (equal_is c 32 g.0) ∙ ap (λ l. 32 ∷ l) t.spelled; fits = t.fits }

frames_are : (n : ℕ) → 1 ≤ n → (if n == 0 then None else Some (seen.Frames n)) ≡ Some (seen.Frames n)
frames_are n h = ap (λ b. cond b None (Some (seen.Frames n))) (not_zero n h)

pub seen-again : (s : Seen) → IsSeenText s → seen_at (32 ∷ seen_text s) ≡ Some s
unfolding seen_at shown_at frames_at
seen-again seen.Absent f = absurd f
seen-again (seen.Frames n) f = ap (λ (o : Option ℕ). o >>= λ count. if count == 0 then None else Some (seen.Frames count)) (one-again n f.1) ∙ frames_are n f.0
seen-again seen.Empty f = refl
seen-again (seen.Flushed n) f = ap (λ (o : Option ℕ). o >>= λ n. Some (seen.Flushed n)) (one-again n f)
seen-again (seen.Shut a b) f = ap (λ (o : Option (ℕ × ℕ)). o >>= λ n. Some (seen.Shut n.0 n.1)) (two-again a b f.0 f.1.0)

-- ## Yes or no

pub yes_is : (n : ℕ) → n ≤ 1 → n ≡ one_if (n == 1)
yes_is zero h = refl
yes_is (suc zero) h = refl
yes_is (suc (suc n)) h = absurd (omega arith)

pub digit_back : (b : Bool) → (one_if b == 1) ≡ b
digit_back true = refl
digit_back false = refl

-- ## Calls

pub record SpellsCall (bytes : List ℕ) (c : ClientCall) : Type 0 where
  pub spelled : bytes ≡ call_line c
  pub fits : FitsCall c

-- a call of one number
one_call : (mark code : ℕ) (rest : List ℕ) (f : ℕ → ClientCall) (c : ClientCall) → (mark == code) ≡ true → (one_at rest >>= λ n. Some (f n)) ≡ Some c
    → ((n : ℕ) → code ∷ 32 ∷ decimal n ≡ call_line (f n)) → ((n : ℕ) → n < 2 ^ 32 → FitsCall (f n)) → SpellsCall (mark ∷ rest) c
one_call mark code rest f c m e text fit =
    let n = bind_some (one_at rest) _ c e in
    let o = one-sound rest n.0 n.1 in
    subst (SpellsCall (mark ∷ rest)) (same_Some _ _ n.2) (record { spelled = ap (λ m. m ∷ rest) (equal_is mark code m) ∙ ap (λ l. code ∷ l) o.0 ∙ text n.0; fits = fit n.0 o.1 })

-- a call of two
two_call : (mark code : ℕ) (rest : List ℕ) (f : ℕ → ℕ → ClientCall) (c : ClientCall) → (mark == code) ≡ true → (two_at rest >>= λ n. Some (f n.0 n.1)) ≡ Some c
    → ((a b : ℕ) → code ∷ 32 ∷ (decimal a ++ 32 ∷ decimal b) ≡ call_line (f a b)) → ((a b : ℕ) → AreWords (a ∷ b ∷ []) → FitsCall (f a b)) → SpellsCall (mark ∷ rest) c
two_call mark code rest f c m e text fit =
    let n = bind_some (two_at rest) _ c e in
    let o = two-sound rest n.0 n.1 in
    subst (SpellsCall (mark ∷ rest)) (same_Some _ _ n.2) (record { spelled = ap (λ m. m ∷ rest) (equal_is mark code m) ∙ ap (λ l. code ∷ l) o.0 ∙ text n.0.0 n.0.1; fits = fit n.0.0 n.0.1 o.1 })

under : (code : ℕ) (rest : List ℕ) (c : ClientCall) → (mark : ℕ) → (mark == code) ≡ true → SpellsCall (code ∷ rest) c → SpellsCall (mark ∷ rest) c
under code rest c mark m s = record { spelled = ap (λ m. m ∷ rest) (equal_is mark code m) ∙ s.spelled; fits = s.fits }

sent-sound : (rest : List ℕ) (c : ClientCall) → sent_at rest ≡ Some c → SpellsCall (115 ∷ rest) c
unfolding sent_at
sent-sound rest c e =
    let n = bind_some (three_at rest) _ c e in
    let o = three-sound rest n.0 n.1 in
    subst (SpellsCall (115 ∷ rest)) (same_Some _ _ n.2) (record { spelled = ap (λ l. 115 ∷ l) o.0; fits = o.1 })

behind_s : (mark : ℕ) (rest : List ℕ) (c : ClientCall) → (r : List ℕ) → mark ∷ rest ≡ r → 115 ∷ r ≡ call_line c → FitsCall c → SpellsCall (115 ∷ mark ∷ rest) c
behind_s mark rest c r e text fit = record { spelled = ap (λ l. 115 ∷ l) e ∙ text; fits = fit }

send-sound : (rest : List ℕ) (c : ClientCall) → send_at rest ≡ Some c → SpellsCall (115 ∷ rest) c
unfolding send_at send_corrupt_at
send-sound [] c e = cc
send-sound (mark ∷ rest) c e =
    either (mark == 117) _ _ c e
    (λ m f.
    let n = bind_some (one_at rest) _ c f in let o = one-sound rest n.0 n.1 in
    subst (SpellsCall (115 ∷ mark ∷ rest)) (same_Some _ _ n.2) (behind_s mark rest (call.SendFull n.0) (117 ∷ 32 ∷ decimal n.0) (ap (λ m. m ∷ rest) (equal_is mark 117 m) ∙ ap (λ l. 117 ∷ l) o.0) refl (o.1, tt)))
    (λ e. either (mark == 100) _ _ c e
    (λ m f.
    let n = bind_some (one_at rest) _ c f in let o = one-sound rest n.0 n.1 in
    subst (SpellsCall (115 ∷ mark ∷ rest)) (same_Some _ _ n.2) (behind_s mark rest (call.SendDead n.0) (100 ∷ 32 ∷ decimal n.0) (ap (λ m. m ∷ rest) (equal_is mark 100 m) ∙ ap (λ l. 100 ∷ l) o.0) refl (o.1, tt)))
    (λ e. either (mark == 120) _ _ c e
    (λ m f.
    let n = bind_some (two_at rest) _ c f in let o = two-sound rest n.0 n.1 in
    subst (SpellsCall (115 ∷ mark ∷ rest)) (same_Some _ _ n.2) (behind_s mark rest (call.SendCorrupt n.0.0 n.0.1) (120 ∷ 32 ∷ (decimal n.0.0 ++ 32 ∷ decimal n.0.1)) (ap (λ m. m ∷ rest) (equal_is mark 120 m) ∙ ap (λ l. 120 ∷ l) o.0) refl o.1))
    (λ e. sent-sound (mark ∷ rest) c e)))

poke-sound : (rest : List ℕ) (c : ClientCall) → poke_at rest ≡ Some c → SpellsCall (111 ∷ rest) c
unfolding poke_at
poke-sound rest c e =
    let b = bind_some (next_number 1 rest) _ c e in
    let s = number-sound 1 rest b.0 b.1 in
    let n = bind_some (two_at b.0.1) _ c b.2 in
    let o = two-sound b.0.1 n.0 n.1 in
    subst (SpellsCall (111 ∷ rest)) (same_Some _ _ n.2) (record {
      spelled = ap (λ l. 111 ∷ l) (s.spelled ∙ ap (λ l. 32 ∷ (decimal b.0.0 ++ l)) o.0 ∙ ap (λ k. 32 ∷ (decimal k ++ 32 ∷ (decimal n.0.0 ++ 32 ∷ decimal n.0.1))) (yes_is b.0.0 s.fits));
      fits = o.1;
    })

pub call-sound : (mark : ℕ) (rest : List ℕ) (c : ClientCall) → call_at mark rest ≡ Some c → SpellsCall (mark ∷ rest) c
unfolding call_at put_at corrupt_at
call-sound mark rest c e =
    either (mark == 112) _ _ c e (λ m f. two_call mark 112 rest call.Put c m f (λ a b. refl) (λ a b w. w))
    (λ e. either (mark == 117) _ _ c e (λ m f. one_call mark 117 rest call.Full c m f (λ n. refl) (λ n h. (h, tt)))
    (λ e. either (mark == 100) _ _ c e (λ m f. one_call mark 100 rest call.Dead c m f (λ n. refl) (λ n h. (h, tt)))
    (λ e. either (mark == 120) _ _ c e (λ m f. two_call mark 120 rest call.Corrupt c m f (λ a b. refl) (λ a b w. w))
    (λ e. either (mark == 107) _ _ c e (λ m f. one_call mark 107 rest call.Cleared c m f (λ n. refl) (λ n h. (h, tt)))
    (λ e. either (mark == 108) _ _ c e (λ m f. one_call mark 108 rest call.Flush c m f (λ n. refl) (λ n h. (h, tt)))
    (λ e. either (mark == 103) _ _ c e (λ m f. one_call mark 103 rest call.Gain c m f (λ n. refl) (λ n h. (h, tt)))
    (λ e. either (mark == 115) _ _ c e (λ m f. under 115 rest c mark m (send-sound rest c f))
    (λ e. either (mark == 116) _ _ c e (λ m f. one_call mark 116 rest call.Status c m f (λ n. refl) (λ n h. (h, tt)))
    (λ e. let g = guard_some (mark == 111) (poke_at rest) c e in under 111 rest c mark g.0 (poke-sound rest c g.1))))))))))

poke-again : (command : Bool) (word value : ℕ) → word < 2 ^ 32 → value < 2 ^ 32 → poke_at (32 ∷ (decimal (one_if command) ++ 32 ∷ (decimal word ++ 32 ∷ decimal value))) ≡ Some (call.Poke command word value)
unfolding poke_at
poke-again command word value h k =
    ap (λ (o : Option (ℕ × List ℕ)). o >>= λ x. two_at x.1 >>= λ n. Some (call.Poke (x.0 == 1) n.0 n.1)) (number-more 1 (one_if command) (decimal word ++ 32 ∷ decimal value) (one_few command) (lit< tt))
    ∙ ap (λ (o : Option (ℕ × ℕ)). o >>= λ n. Some (call.Poke (one_if command == 1) n.0 n.1)) (two-again word value h k)
    ∙ ap (λ b. Some (call.Poke b word value)) (digit_back command)

abbrev of_one : (ℕ → ClientCall) → Option ℕ → Option ClientCall
of_one f o = o >>= λ n. Some (f n)

abbrev of_two : (ℕ → ℕ → ClientCall) → Option (ℕ × ℕ) → Option ClientCall
of_two f o = o >>= λ n. Some (f n.0 n.1)

abbrev pub first_of_line : List ℕ → Option ClientCall
first_of_line [] = None
first_of_line (mark ∷ rest) = call_at mark rest

pub call-again : (c : ClientCall) → FitsCall c → first_of_line (call_line c) ≡ Some c
unfolding call_at put_at corrupt_at send_at send_corrupt_at sent_at
call-again (call.Put a b) f = ap (of_two call.Put) (two-again a b f.0 f.1.0)
call-again (call.Full a) f = ap (of_one call.Full) (one-again a f.0)
call-again (call.Dead a) f = ap (of_one call.Dead) (one-again a f.0)
call-again (call.Corrupt a b) f = ap (of_two call.Corrupt) (two-again a b f.0 f.1.0)
call-again (call.Cleared a) f = ap (of_one call.Cleared) (one-again a f.0)
call-again (call.Flush a) f = ap (of_one call.Flush) (one-again a f.0)
call-again (call.Gain a) f = ap (of_one call.Gain) (one-again a f.0)
call-again (call.Sent a b c) f = ap (λ (o : Option (ℕ × ℕ × ℕ)). o >>= λ n. Some (call.Sent n.0 n.1 n.2)) (three-again a b c f.0 f.1.0 f.1.1.0)
call-again (call.SendFull a) f = ap (of_one call.SendFull) (one-again a f.0)
call-again (call.SendDead a) f = ap (of_one call.SendDead) (one-again a f.0)
call-again (call.SendCorrupt a b) f = ap (of_two call.SendCorrupt) (two-again a b f.0 f.1.0)
call-again (call.Status a) f = ap (of_one call.Status) (one-again a f.0)
call-again (call.Poke command word value) f = poke-again command word value f.0 f.1.0
