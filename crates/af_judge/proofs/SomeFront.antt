-- A look that answers right by some front answers right by the one that its answer gives.
use Rattle.std.proofs.Common.{◌≡◌, ◌↔◌, IsTrue, ℕ, ◌+◌, ◌-◌, ◌%◌, ◌<◌, ◌≤◌, ◌^◌, ◌==◌, ◌&&◌, ◌||◌, not, nat_lt, min, Bool, true, false, if◌then◌else◌, MatchOption, Option, Some, None, refl, sym, ap, ◌∙◌, subst, arith, eqb-true, ne_eqb, mod-lt}
use Rattle.af_judge.proofs.Common.{IsSeen, Listed, LooksBy, Seen, Shape, SlotEntry, ahead, and_true, behind, both_first, dropped_by, eqb-false, flush_position, flushed_front, front_by_answer, is_not_below, is_noticed, kept, look_at, not_below_is, or_true, past_front, wrapped}
use Rattle.af_base.specs.declared.seen.Seen.TheVariants as seen
use Rattle.af_judge.proofs.Basics.{ahead_word, ahead_wrapped}
use Rattle.af_judge.specs.Servers.{LooksRightly, front_judged}

-- ## Words

-- a word lies so many past the word that lies so many before it
ahead-behind : (to count : ℕ) → to < 2 ^ 32 → count < 2 ^ 32 → ahead (behind to count) to ≡ count
ahead-behind to count word few = omega arith

-- the front so far before a word that lies so far past it
behind-ahead : (front to : ℕ) → to < 2 ^ 32 → behind to (ahead front to) ≡ wrapped front
behind-ahead front to word = omega arith

ahead-same : (to : ℕ) → to < 2 ^ 32 → ahead to to ≡ 0
ahead-same to word = omega arith

word-of : (n : ℕ) → wrapped n < 2 ^ 32
word-of n = omega arith

position-word : (wrap flush rear : ℕ) → flush_position wrap flush rear < 2 ^ 32
position-word wrap flush rear = word-of (rear + (2 ^ 32 - ahead flush rear % wrap))

-- a position that lies less than 2 ^ 31 before a word doesn't lie past it
past-before : (rear x : ℕ) → rear < 2 ^ 32 → x < 2 ^ 31 → past_front rear (wrapped (rear + (2 ^ 32 - x))) ≡ 0
past-before rear x word few = grind arith

-- a place in a wrap
place-few : (x wrap : ℕ) → wrap ≤ 2 ^ 31 → (wrap ≡ 0 → ⊥) → x % wrap < 2 ^ 31
place-few x wrap few some = let r : x % wrap < wrap = mod-lt x (let e = some in omega (arith, e)) in omega (arith, r, few)

-- ## The looks

-- by another front of the same word a flush is noticed as well
noticed-same : (k : Shape) (new : Bool) (rear front other : ℕ) → ahead other rear ≡ ahead front rear → is_noticed k new rear other ≡ is_noticed k new rear front
noticed-same k new rear front other is = ap (λ (n : ℕ). new && (k.wrap == 0 || not (nat_lt k.frames n))) is

-- a look that notices a flush
flushes-so : (k : Shape) (kept asked flush rear other dropped : ℕ) → is_noticed k (not (flush == kept)) rear other ≡ true → dropped_by k.wrap flush rear other ≡ dropped → look_at k kept asked flush rear other ≡ seen.Flushed dropped
flushes-so k kept asked flush rear other dropped noticed is =
    ap (λ (b : Bool). if b then seen.Flushed (dropped_by k.wrap flush rear other) else if nat_lt k.frames (ahead other rear) then seen.Shut other rear else if rear == other then seen.Empty else seen.Frames (min asked (ahead other rear))) noticed ∙ ap seen.Flushed is

-- a look by another front that shows frames
frames-so : (k : Shape) (kept asked flush rear other count : ℕ) → is_noticed k (not (flush == kept)) rear other ≡ false → nat_lt k.frames (ahead other rear) ≡ false → (rear == other) ≡ false → min asked (ahead other rear) ≡ count
    → look_at k kept asked flush rear other ≡ seen.Frames count
frames-so k kept asked flush rear other count noticed out same is =
    ap (λ (b : Bool × Bool × Bool). if b.0 then seen.Flushed (dropped_by k.wrap flush rear other) else if b.1 then seen.Shut other rear else if b.2 then seen.Empty else seen.Frames (min asked (ahead other rear))) (λ i. (noticed i, out i, same i)) ∙ ap seen.Frames is

-- the slot of a look
abbrev slot_of : (flush rear : ℕ) → Seen → SlotEntry
slot_of flush rear sight = record { gains = 0; flush = flush; rear = rear; seen = sight; first = 0 }

-- a look at a block whose flushes are counted
flat-flush : (k : Shape) (kept asked flush rear front : ℕ) → rear < 2 ^ 32 → (k.wrap == 0) ≡ true → is_noticed k (not (flush == kept)) rear front ≡ true
    → look_at k kept asked flush rear (flushed_front k.wrap flush rear (dropped_by k.wrap flush rear front)) ≡ seen.Flushed (dropped_by k.wrap flush rear front)
flat-flush k kept asked flush rear front word flat noticed =
    let other = behind rear (ahead front rear) in
    let d : dropped_by k.wrap flush rear front ≡ ahead front rear = ap (λ (b : Bool). if b then ahead front rear else past_front front (flush_position k.wrap flush rear)) flat in
    let front_is : flushed_front k.wrap flush rear (dropped_by k.wrap flush rear front) ≡ other =
    ap (λ (b : Bool). if b then behind rear (dropped_by k.wrap flush rear front) else if dropped_by k.wrap flush rear front == 0 then rear else behind (flush_position k.wrap flush rear) (dropped_by k.wrap flush rear front)) flat ∙ ap (behind rear) d in
    let near : ahead other rear ≡ ahead front rear = ahead-behind rear (ahead front rear) word (ahead_word front rear) in
    let dropped : dropped_by k.wrap flush rear other ≡ dropped_by k.wrap flush rear front =
    ap (λ (b : Bool). if b then ahead other rear else past_front other (flush_position k.wrap flush rear)) flat ∙ (near ∙ sym d) in
    ap (look_at k kept asked flush rear) front_is ∙ flushes-so k kept asked flush rear other (dropped_by k.wrap flush rear front) (noticed-same k (not (flush == kept)) rear front other near ∙ noticed) dropped

past-by : (b : Bool) (x : ℕ) → ((if b then x else 0) ≡ 0 → ⊥) → (if b then x else 0) ≡ x
past-by true x some = refl
past-by false x some = absurd (some refl)

-- a look at a block whose flush words carry positions, if nothing is dropped
none-dropped : (k : Shape) (kept asked flush rear : ℕ) → rear < 2 ^ 32 → ahead flush rear % k.wrap < 2 ^ 31 → (k.wrap == 0) ≡ false → not (flush == kept) ≡ true → look_at k kept asked flush rear rear ≡ seen.Flushed 0
none-dropped k kept asked flush rear word few placed new =
    let inside : nat_lt k.frames (ahead rear rear) ≡ false = ap (nat_lt k.frames) (ahead-same rear word) ∙ is_not_below k.frames 0 (omega arith) in
    let noticed : is_noticed k (not (flush == kept)) rear rear ≡ true = ap (λ (b : Bool × Bool × Bool). b.0 && (b.1 || not b.2)) (λ i. (new i, placed i, inside i)) in
    let dropped : dropped_by k.wrap flush rear rear ≡ 0 =
    ap (λ (b : Bool). if b then ahead rear rear else past_front rear (flush_position k.wrap flush rear)) placed ∙ past-before rear (ahead flush rear % k.wrap) word few in
    flushes-so k kept asked flush rear rear 0 noticed dropped

-- a look at a block whose flush words carry positions, if some frames are dropped
some-dropped : (k : Shape) (kept asked flush rear front : ℕ) → (k.wrap == 0) ≡ false → is_noticed k (not (flush == kept)) rear front ≡ true → (past_front front (flush_position k.wrap flush rear) ≡ 0 → ⊥)
    → look_at k kept asked flush rear (behind (flush_position k.wrap flush rear) (past_front front (flush_position k.wrap flush rear))) ≡ seen.Flushed (past_front front (flush_position k.wrap flush rear))
some-dropped k kept asked flush rear front placed noticed some =
    let to = flush_position k.wrap flush rear in
    let far : past_front front to ≡ ahead front to = past-by (nat_lt (ahead front to) (2 ^ 31)) (ahead front to) some in
    let front_is : behind to (past_front front to) ≡ wrapped front = ap (behind to) far ∙ behind-ahead front to (position-word k.wrap flush rear) in
    let near : is_noticed k (not (flush == kept)) rear (wrapped front) ≡ true = noticed-same k (not (flush == kept)) rear front (wrapped front) (ahead_wrapped front rear) ∙ noticed in
    let dropped : dropped_by k.wrap flush rear (wrapped front) ≡ past_front front to =
    ap (λ (b : Bool). if b then ahead (wrapped front) rear else past_front (wrapped front) to) placed ∙ ap (λ (n : ℕ). if nat_lt n (2 ^ 31) then n else 0) (ahead_wrapped front to) in
    ap (look_at k kept asked flush rear) front_is ∙ flushes-so k kept asked flush rear (wrapped front) (past_front front to) near dropped

placed-by : (none : Bool) (k : Shape) (kept asked flush rear front dropped : ℕ) → (dropped == 0) ≡ none → dropped ≡ past_front front (flush_position k.wrap flush rear) → rear < 2 ^ 32 → ahead flush rear % k.wrap < 2 ^ 31 → (k.wrap == 0) ≡ false
    → is_noticed k (not (flush == kept)) rear front ≡ true → look_at k kept asked flush rear (if none then rear else behind (flush_position k.wrap flush rear) dropped) ≡ seen.Flushed dropped
placed-by true k kept asked flush rear front dropped none is word few placed noticed =
    none-dropped k kept asked flush rear word few placed (both_first (not (flush == kept)) (k.wrap == 0 || not (nat_lt k.frames (ahead front rear))) noticed) ∙ ap seen.Flushed (sym (eqb-true dropped 0 none))
placed-by false k kept asked flush rear front dropped none is word few placed noticed =
    let P : ℕ → Type 0 = λ d. look_at k kept asked flush rear (behind (flush_position k.wrap flush rear) d) ≡ seen.Flushed d in
    subst P (sym is) (some-dropped k kept asked flush rear front placed noticed (λ zero. eqb-false dropped 0 none (is ∙ zero)))

placed-flush : (k : Shape) (kept asked flush rear front : ℕ) → rear < 2 ^ 32 → ahead flush rear % k.wrap < 2 ^ 31 → (k.wrap == 0) ≡ false → is_noticed k (not (flush == kept)) rear front ≡ true
    → look_at k kept asked flush rear (flushed_front k.wrap flush rear (dropped_by k.wrap flush rear front)) ≡ seen.Flushed (dropped_by k.wrap flush rear front)
placed-flush k kept asked flush rear front word few placed noticed =
    let d = dropped_by k.wrap flush rear front in
    let d_is : d ≡ past_front front (flush_position k.wrap flush rear) = ap (λ (b : Bool). if b then ahead front rear else past_front front (flush_position k.wrap flush rear)) placed in
    let front_is : flushed_front k.wrap flush rear d ≡ (if d == 0 then rear else behind (flush_position k.wrap flush rear) d) =
    ap (λ (b : Bool). if b then behind rear d else if d == 0 then rear else behind (flush_position k.wrap flush rear) d) placed in
    ap (look_at k kept asked flush rear) front_is ∙ placed-by (d == 0) k kept asked flush rear front d refl d_is word few placed noticed

flush-by : (flat : Bool) (k : Shape) (kept asked flush rear front : ℕ) → rear < 2 ^ 32 → ((k.wrap == 0) ≡ false → ahead flush rear % k.wrap < 2 ^ 31) → (k.wrap == 0) ≡ flat → is_noticed k (not (flush == kept)) rear front ≡ true
    → look_at k kept asked flush rear (flushed_front k.wrap flush rear (dropped_by k.wrap flush rear front)) ≡ seen.Flushed (dropped_by k.wrap flush rear front)
flush-by true k kept asked flush rear front word few flat noticed = flat-flush k kept asked flush rear front word flat noticed
flush-by false k kept asked flush rear front word few flat noticed = placed-flush k kept asked flush rear front word (few flat) flat noticed

-- a look that shows frames does so by the front that lies so many before the rear
frames-again : (k : Shape) (kept asked flush rear front : ℕ) → rear < 2 ^ 32 → is_noticed k (not (flush == kept)) rear front ≡ false → nat_lt k.frames (ahead front rear) ≡ false → 1 ≤ min asked (ahead front rear)
    → look_at k kept asked flush rear (behind rear (min asked (ahead front rear))) ≡ seen.Frames (min asked (ahead front rear))
frames-again k kept asked flush rear front word noticed out some =
    let new = not (flush == kept) in
    let count = min asked (ahead front rear) in
    let other = behind rear count in
    let near : ahead other rear ≡ count = ahead-behind rear count word (let a = ahead_word front rear in omega (arith, a)) in
    let old : new ≡ false =
    sym (and_true new) ∙ (ap (λ (b : Bool). new && b) (sym (or_true (k.wrap == 0))) ∙ (ap (λ (b : Bool). new && (k.wrap == 0 || not b)) (sym out) ∙ noticed)) in
    let unnoticed : is_noticed k new rear other ≡ false = ap (λ (b : Bool). b && (k.wrap == 0 || not (nat_lt k.frames (ahead other rear)))) old in
    let fits : ahead front rear ≤ k.frames = not_below_is k.frames (ahead front rear) out in
    let inside : nat_lt k.frames (ahead other rear) ≡ false = is_not_below k.frames (ahead other rear) (let n = near in omega (arith, n, fits)) in
    let apart : (rear == other) ≡ false = ne_eqb rear other (λ same. let z : ahead other rear ≡ 0 = ap (λ (n : ℕ). ahead n rear) (sym same) ∙ ahead-same rear word in omega (arith, z, near, some)) in
    frames-so k kept asked flush rear other count unnoticed inside apart (ap (min asked) near ∙ (let e : min asked count ≡ count = omega arith in e))

-- ## Any look

look-by : (noticed out same : Bool) (k : Shape) (kept asked flush rear front : ℕ) → rear < 2 ^ 32 → ((k.wrap == 0) ≡ false → ahead flush rear % k.wrap < 2 ^ 31) → is_noticed k (not (flush == kept)) rear front ≡ noticed
    → nat_lt k.frames (ahead front rear) ≡ out → (rear == front) ≡ same → (let sight = if noticed then seen.Flushed (dropped_by k.wrap flush rear front) else if out then seen.Shut front rear else if same then seen.Empty else seen.Frames (min asked (ahead front rear)) in
    IsSeen sight → look_at k kept asked flush rear front ≡ sight → look_at k kept asked flush rear (front_by_answer k (slot_of flush rear sight)) ≡ sight)
look-by true out same k kept asked flush rear front word few noticed out_is same_is shown look = flush-by (k.wrap == 0) k kept asked flush rear front word few refl noticed
look-by false true same k kept asked flush rear front word few noticed out_is same_is shown look = look
look-by false false true k kept asked flush rear front word few noticed out_is same_is shown look = ap (look_at k kept asked flush rear) (eqb-true rear front same_is) ∙ look
look-by false false false k kept asked flush rear front word few noticed out_is same_is shown look = frames-again k kept asked flush rear front word noticed out_is shown

some-look : (k : Shape) (kept asked flush rear front : ℕ) → rear < 2 ^ 32 → ((k.wrap == 0) ≡ false → ahead flush rear % k.wrap < 2 ^ 31) → IsSeen (look_at k kept asked flush rear front)
    → look_at k kept asked flush rear (front_by_answer k (slot_of flush rear (look_at k kept asked flush rear front))) ≡ look_at k kept asked flush rear front
some-look k kept asked flush rear front word few shown = look-by (is_noticed k (not (flush == kept)) rear front) (nat_lt k.frames (ahead front rear)) (rear == front) k kept asked flush rear front word few refl refl refl shown refl

option-by : (A B : Type 0) (o : Option (ℕ × ℕ)) (C : ℕ × ℕ → Type 0) → (A → B) → MatchOption o A C → MatchOption o B C
option-by A B None C f h = f h
option-by A B (Some words) C f h = h

-- a look that answers by some front answers by the one that its answer gives
pub some_front : (asked : ℕ) (s : Listed) (slot : SlotEntry) (front : ℕ) → slot.rear < 2 ^ 32 → s.shape.wrap ≤ 2 ^ 31 → LooksBy asked s slot front → LooksBy asked s slot (front_by_answer s.shape slot)
some_front asked s slot front word few looks =
    let k = s.shape in
    let flush = (kept s).flush in
    let look = look_at k flush asked slot.flush slot.rear front in
    let again : slot.seen ≡ look → slot.seen ≡ look_at k flush asked slot.flush slot.rear (front_by_answer k slot) = λ is.
    is ∙ (sym (some-look k flush asked slot.flush slot.rear front word (λ placed. place-few (ahead slot.flush slot.rear) k.wrap few (eqb-false k.wrap 0 placed)) (subst IsSeen is looks.0))
    ∙ ap (λ (sight : Seen). look_at k flush asked slot.flush slot.rear (front_by_answer k (slot_of slot.flush slot.rear sight))) (sym is)) in
    (looks.0, option-by (slot.seen ≡ look) (slot.seen ≡ look_at k flush asked slot.flush slot.rear (front_by_answer k slot)) (kept s).shut (λ words. (slot.seen ≡ seen.Shut words.0 words.1) × (slot.flush ≡ (kept s).flush) × (slot.rear ≡ words.1)) again looks.1)

-- a look is right if it answers by the front that it is judged by
pub looks_rightly : (lawful b : Bool) (asked : ℕ) (s : Listed) (slot : SlotEntry) → slot.rear < 2 ^ 32 → s.shape.wrap ≤ 2 ^ 31 → IsTrue b ↔ LooksBy asked s slot (front_judged lawful asked s slot) → IsTrue b ↔ LooksRightly lawful asked s slot
looks_rightly true b asked s slot word few h = h
looks_rightly false b asked s slot word few h = (λ yes. (front_by_answer s.shape slot, h.0 yes), λ found. h.1 (some_front asked s slot found.0 word few found.1))
