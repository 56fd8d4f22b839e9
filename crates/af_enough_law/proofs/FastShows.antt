-- What a look of the fast mixer takes, if it is told in a history of a block that was never flushed.
use Rattle.std.proofs.Common.{◌≡◌, ◌⊎◌, inl, inr, ℕ, zero, suc, ◌+◌, ◌-◌, ◌≤◌, ◌<◌, ◌==◌, ◌&&◌, not, nat_lt, min, if◌then◌else◌, is_some, Bool, true, false, true≢false, Option, Some, None, List, [], ◌∷◌, ◌++◌, length, take, fold, MatchOption, refl, sym, ap, ◌∙◌, subst, arith, append_assoc, eqb-true}
use Rattle.af_enough_law.proofs.Common.{ClientEvent, HandEvent, HasHistory, IsClientList, IsSeen, Listed, LooksBy, Seen, ServerEvent, ServerKept, Shape, SlotEntry, ahead, ahead-between, behind, both_first, both_right, both_true, count_seen, cycle_events, drops_none, either_none, flushes_of, fold-append, front_of, is_not_below, is_noticed, is_own_inside, keeps_all, kept, look_at, look_events, nat_tests, outside, own_front, server_begins, server_keeps, server_kept, tally, tally_none, wrapped}
use Rattle.af_base.specs.declared.event.ServerEvent.TheVariants as server
use Rattle.af_base.specs.declared.seen.Seen.TheVariants as seen
use Rattle.af_enough_law.proofs.Basics.{old_word, put-append, taken-append}
use Rattle.af_model.specs.Cycles.{events_behind_look}
use Rattle.af_enough_law.specs.Seen.{Stands, frames_put, frames_taken}
use Rattle.af_enough_law.proofs.FastWords.{IsShown}
use Rattle.af_enough_law.proofs.FastLooks.{Moments, moment}

-- ## Lists

pub none-append : (xs ys : List ServerEvent) → drops_none xs ≡ true → drops_none ys ≡ true → drops_none (xs ++ ys) ≡ true
none-append [] ys h t = t
none-append (x ∷ xs) ys h t = both_true (keeps_all x) (drops_none (xs ++ ys)) (both_first (keeps_all x) (drops_none xs) h) (none-append xs ys (both_right (keeps_all x) (drops_none xs) h) t)

pub stands-more : {X : Type 0} (x : X) (xs ys : List X) → Stands x xs → Stands x (xs ++ ys)
stands-more x xs ys s = record { before = s.before; behind = s.behind ++ ys; whole = ap (λ l. l ++ ys) s.whole ∙ append_assoc s.before (x ∷ s.behind) ys }

-- what the first events put, a longer front puts
pub put-front : (n : ℕ) (front rest : List ClientEvent) → n ≤ length front → frames_put (take n (front ++ rest)) ≤ frames_put front
put-front zero front rest low = omega arith
put-front (suc n) [] rest low = absurd (omega (arith, low))
put-front (suc n) (x ∷ front) rest low = let more = put-front n front rest (omega (arith, low)) in omega arith

-- ## The moments of a look

-- the events of a look by an open server
abbrev pub open_events : ℕ → SlotEntry → ℕ → List ServerEvent
open_events asked slot front = server.SawGain slot.gains ∷ look_events slot.seen slot.flush slot.rear front ++ events_behind_look asked false slot.seen

pub events_open : (asked : ℕ) (s : Listed) (slot : SlotEntry) (front : ℕ) → (kept s).shut ≡ None → cycle_events asked s slot front ≡ open_events asked slot front
events_open asked s slot front unshut =
    ap (λ (o : Option (ℕ × ℕ)). server.SawGain slot.gains ∷ (if is_some o then [] else look_events slot.seen slot.flush slot.rear front) ++ events_behind_look asked (is_some o) slot.seen) unshut

-- a look of a history
pub record Setting (k : Shape) (cs : List ClientEvent) (all : List ServerEvent) : Type 0 where
  pub few : k.frames ≤ 65536
  pub spelled : IsClientList k.frames k.cells k.base cs
  pub no_flush : flushes_of cs ≡ 0
  pub released : List ℕ
  pub taken : List ℕ
  pub hand : List HandEvent
  pub history : HasHistory k cs released all taken hand

pub setting_moment : (k : Shape) (cs : List ClientEvent) (all : List ServerEvent) (before : List ServerEvent) (e : ServerEvent) (behind : List ServerEvent) → Setting k cs all → all ≡ before ++ e ∷ behind → drops_none before ≡ true → Moments k cs before e
setting_moment k cs all before e behind h whole none =
    moment k h.few cs h.spelled h.no_flush before e behind h.released h.taken h.hand (subst (λ (l : List ServerEvent). HasHistory k cs h.released l h.taken h.hand) whole h.history) none

-- what the words of a look say, by whichever front it saw
pub record Words (k : Shape) (cs : List ClientEvent) (before : List ServerEvent) (flush rear front : ℕ) : Type 0 where
  pub consumed : ℕ
  pub released : ℕ
  pub flush_is : flush ≡ 0
  pub kept_is : (server_kept k before).flush ≡ 0
  pub front_is : front ≡ wrapped consumed
  pub rear_is : rear ≡ wrapped released
  pub low : consumed ≤ released
  pub high : released ≤ consumed + k.frames
  pub is_taken : consumed ≡ k.base + frames_taken before
  pub is_put : released ≤ k.base + frames_put cs
  pub reaches : (n : ℕ) → Stands (server.Learn n) before → k.base + frames_put (take n cs) ≤ released

pub words_at : (k : Shape) (cs : List ClientEvent) (all before : List ServerEvent) (flush rear front : ℕ) (behind : List ServerEvent) → Setting k cs all
    → all ≡ before ++ server.SawFlush flush ∷ server.SawRear rear ∷ server.SawFront front ∷ behind → drops_none before ≡ true → Words k cs before flush rear front
words_at k cs all before flush rear front behind h whole none =
    let to_rear : List ServerEvent = server.SawFlush flush ∷ [] in
    let to_front : List ServerEvent = server.SawFlush flush ∷ server.SawRear rear ∷ [] in
    let m_flush = setting_moment k cs all before (server.SawFlush flush) (server.SawRear rear ∷ server.SawFront front ∷ behind) h whole none in
    let m_rear = setting_moment k cs all (before ++ to_rear) (server.SawRear rear) (server.SawFront front ∷ behind) h
    (whole ∙ sym (append_assoc before to_rear (server.SawRear rear ∷ server.SawFront front ∷ behind))) (none-append before to_rear none refl) in
    let m_front = setting_moment k cs all (before ++ to_front) (server.SawFront front) behind h
    (whole ∙ sym (append_assoc before to_front (server.SawFront front ∷ behind))) (none-append before to_front none refl) in
    let at_rear : m_rear.at.consumed ≡ k.base + frames_taken before = m_rear.consumed ∙ (let a = taken-append before to_rear in omega arith) in
    let at_front : m_front.at.consumed ≡ k.base + frames_taken before = m_front.consumed ∙ (let a = taken-append before to_front in omega arith) in
    let put_all : frames_put cs ≡ frames_put m_rear.front + frames_put m_rear.rest = ap frames_put m_rear.whole ∙ put-append m_rear.front m_rear.rest in
    record {
      consumed = m_rear.at.consumed;
      released = m_rear.at.released;
      flush_is = m_flush.may ∙ m_flush.word;
      kept_is = m_flush.kept_word;
      front_is = m_front.may ∙ ap wrapped (at_front ∙ sym at_rear);
      rear_is = m_rear.may;
      low = m_rear.low;
      high = m_rear.high;
      is_taken = at_rear;
      is_put = let r = m_rear.released in omega arith;
      reaches = λ n s.
          let few = m_rear.learnt n (stands-more (server.Learn n) before to_rear s) in
          let less : frames_put (take n cs) ≤ frames_put m_rear.front = subst (λ (l : List ClientEvent). frames_put (take n l) ≤ frames_put m_rear.front) (sym m_rear.whole) (put-front n m_rear.front m_rear.rest few) in
          let r = m_rear.released in omega arith;
    }

pub words_of : (k : Shape) (cs : List ClientEvent) (all before : List ServerEvent) (gains flush rear front : ℕ) (behind : List ServerEvent) → Setting k cs all
    → all ≡ before ++ server.SawGain gains ∷ server.SawFlush flush ∷ server.SawRear rear ∷ server.SawFront front ∷ behind → drops_none before ≡ true → Words k cs before flush rear front
words_of k cs all before gains flush rear front behind h whole none =
    let to_flush : List ServerEvent = server.SawGain gains ∷ [] in
    let rest : List ServerEvent = server.SawFlush flush ∷ server.SawRear rear ∷ server.SawFront front ∷ behind in
    let first = setting_moment k cs all before (server.SawGain gains) rest h whole none in
    let w = words_at k cs all (before ++ to_flush) flush rear front behind h (whole ∙ sym (append_assoc before to_flush rest)) (none-append before to_flush none refl) in
    record {
      consumed = w.consumed;
      released = w.released;
      flush_is = w.flush_is;
      kept_is = first.kept_word;
      front_is = w.front_is;
      rear_is = w.rear_is;
      low = w.low;
      high = w.high;
      is_taken = w.is_taken ∙ (let a = taken-append before to_flush in omega arith);
      is_put = w.is_put;
      reaches = λ n s. w.reaches n (stands-more (server.Learn n) before to_flush s);
    }

-- ## The look

-- What a look with its take leaves: nothing is dropped, the server is open, and as many frames were taken as were shown, all that were asked for or that had been learnt of
pub record Look (k : Shape) (asked : ℕ) (cs : List ClientEvent) (before : List ServerEvent) (answer : Seen) (events : List ServerEvent) : Type 0 where
  pub shows : IsShown answer
  pub none : drops_none (before ++ events) ≡ true
  pub unshut : (server_kept k (before ++ events)).shut ≡ None
  pub taken : frames_taken (before ++ events) ≡ frames_taken before + count_seen answer
  pub within : frames_taken before + count_seen answer ≤ frames_put cs
  pub reaches : (n : ℕ) → Stands (server.Learn n) before → (count_seen answer ≡ asked) ⊎ (frames_put (take n cs) ≤ frames_taken before + count_seen answer)

pub open_words : (frames c r : ℕ) → frames ≤ 65536 → c ≤ r → r ≤ c + frames → outside frames (wrapped c) (wrapped r) ≡ None
open_words frames c r few low high =
    let e : ahead (wrapped c) (wrapped r) ≡ r - c = ahead-between c r low (omega arith) in
    ap (λ (b : Bool). if b then Some (wrapped c, wrapped r) else None) (is_not_below frames (ahead (wrapped c) (wrapped r)) (omega arith))

-- what the kept server is after some events, of which none is a look
abbrev same_shut : Shape → List ServerEvent → Type 0
same_shut k es = (s : ServerKept) → s.shut ≡ None → (fold (server_keeps k) s es).shut ≡ None

tally_shut : (k : Shape) (missing : ℕ) → same_shut k (tally missing)
tally_shut k missing s is = by (missing == 0)
  where
    by : (b : Bool) → (fold (server_keeps k) s (if b then [] else server.Tally missing ∷ server.SetFlags 1 ∷ [])).shut ≡ None
    by true = is
    by false = is

tally_taken : (missing : ℕ) → frames_taken (tally missing) ≡ 0
tally_taken missing = by (missing == 0)
  where
    by : (b : Bool) → frames_taken (if b then [] else server.Tally missing ∷ server.SetFlags 1 ∷ []) ≡ 0
    by true = refl
    by false = refl

-- an open server after the words of a look
look_shut : (k : Shape) (cs : List ClientEvent) (before : List ServerEvent) (gains flush rear front : ℕ) (behind : List ServerEvent) → k.frames ≤ 65536 → Words k cs before flush rear front → same_shut k behind
    → (server_kept k (before ++ server.SawGain gains ∷ server.SawFlush flush ∷ server.SawRear rear ∷ server.SawFront front ∷ behind)).shut ≡ None
look_shut k cs before gains flush rear front behind few w rest =
    ap (λ (s : ServerKept). s.shut) (fold-append (server_keeps k) (server_begins k) before (server.SawGain gains ∷ server.SawFlush flush ∷ server.SawRear rear ∷ server.SawFront front ∷ behind))
    ∙ rest _ (either_none (is_noticed k (not (flush == (server_kept k before).flush)) rear front) (outside k.frames front rear)
    (ap (λ (x : ℕ × ℕ). outside k.frames x.0 x.1) (λ i. (w.front_is i, w.rear_is i)) ∙ open_words k.frames w.consumed w.released few w.low w.high))

abbrev is_flushed : Seen → Bool
is_flushed (seen.Flushed dropped) = true
is_flushed _ = false

abbrev is_shut : Seen → Bool
is_shut (seen.Shut front rear) = true
is_shut _ = false

abbrev shut_front : ℕ → Seen → ℕ
shut_front d (seen.Shut front rear) = front
shut_front d _ = d

never_flushed : (dropped a b c : ℕ) (out same : Bool) → seen.Flushed dropped ≡ (if out then seen.Shut a b else if same then seen.Empty else seen.Frames c) → ⊥
never_flushed dropped a b c true same e = true≢false (ap is_flushed e)
never_flushed dropped a b c false true e = true≢false (ap is_flushed e)
never_flushed dropped a b c false false e = true≢false (ap is_flushed e)

-- a look that shuts the server saw a rear outside the block, by the front in its answer
shut_outside : (frames front rear f r c : ℕ) (out same : Bool) → nat_lt frames (ahead f r) ≡ out → seen.Shut front rear ≡ (if out then seen.Shut f r else if same then seen.Empty else seen.Frames c) → frames < ahead front r
shut_outside frames front rear f r c true same is e = let g : front ≡ f = ap (shut_front 0) e in subst (λ x. frames < ahead x r) (sym g) (grind (arith, nat_tests, is))
shut_outside frames front rear f r c false true is e = absurd (true≢false (ap is_shut e))
shut_outside frames front rear f r c false false is e = absurd (true≢false (ap is_shut e))

empty_all : (rear c r : ℕ) → rear ≡ wrapped c → rear ≡ wrapped r → c ≤ r → r ≤ c + 65536 → r ≡ c
empty_all rear c r x y low high = omega (arith, x, y, low, high)

-- the frames that a look shows as all are all
behind_all : (rear count c r : ℕ) → behind rear count ≡ wrapped c → rear ≡ wrapped r → c ≤ r → r ≤ c + 65536 → count ≤ 65536 → r ≡ c + count
behind_all rear count c r x y low high few = omega (arith, x, y, low, high, few)

module _ (k : Shape) (cs : List ClientEvent) (all before : List ServerEvent) (h : Setting k cs all) (none : drops_none before ≡ true) (unshut : (server_kept k before).shut ≡ None) (asked gains flush rear first : ℕ) where
  -- the slot with an answer
  abbrev slot_with : Seen → SlotEntry
  slot_with answer = record { gains = gains; flush = flush; rear = rear; seen = answer; first = first }

  abbrev events_with : Seen → List ServerEvent
  events_with answer = open_events asked (slot_with answer) (front_of asked (record { shape = k; events = before }) (slot_with answer))

  words_with : (answer : Seen) (front : ℕ) (behind rest : List ServerEvent) → all ≡ (before ++ server.SawGain gains ∷ server.SawFlush flush ∷ server.SawRear rear ∷ server.SawFront front ∷ behind) ++ rest
      → Words k cs before flush rear front
  words_with answer front behind rest whole =
      words_of k cs all before gains flush rear front (behind ++ rest) h
      (whole ∙ append_assoc before (server.SawGain gains ∷ server.SawFlush flush ∷ server.SawRear rear ∷ server.SawFront front ∷ behind) rest) none

  look_empty : (rest : List ServerEvent) → all ≡ (before ++ events_with seen.Empty) ++ rest → Look k asked cs before seen.Empty (events_with seen.Empty)
  look_empty rest whole =
      let w = words_with seen.Empty rear (tally asked) rest whole in
      let same = empty_all rear w.consumed w.released w.front_is w.rear_is w.low (let a = w.high in let b = h.few in omega arith) in
      record {
        shows = tt;
        none = none-append before (events_with seen.Empty) none (tally_none asked);
        unshut = look_shut k cs before gains flush rear rear (tally asked) h.few w (tally_shut k asked);
        taken = taken-append before (events_with seen.Empty) ∙ (let a = tally_taken asked in omega arith);
        within = (let a = w.is_taken in let b = w.is_put in let c = w.low in omega arith);
        reaches = λ n s. inr (let a = w.is_taken in let b = w.reaches n s in omega arith);
      }

  look_frames : (count : ℕ) (rest : List ServerEvent) → 1 ≤ count → all ≡ (before ++ events_with (seen.Frames count)) ++ rest → Look k asked cs before (seen.Frames count) (events_with (seen.Frames count))
  look_frames count rest some whole =
      let s : Listed = record { shape = k; events = before } in
      let front : ℕ = front_of asked s (slot_with (seen.Frames count)) in
      let after : List ServerEvent = server.Take count ∷ tally (asked - count) in
      let words : List ServerEvent = server.SawGain gains ∷ server.SawFlush flush ∷ server.SawRear rear ∷ server.SawFront front ∷ [] in
      let w : Words k cs before flush rear front = words_with (seen.Frames count) front after rest whole in
      let m = setting_moment k cs all (before ++ words) (server.Take count) (tally (asked - count) ++ rest) h
      (whole ∙ append_assoc before (events_with (seen.Frames count)) rest ∙ sym (append_assoc before words (server.Take count ∷ tally (asked - count) ++ rest))) (none-append before words none refl) in
      let at : m.at.consumed ≡ k.base + frames_taken before = m.consumed ∙ (let a = taken-append before words in omega arith) in
      let may : m.at.consumed + count ≤ m.at.rear_seen = m.may in
      let put_all : frames_put cs ≡ frames_put m.front + frames_put m.rest = ap frames_put m.whole ∙ put-append m.front m.rest in
      let high = m.high in let shown = m.shown in let few = h.few in let put = m.released in
      record {
        shows = some;
        none = none-append before (events_with (seen.Frames count)) none (tally_none (asked - count));
        unshut = look_shut k cs before gains flush rear front after h.few w (λ s is. tally_shut k (asked - count) (record s { consumed = s.consumed + count }) is);
        taken = taken-append before (events_with (seen.Frames count)) ∙ (let a = tally_taken (asked - count) in omega arith);
        within = omega arith;
        reaches = λ n s. by_full w (omega arith) (count == asked) refl n s;
      }
    where
      told : (b : Bool) → (count == asked) ≡ b → front_of asked (record { shape = k; events = before }) (slot_with (seen.Frames count)) ≡ (if b && is_own_inside (record { shape = k; events = before }) rear then own_front k (server_kept k before) else behind rear count)
      told b is = ap (λ (x : Bool). if x && is_own_inside (record { shape = k; events = before }) rear then own_front k (server_kept k before) else behind rear count) is

      by_full : Words k cs before flush rear (front_of asked (record { shape = k; events = before }) (slot_with (seen.Frames count))) → count ≤ 65536 → (b : Bool) → (count == asked) ≡ b
          → (n : ℕ) → Stands (server.Learn n) before → (count ≡ asked) ⊎ (frames_put (take n cs) ≤ frames_taken before + count)
      by_full w low true is n s = inl (eqb-true count asked is)
      by_full w low false is n s =
          let same = behind_all rear count w.consumed w.released (sym (told false is) ∙ w.front_is) w.rear_is w.low (let a = w.high in let b = h.few in omega arith) low in
          inr (let a = w.is_taken in let b = w.reaches n s in omega arith)

  look_flushed : (dropped front : ℕ) (rest : List ServerEvent) → all ≡ (before ++ events_with (seen.Flushed dropped)) ++ rest → seen.Flushed dropped ≡ look_at k (server_kept k before).flush asked flush rear front
      → Look k asked cs before (seen.Flushed dropped) (events_with (seen.Flushed dropped))
  look_flushed dropped front rest whole answers =
      let w = words_with (seen.Flushed dropped) (front_of asked (record { shape = k; events = before }) (slot_with (seen.Flushed dropped))) _ rest whole in
      absurd (never_flushed dropped front rear (min asked (ahead front rear)) (nat_lt k.frames (ahead front rear)) (rear == front)
      (answers ∙ old_word k (server_kept k before).flush asked flush rear front (w.flush_is ∙ sym w.kept_is)))

  look_shuts : (f r front : ℕ) (rest : List ServerEvent) → all ≡ (before ++ events_with (seen.Shut f r)) ++ rest → seen.Shut f r ≡ look_at k (server_kept k before).flush asked flush rear front
      → Look k asked cs before (seen.Shut f r) (events_with (seen.Shut f r))
  look_shuts f r front rest whole answers =
      let w = words_with (seen.Shut f r) f _ rest whole in
      let far = shut_outside k.frames f r front rear (min asked (ahead front rear)) (nat_lt k.frames (ahead front rear)) (rear == front) refl
      (answers ∙ old_word k (server_kept k before).flush asked flush rear front (w.flush_is ∙ sym w.kept_is)) in
      let near : ahead f rear ≡ w.released - w.consumed = ap (λ (x : ℕ × ℕ). ahead x.0 x.1) (λ i. (w.front_is i, w.rear_is i)) ∙ ahead-between w.consumed w.released w.low (let a = w.high in let b = h.few in omega arith) in
      absurd (let a = w.high in omega arith)

  -- each look that answers by the words seen
  look_of : (answer : Seen) (front : ℕ) (rest : List ServerEvent) → IsSeen answer → answer ≡ look_at k (server_kept k before).flush asked flush rear front → all ≡ (before ++ events_with answer) ++ rest
      → Look k asked cs before answer (events_with answer)
  look_of seen.Absent front rest is answers whole = absurd is
  look_of (seen.Frames count) front rest is answers whole = look_frames count rest is whole
  look_of seen.Empty front rest is answers whole = look_empty rest whole
  look_of (seen.Flushed dropped) front rest is answers whole = look_flushed dropped front rest whole answers
  look_of (seen.Shut f r) front rest is answers whole = look_shuts f r front rest whole answers

-- A slot's look with its take, as a run tells it
pub slot_look : (k : Shape) (cs : List ClientEvent) (all before : List ServerEvent) → Setting k cs all → drops_none before ≡ true → (server_kept k before).shut ≡ None → (asked : ℕ) (slot : SlotEntry) (front : ℕ) (rest : List ServerEvent)
    → LooksBy asked (record { shape = k; events = before }) slot front → (let s : Listed = record { shape = k; events = before } in all ≡ (before ++ cycle_events asked s slot (front_of asked s slot)) ++ rest)
    → (let s : Listed = record { shape = k; events = before } in Look k asked cs before slot.seen (cycle_events asked s slot (front_of asked s slot)))
slot_look k cs all before h none unshut asked slot front rest looks whole =
    let s : Listed = record { shape = k; events = before } in
    let same = events_open asked s slot (front_of asked s slot) unshut in
    let answers : slot.seen ≡ look_at k (server_kept k before).flush asked slot.flush slot.rear front =
    subst (λ (o : Option (ℕ × ℕ)). MatchOption o (slot.seen ≡ look_at k (server_kept k before).flush asked slot.flush slot.rear front)
    (λ words. (slot.seen ≡ seen.Shut words.0 words.1) × (slot.flush ≡ (server_kept k before).flush) × (slot.rear ≡ words.1))) unshut looks.1 in
    subst (λ (es : List ServerEvent). Look k asked cs before slot.seen es) (sym same)
    (look_of k cs all before h none unshut asked slot.gains slot.flush slot.rear slot.first slot.seen front rest looks.0 answers (whole ∙ ap (λ es. (before ++ es) ++ rest) same))
