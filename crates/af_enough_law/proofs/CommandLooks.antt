-- What the looks of a turn take of a command block.
use Rattle.std.proofs.Common.{◌≡◌, ℕ, zero, suc, ◌+◌, ◌-◌, ◌≤◌, ◌==◌, ◌&&◌, not, nat_lt, min, if◌then◌else◌, is_some, Bool, true, false, true≢false, Option, Some, None, List, [], ◌∷◌, ◌++◌, length, take, fold, MatchOption, refl, sym, ap, ◌∙◌, subst, arith, append_assoc, append-nil, eqb-true, eq-eqb}
use Rattle.af_enough_law.proofs.Common.{ClientEvent, CommandLook, LegalLooks, Listed, LooksBy, Seen, ServerEvent, ServerKept, Shape, ahead, ahead-between, all_command_events, as_slot, command_events, did, drops_none, drops_of, either_none, fold-append, is_not_below, is_noticed, is_shut, kept, look_at, look_events, outside, server_begins, server_keeps, server_kept, shows_command, takes_command, words_taken, wrapped}
use Rattle.af_base.specs.declared.event.ServerEvent.TheVariants as server
use Rattle.af_base.specs.declared.seen.Seen.TheVariants as seen
use Rattle.af_enough_law.proofs.Basics.{old_word, taken-append}
use Rattle.af_enough_law.proofs.Courses.{none_shut, is_ended}
use Rattle.af_enough_law.specs.Seen.{Stands, frames_put, frames_taken}
use Rattle.af_enough_law.proofs.FastShows.{Setting, Words, words_at, none-append, stands-more, open_words}

-- ## The answer

-- the answer of a look for a command, if so many frames were released and consumed
pub data Shown (consumed released : ℕ) : Seen → Type 0 where
  empty : released ≡ consumed → Shown consumed released seen.Empty
  halved : released ≡ consumed + 1 → Shown consumed released (seen.Frames 1)
  full : consumed + 2 ≤ released → Shown consumed released (seen.Frames 2)

some_shown : (c r d n : ℕ) → r ≡ c + d → 1 ≤ d → n ≡ min 2 d → Shown c r (seen.Frames n)
some_shown c r zero n e some m = absurd (omega arith)
some_shown c r (suc zero) n e some m = let f : n ≡ 1 = m in subst (λ (x : ℕ). Shown c r (seen.Frames x)) (sym f) (halved e)
some_shown c r (suc (suc d)) n e some m = let f : n ≡ 2 = omega arith in subst (λ (x : ℕ). Shown c r (seen.Frames x)) (sym f) (full (omega arith))

same_by : (c r : ℕ) (b : Bool) → (wrapped r == wrapped c) ≡ b → c ≤ r → r ≤ c + 65536 → Shown c r (if b then seen.Empty else seen.Frames (min 2 (ahead (wrapped c) (wrapped r))))
same_by c r true e low high =
    let f : wrapped r ≡ wrapped c = eqb-true (wrapped r) (wrapped c) e in
    let a : ahead (wrapped c) (wrapped r) ≡ r - c = ahead-between c r low high in
    let b : ahead (wrapped c) (wrapped c) ≡ c - c = ahead-between c c (omega arith) (omega arith) in
    let g : ahead (wrapped c) (wrapped r) ≡ ahead (wrapped c) (wrapped c) = ap (ahead (wrapped c)) f in
    empty (apart r c (sym a ∙ g ∙ b) low)
  where
    apart : (r c : ℕ) → r - c ≡ c - c → c ≤ r → r ≡ c
    apart r c e low = omega arith
same_by c r false e low high =
    let a : ahead (wrapped c) (wrapped r) ≡ r - c = ahead-between c r low high in
    let other : r ≡ c → ⊥ = (λ h. true≢false (sym (eq-eqb (wrapped r) (wrapped c) (ap wrapped h)) ∙ e)) in
    some_shown c r (r - c) (min 2 (ahead (wrapped c) (wrapped r))) (omega (arith, low)) (far r c other low) (ap (min 2) a)
  where
    far : (r c : ℕ) → (r ≡ c → ⊥) → c ≤ r → 1 ≤ r - c
    far r c h le = grind arith

shown_at : (k : Shape) (flush kept_flush rear front c r : ℕ) → k.frames ≤ 65536 → flush ≡ kept_flush → front ≡ wrapped c → rear ≡ wrapped r → c ≤ r → r ≤ c + k.frames → Shown c r (look_at k kept_flush 2 flush rear front)
shown_at k flush kept_flush rear front c r few same front_is rear_is low high =
    let a : ahead (wrapped c) (wrapped r) ≡ r - c = ahead-between c r low (omega arith) in
    let fits : nat_lt k.frames (ahead (wrapped c) (wrapped r)) ≡ false = is_not_below k.frames (ahead (wrapped c) (wrapped r)) (omega arith) in
    subst (λ (x : Seen). Shown c r x) (sym (old_word k kept_flush 2 flush rear front same ∙ (λ i. answer (front_is i) (rear_is i)) ∙ ap (λ (b : Bool). if b then seen.Shut (wrapped c) (wrapped r) else if wrapped r == wrapped c then seen.Empty else seen.Frames (min 2 (ahead (wrapped c) (wrapped r)))) fits))
    (same_by c r (wrapped r == wrapped c) refl low (omega arith))
  where
    answer : ℕ → ℕ → Seen
    answer f r = if nat_lt k.frames (ahead f r) then seen.Shut f r else if r == f then seen.Empty else seen.Frames (min 2 (ahead f r))

-- ## One look

-- what a look takes of a command block: it isn't shut, takes the two words of a command if there is one, and else all but maybe one word that had been learnt of was taken
pub record LookTaken (k : Shape) (cs : List ClientEvent) (before : List ServerEvent) (look : CommandLook) (events : List ServerEvent) : Type 0 where
  pub open_is : is_shut look.seen ≡ false
  pub none : drops_none (before ++ events) ≡ true
  pub unshut : (server_kept k (before ++ events)).shut ≡ None
  pub taken : frames_taken (before ++ events) ≡ frames_taken before + (if shows_command look.seen then 2 else 0)
  pub reaches : shows_command look.seen ≡ false → (n : ℕ) → Stands (server.Learn n) before → frames_put (take n cs) ≤ frames_taken before + 1

abbrev three : CommandLook → ℕ → List ServerEvent
three look front = server.SawFlush look.flush ∷ server.SawRear look.rear ∷ server.SawFront front ∷ []

-- a server after the words of a look, and a take
after_shut : (k : Shape) (before : List ServerEvent) (look : CommandLook) (front c r : ℕ) (takes : List ServerEvent) → ((s : ServerKept) → s.shut ≡ None → (fold (server_keeps k) s takes).shut ≡ None) → k.frames ≤ 65536 → front ≡ wrapped c → look.rear ≡ wrapped r → c ≤ r → r ≤ c + k.frames
    → (server_kept k (before ++ server.SawFlush look.flush ∷ server.SawRear look.rear ∷ server.SawFront front ∷ takes)).shut ≡ None
after_shut k before look front c r takes rest few front_is rear_is low high =
    ap (λ (s : ServerKept). s.shut) (fold-append (server_keeps k) (server_begins k) before (server.SawFlush look.flush ∷ server.SawRear look.rear ∷ server.SawFront front ∷ takes))
    ∙ rest _ (either_none (is_noticed k (not (look.flush == (server_kept k before).flush)) look.rear front) (outside k.frames front look.rear)
    (ap (λ (x : ℕ × ℕ). outside k.frames x.0 x.1) (λ i. (front_is i, rear_is i)) ∙ open_words k.frames c r few low high))

look_taken : (k : Shape) (cs : List ClientEvent) (before : List ServerEvent) (look : CommandLook) (front c r : ℕ) (answer : Seen) → look.seen ≡ answer → Shown c r answer → k.frames ≤ 65536 → drops_none before ≡ true
    → Words k cs before look.flush look.rear front → c ≡ k.base + frames_taken before → front ≡ wrapped c → look.rear ≡ wrapped r → c ≤ r → r ≤ c + k.frames → ((n : ℕ) → Stands (server.Learn n) before → k.base + frames_put (take n cs) ≤ r)
    → LookTaken k cs before look (look_events answer look.flush look.rear front ++ (if shows_command answer then server.Take 2 ∷ [] else []))
look_taken k cs before look front c r answer is (empty e) few no_drops w taken front_is rear_is low high reaches =
    let shows : shows_command look.seen ≡ false = ap shows_command is in record {
      open_is = ap is_shut is;
      none = none-append before (three look front) no_drops refl;
      unshut = after_shut k before look front c r [] (λ s h. h) few front_is rear_is low high;
      taken = taken-append before (three look front) ∙ sym (ap (λ (b : Bool). frames_taken before + (if b then 2 else 0)) shows);
      reaches = λ h n s. let a = reaches n s in omega arith;
    }
look_taken k cs before look front c r answer is (halved e) few no_drops w taken front_is rear_is low high reaches =
    let shows : shows_command look.seen ≡ false = ap shows_command is in record {
      open_is = ap is_shut is;
      none = none-append before (three look front) no_drops refl;
      unshut = after_shut k before look front c r [] (λ s h. h) few front_is rear_is low high;
      taken = taken-append before (three look front) ∙ sym (ap (λ (b : Bool). frames_taken before + (if b then 2 else 0)) shows);
      reaches = λ h n s. let a = reaches n s in omega arith;
    }
look_taken k cs before look front c r answer is (full e) few no_drops w taken front_is rear_is low high reaches =
    let shows : shows_command look.seen ≡ true = ap shows_command is in
    let events : List ServerEvent = server.SawFlush look.flush ∷ server.SawRear look.rear ∷ server.SawFront front ∷ server.Take 2 ∷ [] in record {
      open_is = ap is_shut is;
      none = none-append before events no_drops refl;
      unshut = after_shut k before look front c r (server.Take 2 ∷ []) (λ s h. h) few front_is rear_is low high;
      taken = taken-append before events ∙ sym (ap (λ (b : Bool). frames_taken before + (if b then 2 else 0)) shows);
      reaches = λ h n s. absurd (true≢false (sym shows ∙ h));
    }

-- a server with these events
abbrev pub server_of : Shape → List ServerEvent → Listed
server_of k events = record { shape = k; events = events }

by_none : (A : Type 0) (B : ℕ × ℕ → Type 0) (o : Option (ℕ × ℕ)) → o ≡ None → MatchOption o A B → A
by_none A B None e m = m
by_none A B (Some x) e m = absurd (true≢false (ap is_some e))

-- the events of a look by a server that is open
pub events_open : (s : Listed) (look : CommandLook) (front : ℕ) → (kept s).shut ≡ None → command_events s look front ≡ look_events look.seen look.flush look.rear front ++ takes_command look
events_open s look front e = ap (λ (o : Option (ℕ × ℕ)). (if is_some o then [] else look_events look.seen look.flush look.rear front) ++ takes_command look) e

pub one_look : (k : Shape) (cs : List ClientEvent) (all before : List ServerEvent) (look : CommandLook) (front : ℕ) (behind : List ServerEvent) → let s = server_of k before in
    Setting k cs all → all ≡ before ++ (command_events s look front ++ behind) → drops_none before ≡ true → (kept s).shut ≡ None → LooksBy 2 s (as_slot look) front → LookTaken k cs before look (command_events s look front)
one_look k cs all before look front behind h whole no_drops unshut legal =
    let s : Listed = server_of k before in
    let is : look.seen ≡ look_at k (kept s).flush 2 look.flush look.rear front = by_none _ _ (kept s).shut unshut legal.1 in
    let events_are : command_events s look front ≡ look_events look.seen look.flush look.rear front ++ takes_command look = events_open s look front unshut in
    let w : Words k cs before look.flush look.rear front = words_at k cs all before look.flush look.rear front ((drops_of look.seen front ++ takes_command look) ++ behind) h (whole ∙ ap (λ (es : List ServerEvent). before ++ (es ++ behind)) events_are) no_drops in
    subst (LookTaken k cs before look) (sym events_are) (subst (λ (x : Seen). LookTaken k cs before look (look_events x look.flush look.rear front ++ (if shows_command x then server.Take 2 ∷ [] else []))) (sym is)
    (look_taken k cs before look front w.consumed w.released (look_at k (kept s).flush 2 look.flush look.rear front) is
    (shown_at k look.flush (kept s).flush look.rear front w.consumed w.released h.few (w.flush_is ∙ sym w.kept_is) w.front_is w.rear_is w.low w.high) h.few no_drops w w.is_taken w.front_is w.rear_is w.low w.high w.reaches))

-- ## All looks of a turn

-- what the looks of a turn take of a command block: none is shut, the words of the commands, and if they end with a look that shows none, all but maybe one word that had been learnt of was taken
pub record LooksTaken (k : Shape) (cs : List ClientEvent) (before : List ServerEvent) (looks : List CommandLook) (events : List ServerEvent) : Type 0 where
  pub open_is : none_shut looks ≡ true
  pub none : drops_none (before ++ events) ≡ true
  pub unshut : (server_kept k (before ++ events)).shut ≡ None
  pub taken : frames_taken (before ++ events) ≡ frames_taken before + length (words_taken looks)
  pub reaches : is_ended looks ≡ true → (n : ℕ) → Stands (server.Learn n) before → frames_put (take n cs) ≤ frames_taken (before ++ events) + 1

words_more : (look : CommandLook) (looks : List CommandLook) (b : Bool) → length ((if b then look.code ∷ look.argument ∷ [] else []) ++ words_taken looks) ≡ (if b then 2 else 0) + length (words_taken looks)
words_more look looks true = omega arith
words_more look looks false = omega arith

module _ (k : Shape) (cs : List ClientEvent) (all : List ServerEvent) (h : Setting k cs all) where
  pub all_looks : (looks : List CommandLook) (fronts : List ℕ) (before behind : List ServerEvent) → let s = server_of k before in
      all ≡ before ++ (all_command_events s looks fronts ++ behind) → drops_none before ≡ true → (kept s).shut ≡ None → LegalLooks s looks fronts → LooksTaken k cs before looks (all_command_events s looks fronts)
  all_looks [] [] before behind whole no_drops unshut legal = record {
    open_is = refl;
    none = ap drops_none (append-nil before) ∙ no_drops;
    unshut = ap (λ (es : List ServerEvent). (server_kept k es).shut) (append-nil before) ∙ unshut;
    taken = ap frames_taken (append-nil before) ∙ omega arith;
    reaches = λ e. absurd (true≢false (sym e));
  }
  all_looks [] (front ∷ fronts) before behind whole no_drops unshut legal = absurd legal
  all_looks (look ∷ looks) [] before behind whole no_drops unshut legal = absurd legal
  all_looks (look ∷ looks) (front ∷ fronts) before behind whole no_drops unshut legal =
      let s : Listed = server_of k before in
      let now : List ServerEvent = command_events s look front in
      let rest : List ServerEvent = all_command_events (did s now) looks fronts in
      let one = one_look k cs all before look front (rest ++ behind) h (whole ∙ ap (λ (es : List ServerEvent). before ++ es) (append_assoc now rest behind)) no_drops unshut legal.0 in
      let shift : before ++ ((now ++ rest) ++ behind) ≡ (before ++ now) ++ (rest ++ behind) = ap (λ (es : List ServerEvent). before ++ es) (append_assoc now rest behind) ∙ sym (append_assoc before now (rest ++ behind)) in
      let more = all_looks looks fronts (before ++ now) behind (whole ∙ shift) one.none one.unshut legal.2 in
      let same : before ++ (now ++ rest) ≡ (before ++ now) ++ rest = sym (append_assoc before now rest) in
      let total : frames_taken (before ++ (now ++ rest)) ≡ frames_taken before + length (words_taken (look ∷ looks)) = ap frames_taken same ∙ more.taken ∙ (let a = one.taken in let b = words_more look looks (shows_command look.seen) in omega arith) in record {
        open_is = (λ i. not (one.open_is i) && more.open_is i);
        none = ap drops_none same ∙ more.none;
        unshut = ap (λ (es : List ServerEvent). (server_kept k es).shut) same ∙ more.unshut;
        taken = total;
        reaches = λ e n st. by_show (shows_command look.seen) refl one more (ap frames_taken same) total e n st;
      }
    where
      by_show : (b : Bool) → shows_command look.seen ≡ b → LookTaken k cs before look (command_events (server_of k before) look front) → LooksTaken k cs (before ++ command_events (server_of k before) look front) looks (all_command_events (did (server_of k before) (command_events (server_of k before) look front)) looks fronts)
          → frames_taken (before ++ (command_events (server_of k before) look front ++ all_command_events (did (server_of k before) (command_events (server_of k before) look front)) looks fronts)) ≡ frames_taken ((before ++ command_events (server_of k before) look front) ++ all_command_events (did (server_of k before) (command_events (server_of k before) look front)) looks fronts)
          → frames_taken (before ++ (command_events (server_of k before) look front ++ all_command_events (did (server_of k before) (command_events (server_of k before) look front)) looks fronts)) ≡ frames_taken before + length (words_taken (look ∷ looks))
          → (if b then is_ended looks else length looks == 0) ≡ true → (n : ℕ) → Stands (server.Learn n) before → frames_put (take n cs) ≤ frames_taken (before ++ (command_events (server_of k before) look front ++ all_command_events (did (server_of k before) (command_events (server_of k before) look front)) looks fronts)) + 1
      by_show true shows one more same total e n st = let r = more.reaches e n (stands-more (server.Learn n) before _ st) in omega arith
      by_show false shows one more same total e n st = let r = one.reaches shows n st in omega arith
