-- What a turn takes of a command block, as a run tells it.
use Rattle.std.proofs.Common.{◌≡◌, ℕ, ◌+◌, ◌≤◌, ◌&&◌, if◌then◌else◌, Bool, true, false, true≢false, None, List, [], ◌∷◌, ◌++◌, length, take, fold, refl, sym, ap, ◌∙◌, subst, arith, append_assoc}
use Rattle.af_enough_law.proofs.Common.{ClientEvent, CommandLook, HasWords, LegalLooks, Listed, LooksBy, ServerEvent, ServerKept, Shape, all_command_events, as_slot, command_events, did, drops_none, drops_of, front_by_answer, front_of, fronts_by, is_own_inside, kept, lawful_front, leaves_open, own_front, server_begins, server_keeps, server_kept, take-append-le, takes_command, wrapped}
use Rattle.af_base.specs.declared.event.ServerEvent.TheVariants as server
use Rattle.af_enough_law.proofs.Courses.{is_ended}
use Rattle.af_enough_law.specs.Seen.{Stands, frames_put, frames_taken}
use Rattle.af_enough_law.proofs.CommandLooks.{server_of, one_look, all_looks, LooksTaken, events_open}
use Rattle.af_enough_law.proofs.FastShows.{Setting, Words, words_at}

-- what a server that drops nothing has consumed
own_consumed : (k : Shape) (es : List ServerEvent) → drops_none es ≡ true → (s : ServerKept) → (fold (server_keeps k) s es).consumed ≡ s.consumed + frames_taken es
own_consumed k [] none s = omega arith
own_consumed k (server.SawGain word ∷ es) none s = own_consumed k es none (server_keeps k s (server.SawGain word)) ∙ omega arith
own_consumed k (server.SawFlush flush ∷ es) none s = own_consumed k es none (server_keeps k s (server.SawFlush flush)) ∙ omega arith
own_consumed k (server.SawRear rear ∷ es) none s = own_consumed k es none (server_keeps k s (server.SawRear rear)) ∙ omega arith
own_consumed k (server.SawFront front ∷ es) none s = own_consumed k es none (server_keeps k s (server.SawFront front)) ∙ omega arith
own_consumed k (server.Drop to ∷ es) none s = absurd (true≢false (sym none))
own_consumed k (server.Take count ∷ es) none s = own_consumed k es none (server_keeps k s (server.Take count)) ∙ omega arith
own_consumed k (server.Tally missing ∷ es) none s = own_consumed k es none (server_keeps k s (server.Tally missing)) ∙ omega arith
own_consumed k (server.SetFlags bits ∷ es) none s = own_consumed k es none (server_keeps k s (server.SetFlags bits)) ∙ omega arith
own_consumed k (server.SetStatus word ∷ es) none s = own_consumed k es none (server_keeps k s (server.SetStatus word)) ∙ omega arith
own_consumed k (server.Learn n ∷ es) none s = own_consumed k es none (server_keeps k s (server.Learn n)) ∙ omega arith

front_same : (b d : Bool) (own by told : ℕ) → told ≡ (if b && d then own else by) → told ≡ own → (if b then own else by) ≡ told
front_same true true own by told is e = sym e
front_same true false own by told is e = sym e
front_same false d own by told is e = sym is

module _ (k : Shape) (cs : List ClientEvent) (all : List ServerEvent) (h : Setting k cs all) where
  -- the front that is told of a look is the lawful one
  one_front : (before : List ServerEvent) (look : CommandLook) (behind : List ServerEvent) → (let s = server_of k before in all ≡ before ++ (command_events s look (front_of 2 s (as_slot look)) ++ behind))
      → drops_none before ≡ true → (kept (server_of k before)).shut ≡ None → lawful_front 2 (server_of k before) (as_slot look) ≡ front_of 2 (server_of k before) (as_slot look)
  one_front before look behind whole none unshut =
      let s : Listed = server_of k before in
      let f : ℕ = front_of 2 s (as_slot look) in
      let w : Words k cs before look.flush look.rear f = words_at k cs all before look.flush look.rear f ((drops_of look.seen f ++ takes_command look) ++ behind) h (whole ∙ ap (λ (es : List ServerEvent). before ++ (es ++ behind)) (events_open s look f unshut)) none in
      let taken : (server_kept k before).consumed ≡ frames_taken before = own_consumed k before none (server_begins k) ∙ omega arith in
      let own : f ≡ own_front k (kept s) = w.front_is ∙ ap wrapped (w.is_taken ∙ ap (λ (n : ℕ). k.base + n) (sym taken)) in
      front_same (leaves_open k 2 look.seen) (is_own_inside s look.rear) (own_front k (kept s)) (front_by_answer k (as_slot look)) f refl own

  fronts_same : (looks : List CommandLook) (before behind : List ServerEvent) → (let s = server_of k before in all ≡ before ++ (all_command_events s looks (fronts_by front_of s looks) ++ behind))
      → drops_none before ≡ true → (kept (server_of k before)).shut ≡ None → LegalLooks (server_of k before) looks (fronts_by lawful_front (server_of k before) looks)
      → fronts_by lawful_front (server_of k before) looks ≡ fronts_by front_of (server_of k before) looks
  fronts_same [] before behind whole none unshut legal = refl
  fronts_same (look ∷ looks) before behind whole none unshut legal =
      let s : Listed = server_of k before in
      let f : ℕ = front_of 2 s (as_slot look) in
      let now : List ServerEvent = command_events s look f in
      let rest : List ServerEvent = all_command_events (did s now) looks (fronts_by front_of (did s now) looks) in
      let first : all ≡ before ++ (now ++ (rest ++ behind)) = whole ∙ ap (λ (es : List ServerEvent). before ++ es) (append_assoc now rest behind) in
      let same : lawful_front 2 s (as_slot look) ≡ f = one_front before look (rest ++ behind) first none unshut in
      let then_legal : LooksBy 2 s (as_slot look) f × HasWords look × LegalLooks (did s now) looks (fronts_by lawful_front (did s now) looks) =
      subst (λ (x : ℕ). LooksBy 2 s (as_slot look) x × HasWords look × LegalLooks (did s (command_events s look x)) looks (fronts_by lawful_front (did s (command_events s look x)) looks)) same legal in
      let one = one_look k cs all before look f (rest ++ behind) h first none unshut then_legal.0 in
      let more = fronts_same looks (before ++ now) behind (first ∙ sym (append_assoc before now (rest ++ behind))) one.none one.unshut then_legal.2 in
      ap (λ (x : ℕ). x ∷ fronts_by lawful_front (did s (command_events s look x)) looks) same ∙ ap (λ (xs : List ℕ). f ∷ xs) more

  -- What the looks of a turn take, as a run tells them
  pub looks_take : (looks : List CommandLook) (before behind : List ServerEvent) → (let s = server_of k before in all ≡ before ++ (all_command_events s looks (fronts_by front_of s looks) ++ behind))
      → drops_none before ≡ true → (kept (server_of k before)).shut ≡ None → LegalLooks (server_of k before) looks (fronts_by lawful_front (server_of k before) looks)
      → LooksTaken k cs before looks (all_command_events (server_of k before) looks (fronts_by front_of (server_of k before) looks))
  looks_take looks before behind whole none unshut legal =
      all_looks k cs all h looks (fronts_by front_of (server_of k before) looks) before behind whole none unshut
      (subst (LegalLooks (server_of k before) looks) (fronts_same looks before behind whole none unshut legal) legal)

-- a server that had learnt of all that these events of the client released, of which more came since, takes all of it but maybe one word
pub taken_all : (k : Shape) (known more cs : List ClientEvent) (before : List ServerEvent) (looks : List CommandLook) (events : List ServerEvent) (n : ℕ) → cs ≡ known ++ more → Stands (server.Learn n) before → n ≤ length known
    → frames_put (take n known) ≡ frames_put known → LooksTaken k cs before looks events → is_ended looks ≡ true → frames_put known ≤ frames_taken (before ++ events) + 1
taken_all k known more cs before looks events n whole learnt within released taken ends =
    let r = taken.reaches ends n learnt in
    let same : take n cs ≡ take n known = ap (take n) whole ∙ take-append-le n known more within in
    let e : frames_put (take n cs) ≡ frames_put known = ap frames_put same ∙ released in
    omega arith
