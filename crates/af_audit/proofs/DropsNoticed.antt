-- Each drop of a server that looks by its list belongs to a flush that was noticed.
use Rattle.std.proofs.Common.{◌≡◌, ◌≢◌, ◌⊎◌, inl, inr, ℕ, ◌+◌, ◌-◌, ◌==◌, ◌&&◌, ◌||◌, not, Bool, true, false, cond, if◌then◌else◌, is_some, MatchOption, Option, Some, None, List, [], ◌∷◌, ◌++◌, flat_map, refl, sym, ap, ◌∙◌, subst, append-nil, append_assoc, eqb-true, eq-eqb, arith}
use Rattle.af_audit.proofs.Common.{AllByRecursion, LegalTake, LegalTurn, Listed, LooksBy, NormalKept, Outside, Seen, ServerEvent, Setup, Shape, SlotEntry, TakeSeen, TrackKept, TracksRise, Turn, asked, both_first, both_right, cycle_events, drops_none, fold-append, invalid, is_home, is_noticed, keeps_all, kept, learnt, look_at, look_events, mix_events, no, nothing_from, server_begins, server_keeps, server_kept, stream_list, takes_from, tally_none, three, track_at, track_in}
use Rattle.af_base.specs.declared.event.ServerEvent.TheVariants as server
use Rattle.af_base.specs.declared.seen.Seen.TheVariants as seen
use Rattle.af_model.specs.Cycles.{events_behind_look}
use Rattle.af_audit.specs.Fates.{DropsByFlush, ComesByFlush}

-- ## More events

pub drops_join : (k : Shape) (before xs ys : List ServerEvent) → DropsByFlush k before xs → DropsByFlush k (before ++ xs) ys → DropsByFlush k before (xs ++ ys)
drops_join k before [] ys h g = subst (λ (es : List ServerEvent). DropsByFlush k es ys) (append-nil before) g
drops_join k before (x ∷ xs) ys h g = (h.0, drops_join k (before ++ x ∷ []) xs ys h.1 (subst (λ (es : List ServerEvent). DropsByFlush k es ys) (sym (append_assoc before (x ∷ []) xs)) g))

-- events whose drops belong to flushes, after those of a server before
pub drops_more : (k : Shape) (xs ys : List ServerEvent) → DropsByFlush k [] xs → DropsByFlush k xs ys → DropsByFlush k [] (xs ++ ys)
drops_more k xs ys h g = drops_join k [] xs ys h g

may_keep : (k : Shape) (before : List ServerEvent) (e : ServerEvent) → keeps_all e ≡ true → ComesByFlush k before e
may_keep k before (server.Drop to) h = no h
may_keep k before _ h = tt

-- events without a drop need no flush
pub none_dropped : (k : Shape) (before es : List ServerEvent) → drops_none es ≡ true → DropsByFlush k before es
none_dropped k before [] none = tt
none_dropped k before (e ∷ es) none = (may_keep k before e (both_first (keeps_all e) (drops_none es) none), none_dropped k (before ++ e ∷ []) es (both_right (keeps_all e) (drops_none es) none))

-- ## A look

is_flushed : Seen → Bool
is_flushed (seen.Flushed dropped) = true
is_flushed _ = false

new_by : (k : Shape) (new : Bool) (asked flush rear front dropped : ℕ) (noticed shut same : Bool) (count : ℕ) → noticed ≡ (new && (k.wrap == 0 || not shut))
    → is_flushed (if noticed then seen.Flushed dropped else if shut then seen.Shut front rear else if same then seen.Empty else seen.Frames count) ≡ true → new ≡ true
unfolding is_flushed
new_by k new asked flush rear front dropped true shut same count is h = both_first new _ (sym is)
new_by k new asked flush rear front dropped false true same count is h = no h
new_by k new asked flush rear front dropped false false true count is h = no h
new_by k new asked flush rear front dropped false false false count is h = no h

-- a look that flushed saw a new flush word
pub saw_new : (k : Shape) (kept asked flush rear front dropped : ℕ) → seen.Flushed dropped ≡ look_at k kept asked flush rear front → flush ≢ kept
unfolding is_flushed
saw_new k kept asked flush rear front dropped is same =
    let new : not (flush == kept) ≡ true = new_by k (not (flush == kept)) asked flush rear front _ (is_noticed k (not (flush == kept)) rear front) _ _ _ refl (sym (ap is_flushed is)) in
    no (ap not (sym (eq-eqb flush kept same)) ∙ new)

-- the events of a cycle or of a take, by a look that answers by what the list before says
module _ (asked : ℕ) (s : Listed) (before : List ServerEvent) (slot : SlotEntry) (front told : ℕ) (still : (server_kept s.shape before).flush ≡ (kept s).flush) where
  abbrev start : List ServerEvent
  start = before ++ server.SawGain slot.gains ∷ []

  abbrev seen_all : List ServerEvent
  seen_all = ((start ++ server.SawFlush slot.flush ∷ []) ++ server.SawRear slot.rear ∷ []) ++ server.SawFront told ∷ []

  same_flush : (server_kept s.shape start).flush ≡ (kept s).flush
  same_flush = ap (λ k. k.flush) (fold-append (server_keeps s.shape) (server_begins s.shape) before (server.SawGain slot.gains ∷ [])) ∙ still

  after_none : (shut : Bool) (x : Seen) → drops_none (events_behind_look asked shut x) ≡ true
  after_none shut (seen.Frames count) = tally_none (asked - count)
  after_none shut seen.Empty = tally_none asked
  after_none true (seen.Shut front rear) = refl
  after_none false (seen.Shut front rear) = refl
  after_none shut seen.Absent = refl
  after_none shut (seen.Flushed dropped) = refl

  looked : (x : Seen) → x ≡ look_at s.shape (kept s).flush asked slot.flush slot.rear front → DropsByFlush s.shape start (look_events x slot.flush slot.rear told ++ events_behind_look asked false x)
  looked (seen.Flushed dropped) is =
      let new : slot.flush ≢ (server_kept s.shape start).flush = λ same. saw_new s.shape (kept s).flush asked slot.flush slot.rear front dropped is (same ∙ same_flush) in
      (tt, (tt, (tt, (record { before = start; flush = slot.flush; rear = slot.rear; front = told; look = three start _ _ _; is_new = new }, tt))))
  looked (seen.Frames count) is = (tt, (tt, (tt, none_dropped s.shape seen_all (events_behind_look asked false (seen.Frames count)) (after_none false (seen.Frames count)))))
  looked seen.Empty is = (tt, (tt, (tt, none_dropped s.shape seen_all (events_behind_look asked false seen.Empty) (after_none false seen.Empty))))
  looked (seen.Shut f r) is = (tt, (tt, (tt, none_dropped s.shape seen_all (events_behind_look asked false (seen.Shut f r)) (after_none false (seen.Shut f r)))))
  looked seen.Absent is = (tt, (tt, (tt, tt)))

  drops_cycled : LooksBy asked s slot front → DropsByFlush s.shape before (cycle_events asked s slot told)
  drops_cycled by = (tt, by_shut (kept s).shut by.1)
    where
      by_shut : (o : Option (ℕ × ℕ)) → MatchOption o (slot.seen ≡ look_at s.shape (kept s).flush asked slot.flush slot.rear front) (λ words. (slot.seen ≡ seen.Shut words.0 words.1) × (slot.flush ≡ (kept s).flush) × (slot.rear ≡ words.1))
          → DropsByFlush s.shape start ((if is_some o then [] else look_events slot.seen slot.flush slot.rear told) ++ events_behind_look asked (is_some o) slot.seen)
      by_shut None is = looked slot.seen is
      by_shut (Some words) is = none_dropped s.shape start (events_behind_look asked true slot.seen) (after_none true slot.seen)

-- each drop among the events of a cycle belongs to a flush that was noticed
pub cycle_drops : (asked : ℕ) (s : Listed) (slot : SlotEntry) (front told : ℕ) → LooksBy asked s slot front → DropsByFlush s.shape s.events (cycle_events asked s slot told)
cycle_drops asked s slot front told by = drops_cycled asked s s.events slot front told refl by

-- ## A turn

-- the one take of a track
pub record OneTake (P : TakeSeen → Type 0) (i : ℕ) (takes : List TakeSeen) : Type 0 where
  pub take : TakeSeen
  pub is : takes ≡ take ∷ []
  pub of_track : take.track ≡ i
  pub holds : P take

-- at most one take is of a track
pub one_take : (P : TakeSeen → Type 0) (low : ℕ) (takes : List TakeSeen) (i : ℕ) → TracksRise low takes → AllByRecursion P takes → (takes_from takes i ≡ []) ⊎ OneTake P i (takes_from takes i)
one_take P low [] i rise all = inl refl
one_take P low (t ∷ takes) i rise all = by_case (t.track == i) refl (one_take P (t.track + 1) takes i rise.1 all.1)
  where
    by_case : (b : Bool) → (t.track == i) ≡ b → (takes_from takes i ≡ []) ⊎ OneTake P i (takes_from takes i) → (cond b (t ∷ takes_from takes i) (takes_from takes i) ≡ []) ⊎ OneTake P i (cond b (t ∷ takes_from takes i) (takes_from takes i))
    by_case true same rest =
        let e : t.track ≡ i = eqb-true t.track i same in
        inr (record { take = t; is = ap (λ (ts : List TakeSeen). t ∷ ts) (nothing_from (t.track + 1) takes i rise.1 (omega (arith, e))); of_track = e; holds = all.0 })
    by_case false other rest = rest

-- further events drop only by flushes that were noticed, and leave the flush word that is kept
record IsStill (k : Shape) (before more : List ServerEvent) : Type 0 where
  drops : DropsByFlush k before more
  flush : (server_kept k (before ++ more)).flush ≡ (server_kept k before).flush

flags_still : (home shut : Bool) (k : Shape) (before : List ServerEvent) → IsStill k before (if home then (if shut then server.SetFlags 4 ∷ [] else []) else [])
flags_still true true k before = record { drops = (tt, tt); flush = ap (λ x. x.flush) (fold-append (server_keeps k) (server_begins k) before (server.SetFlags 4 ∷ [])) }
flags_still true false k before = record { drops = tt; flush = ap (λ es. (server_kept k es).flush) (append-nil before) }
flags_still false shut k before = record { drops = tt; flush = ap (λ es. (server_kept k es).flush) (append-nil before) }

module _ (c : Setup) (o told : Outside) (m : NormalKept) (e : Turn) (i : ℕ) (streams : o.streams ≡ told.streams) (rise : TracksRise 0 e.mixes) where
  abbrev s : Listed
  s = told.streams i

  abbrev Drops : List ServerEvent → List TakeSeen → Type 0
  Drops before takes = DropsByFlush s.shape before (flat_map (λ (take : TakeSeen). cycle_events (asked c) s take.slot (told.stream_front i)) takes)

  mix_drops : (before : List ServerEvent) → (server_kept s.shape before).flush ≡ (kept s).flush → AllByRecursion (LegalTake c o) e.mixes → DropsByFlush s.shape before (mix_events c told e.mixes i)
  mix_drops before still legal = by_takes (one_take (LegalTake c o) 0 e.mixes i rise legal)
    where
      by_takes : (takes_from e.mixes i ≡ []) ⊎ OneTake (LegalTake c o) i (takes_from e.mixes i) → Drops before (takes_from e.mixes i)
      by_takes (inl none) = subst (Drops before) (sym none) tt
      by_takes (inr one) =
          let by : LooksBy (asked c) s one.take.slot (o.stream_front one.take.track) = subst (λ (l : Listed). LooksBy (asked c) l one.take.slot (o.stream_front one.take.track)) (λ j. streams j (one.of_track j)) one.holds.looks in
          subst (Drops before) (sym one.is) (subst (DropsByFlush s.shape before) (sym (append-nil (cycle_events (asked c) s one.take.slot (told.stream_front i))))
          (drops_cycled (asked c) s before one.take.slot (o.stream_front one.take.track) (told.stream_front i) still by))

  abbrev flags : List TrackKept → List ServerEvent
  flags tracks = if is_home (track_at tracks i).holder then invalid (learnt told) (track_in e i) tracks i else []

  -- each drop among the events of a legal turn belongs to a flush that was noticed
  pub turn_drops : (tracks : List TrackKept) → LegalTurn c o m e → DropsByFlush s.shape s.events (stream_list c told e tracks i)
  turn_drops tracks legal = by_end e.ended refl
    where
      still : IsStill s.shape s.events (flags tracks)
      still = flags_still (is_home (track_at tracks i).holder) _ s.shape s.events

      by_end : (b : Bool) → e.ended ≡ b → DropsByFlush s.shape s.events (if b then [] else flags tracks ++ mix_events c told e.mixes i)
      by_end true is = tt
      by_end false is = drops_join s.shape s.events (flags tracks) _ still.drops (mix_drops (s.events ++ flags tracks) still.flush (legal.goes_on is).takes)
