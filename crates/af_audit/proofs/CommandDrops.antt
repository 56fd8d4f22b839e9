-- On a command block nothing is dropped: each drop would belong to a flush, and its client never flushes.
use Rattle.std.proofs.Common.{◌≡◌, ◌≢◌, ℕ, ◌^◌, ◌≤◌, Bool, true, false, if◌then◌else◌, is_some, List, [], ◌∷◌, ◌++◌, Option, Some, None, refl, sym, ap, ◌∙◌, subst, append-nil, append_assoc, take, arith}
use Rattle.af_audit.proofs.Common.{Alike, ClientEvent, CommandLook, HandEvent, HasHistory, IsLegal, LegalLooks, Listed, LooksBy, MatchOption, Moment, Seen, ServerEvent, Shape, TrackPoint, after, all_command_events, as_slot, by_client, by_hand, by_server, client_of, command_events, drops_more, drops_none, flush_number, flushes-append, flushes_are, flushes_by, flushes_of, front_of, fronts_by, in_turn, keeps_all, kept, legal_cut, look_at, look_events, looks_alike, server_kept, server_of, shows_command, start, step_alike, taken_begins, takes_command, three}
use Rattle.af_base.specs.declared.event.ServerEvent.TheVariants as server
use Rattle.af_base.specs.declared.seen.Seen.TheVariants as seen
use Rattle.af_audit.specs.Fates.{ComesByFlush, DropsByFlush, SeesNewFlush}
use Rattle.af_audit.proofs.Drops.{server_cut}
use Rattle.af_audit.proofs.DropsNoticed.{drops_join, none_dropped, saw_new}
use Rattle.af_audit.proofs.Flushes.{flushes_rise, flushes_told, new_above}

-- ## Looks

takes_none : (look : CommandLook) → drops_none (takes_command look) ≡ true
takes_none look = by (shows_command look.seen)
  where
    by : (b : Bool) → drops_none (if b then server.Take 2 ∷ [] else []) ≡ true
    by true = refl
    by false = refl

module _ (k : Shape) where
  -- a server with this list
  abbrev with_list : List ServerEvent → Listed
  with_list events = record { shape = k; events = events }

  module _ (ys : List ServerEvent) (look : CommandLook) (front told : ℕ) where
    abbrev seen_all : List ServerEvent
    seen_all = ((ys ++ server.SawFlush look.flush ∷ []) ++ server.SawRear look.rear ∷ []) ++ server.SawFront told ∷ []

    looked : (x : Seen) → x ≡ look_at k (server_kept k ys).flush 2 look.flush look.rear front → DropsByFlush k ys (look_events x look.flush look.rear told ++ takes_command look)
    looked (seen.Flushed dropped) is =
        let new : look.flush ≢ (server_kept k ys).flush = saw_new k (server_kept k ys).flush 2 look.flush look.rear front dropped is in
        (tt, (tt, (tt, (record { before = ys; flush = look.flush; rear = look.rear; front = told; look = three ys _ _ _; is_new = new }, none_dropped k (seen_all ++ _ ∷ []) (takes_command look) (takes_none look)))))
    looked (seen.Frames count) is = (tt, (tt, (tt, none_dropped k seen_all (takes_command look) (takes_none look))))
    looked seen.Empty is = (tt, (tt, (tt, none_dropped k seen_all (takes_command look) (takes_none look))))
    looked (seen.Shut f r) is = (tt, (tt, (tt, none_dropped k seen_all (takes_command look) (takes_none look))))
    looked seen.Absent is = (tt, (tt, (tt, none_dropped k seen_all (takes_command look) (takes_none look))))

    look_drops : LooksBy 2 (with_list ys) (as_slot look) front → DropsByFlush k ys (command_events (with_list ys) look told)
    look_drops by = by_shut (kept (with_list ys)).shut by.1
      where
        by_shut : (o : Option (ℕ × ℕ)) → MatchOption o (look.seen ≡ look_at k (server_kept k ys).flush 2 look.flush look.rear front) (λ words. (look.seen ≡ seen.Shut words.0 words.1) × (look.flush ≡ (server_kept k ys).flush) × (look.rear ≡ words.1))
            → DropsByFlush k ys ((if is_some o then [] else look_events look.seen look.flush look.rear told) ++ takes_command look)
        by_shut None is = looked look.seen is
        by_shut (Some words) is = none_dropped k ys (takes_command look) (takes_none look)

  module _ (few : k.wrap ≤ 2 ^ 31) where
    -- the looks of a turn as they are recorded drop only by new flushes, if they are legal by some fronts
    pub looks_drop : (xs ys : List ServerEvent) (looks : List CommandLook) (fronts : List ℕ) → Alike (server_kept k xs) (server_kept k ys) → LegalLooks (with_list xs) looks fronts
        → DropsByFlush k ys (all_command_events (with_list ys) looks (fronts_by front_of (with_list ys) looks))
    looks_drop xs ys [] [] same legal = tt
    looks_drop xs ys [] (front ∷ fronts) same legal = absurd legal
    looks_drop xs ys (look ∷ looks) [] same legal = absurd legal
    looks_drop xs ys (look ∷ looks) (front ∷ fronts) same legal =
        let told = front_of 2 (with_list ys) (as_slot look) in
        let events : List ServerEvent = command_events (with_list ys) look told in
        let rest : List ServerEvent = all_command_events (with_list (ys ++ events)) looks (fronts_by front_of (with_list (ys ++ events)) looks) in
        drops_join k ys events rest (look_drops ys look front told (looks_alike k few xs ys 2 (as_slot look) front same legal.0))
        (looks_drop (xs ++ command_events (with_list xs) look front) (ys ++ events) looks fronts (step_alike k few xs ys look front same legal.0) legal.2)

-- ## Histories

drops_split : (k : Shape) (before xs : List ServerEvent) (e : ServerEvent) → DropsByFlush k before (xs ++ e ∷ []) → DropsByFlush k before xs × ComesByFlush k (before ++ xs) e
drops_split k before [] e h = (tt, subst (λ (l : List ServerEvent). ComesByFlush k l e) (sym (append-nil before)) h.0)
drops_split k before (x ∷ xs) e h = let r = drops_split k (before ++ x ∷ []) xs e h.1 in ((h.0, r.0), subst (λ (l : List ServerEvent). ComesByFlush k l e) (append_assoc before (x ∷ []) xs) r.1)

module _ (k : Shape) (narrow : k.wrap ≤ 32768) where
  -- a look sees no new flush, if there is none
  never_new : (order : List Moment) → IsLegal (start k) order → flushes_of (client_of order) ≡ 0 → SeesNewFlush k (server_of order) → ⊥
  never_new order legal calm s =
      let cut = server_cut order s.before (server.SawFlush s.flush) (server.SawRear s.rear ∷ server.SawFront s.front ∷ []) s.look in
      let at = legal_cut (start k) cut.late (by_server (server.SawFlush s.flush)) cut.early (subst (IsLegal (start k)) cut.whole legal) in
      let p : TrackPoint = after (start k) cut.early in
      let all = flushes_are k order in
      let rise = flushes_rise (start k) cut.late (by_server (server.SawFlush s.flush) ∷ cut.early) in
      let rise_is : (after (start k) order).flushes ≡ (after (start k) (cut.late ++ by_server (server.SawFlush s.flush) ∷ cut.early)).flushes = ap (λ (o : List Moment). (after (start k) o).flushes) cut.whole in
      let none : p.flushes ≤ 0 = omega (arith, all, rise, rise_is, calm) in
      let few : p.flushes ≤ 65536 = omega (arith, none) in
      let wrap_is = (in_turn k cut.early at.1).wrap_is in
      let word : s.flush ≡ flush_number k.wrap p.flushes p.flush_at = at.0 ∙ ap (λ (w : ℕ). flush_number w p.flushes p.flush_at) wrap_is in
      let count : flushes_by k.wrap s.flush ≡ p.flushes = ap (flushes_by k.wrap) word ∙ flushes_told k.wrap p.flushes p.flush_at narrow few in
      let above = new_above k narrow cut.early s.flush at few (subst (λ (l : List ServerEvent). s.flush ≢ (server_kept k l).flush) (sym cut.before) s.is_new) in
      omega (arith, above, count, none)

  keeps_so : (order : List Moment) (e : ServerEvent) → IsLegal (start k) order → flushes_of (client_of order) ≡ 0 → ComesByFlush k (server_of order) e → keeps_all e ≡ true
  keeps_so order (server.Drop to) legal calm comes = absurd (never_new order legal calm comes)
  keeps_so order _ legal calm comes = refl

  never_drops : (order : List Moment) → IsLegal (start k) order → flushes_of (client_of order) ≡ 0 → DropsByFlush k [] (server_of order) → drops_none (server_of order) ≡ true
  never_drops [] legal calm noticed = refl
  never_drops (by_client e ∷ order) legal calm noticed = never_drops order legal.1 (let j = flushes-append (client_of order) (e ∷ []) in omega (arith, j, calm)) noticed
  never_drops (by_server e ∷ order) legal calm noticed =
      let r = drops_split k [] (server_of order) e noticed in
      drops_more (server_of order) e (keeps_so order e legal.1 calm r.1) (never_drops order legal.1 calm r.0)
  never_drops (by_hand e ∷ order) legal calm noticed = never_drops order legal.1 calm noticed

  -- if the client never flushes, the frames taken are the first ones of those released
  pub taken_first : (ce : List ClientEvent) (cf : List ℕ) (se : List ServerEvent) (sf : List ℕ) (he : List HandEvent) → HasHistory k ce cf se sf he → flushes_of ce ≡ 0 → DropsByFlush k [] se → (n : ℕ) × (sf ≡ take n cf)
  taken_first ce cf se sf he h calm noticed =
      taken_begins k ce cf se sf he h (subst (λ (es : List ServerEvent). drops_none es ≡ true) h.server_is (never_drops h.order h.legal (ap flushes_of h.client_is ∙ calm) (subst (DropsByFlush k []) (sym h.server_is) noticed)))
