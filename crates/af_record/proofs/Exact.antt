-- With both ends in one hand a supply finds all the room that there is, and a read all that is queued.
use Rattle.std.proofs.Common.{◌≡◌, inl, inr, ℕ, zero, suc, ◌+◌, ◌-◌, ◌^◌, ◌≤◌, ◌<◌, ◌==◌, nat_lt, bit_and, Bool, true, false, true≢false, not, if◌then◌else◌, MatchOption, Option, None, max, min, eqb-true, List, [], ◌∷◌, ◌++◌, length, take, drop, refl, sym, ap, ◌∙◌, subst, arith, append_assoc, length-append}
use Rattle.af_record.proofs.Common.{ClientEvent, ClientPart, Made, ServerEvent, ServerPart, Shape, ahead, ahead-between, both_first, both_right, client_met, count_seen, drop-take, drop_at, drops_of, is_not_below, list_all, list_all-append, look_at, room_by, server_did, server_kept_of, take-append_seam, wrapped}
use Rattle.std.proofs.Common.{length-drop, length-take}
use Rattle.af_base.specs.declared.event.ClientEvent.TheVariants as client
use Rattle.af_base.specs.declared.event.ServerEvent.TheVariants as server
use Rattle.af_base.specs.declared.seen.Seen.TheVariants as seen
use Rattle.af_record.specs.Ends.{SeesTaken}
use Rattle.af_record.specs.History.{HasTapeHistory, is_alive, is_calm}
use Rattle.af_record.specs.Ends.{CaptureState, ListenerState, put_by, taken_in, takes as takes_of, last_room, last_dead, room_seen, HasRead, SawWords, IsStopped, LooksFirst, SeesPut, SeesRoom}
use Rattle.af_record.proofs.Calm.{all_first, all_second, kept_zero, looks_calm}
use Rattle.af_record.specs.InStep.{IsInStep, queued_in}
use Rattle.af_record.proofs.Puts.{put_by-append, last_room-append}
use Rattle.af_record.proofs.Rooms.{put_count, put_within, taken_count, taken_in-append}

module _ (size : ℕ) (takes : List ServerEvent) where
  -- what is seen behind some events
  rooms_behind : (xs ys : List ClientEvent) (put low : ℕ) → SeesRoom size takes put low (xs ++ ys) → (later : ℕ) × (low ≤ later) × SeesRoom size takes (put + put_by xs) later ys
  rooms_behind [] ys put low s = (low, omega arith, (let e : put ≡ put + 0 = omega arith in subst (λ (n : ℕ). SeesRoom size takes n low ys) e s))
  rooms_behind (client.SawFront front ∷ xs) ys put low s =
      let on = rooms_behind xs ys put s.0 s.4 in
      let a = s.1 in
      let b = on.1 in
      (on.0, omega arith, on.2)
  rooms_behind (client.Release count ∷ xs) ys put low s =
      let on = rooms_behind xs ys (put + count) low s in
      let e : (put + count) + put_by xs ≡ put + (count + put_by xs) = omega arith in
      (on.0, on.1, subst (λ (n : ℕ). SeesRoom size takes n on.0 ys) e on.2)
  rooms_behind (client.Learn count ∷ xs) ys put low s =
      let on = rooms_behind xs ys put (max low (taken_in (take count takes))) s in
      let a = on.1 in
      (on.0, omega arith, on.2)
  rooms_behind (client.Flush ∷ xs) ys put low s = rooms_behind xs ys put low s
  rooms_behind (client.SetGain word ∷ xs) ys put low s = rooms_behind xs ys put low s
  rooms_behind (client.ClearFlags old ∷ xs) ys put low s = rooms_behind xs ys put low s
  rooms_behind (client.SawFlags flags ∷ xs) ys put low s = rooms_behind xs ys put low s
  rooms_behind (client.SawStatus word ∷ xs) ys put low s = rooms_behind xs ys put low s
  rooms_behind (client.Poke word value ∷ xs) ys put low s = rooms_behind xs ys put low s

  -- what is seen at the front
  rooms_front : (xs ys : List ClientEvent) (put low : ℕ) → SeesRoom size takes put low (xs ++ ys) → SeesRoom size takes put low xs
  rooms_front [] ys put low s = tt
  rooms_front (client.SawFront front ∷ xs) ys put low s = (s.0, s.1, s.2, s.3, rooms_front xs ys put s.0 s.4)
  rooms_front (client.Release count ∷ xs) ys put low s = rooms_front xs ys (put + count) low s
  rooms_front (client.Learn count ∷ xs) ys put low s = rooms_front xs ys put (max low (taken_in (take count takes))) s
  rooms_front (client.Flush ∷ xs) ys put low s = rooms_front xs ys put low s
  rooms_front (client.SetGain word ∷ xs) ys put low s = rooms_front xs ys put low s
  rooms_front (client.ClearFlags old ∷ xs) ys put low s = rooms_front xs ys put low s
  rooms_front (client.SawFlags flags ∷ xs) ys put low s = rooms_front xs ys put low s
  rooms_front (client.SawStatus word ∷ xs) ys put low s = rooms_front xs ys put low s
  rooms_front (client.Poke word value ∷ xs) ys put low s = rooms_front xs ys put low s

  -- if all that was taken is known, the last room is that by all of it
  last_known : (xs : List ClientEvent) (put low room by : ℕ) → taken_in takes ≤ low → by ≤ put → room ≡ size - (by - taken_in takes) → SeesRoom size takes put low xs
      → (last : ℕ) × (last ≤ put + put_by xs) × (last_room size put room xs ≡ size - (last - taken_in takes))
  last_known [] put low room by known le is s = (by, omega arith, is)
  last_known (client.SawFront front ∷ xs) put low room by known le is s =
      let a = s.1 in
      let b = s.2 in
      let all : s.0 ≡ taken_in takes = omega arith in
      last_known xs put s.0 (room_by size put front) put (omega arith) (omega arith) (s.3 ∙ ap (λ (n : ℕ). size - (put - n)) all) s.4
  last_known (client.Release count ∷ xs) put low room by known le is s =
      let on = last_known xs (put + count) low room by known (omega arith) is s in
      let a = on.1 in
      (on.0, omega arith, on.2)
  last_known (client.Learn count ∷ xs) put low room by known le is s = last_known xs put (max low (taken_in (take count takes))) room by (omega arith) le is s
  last_known (client.Flush ∷ xs) put low room by known le is s = last_known xs put low room by known le is s
  last_known (client.SetGain word ∷ xs) put low room by known le is s = last_known xs put low room by known le is s
  last_known (client.ClearFlags old ∷ xs) put low room by known le is s = last_known xs put low room by known le is s
  last_known (client.SawFlags flags ∷ xs) put low room by known le is s = last_known xs put low room by known le is s
  last_known (client.SawStatus word ∷ xs) put low room by known le is s = last_known xs put low room by known le is s
  last_known (client.Poke word value ∷ xs) put low room by known le is s = last_known xs put low room by known le is s

  -- the room at the last look of a supply that began behind a meeting
  pub room_is : (clients behind : List ClientEvent) (flags front count : ℕ) → taken_in takes ≤ taken_in (take count takes) → SeesRoom size takes 0 0 ((clients ++ client.Learn count ∷ []) ++ client.SawFlags flags ∷ client.SawFront front ∷ behind)
      → (last : ℕ) × (last ≤ put_by ((clients ++ client.Learn count ∷ []) ++ client.SawFlags flags ∷ client.SawFront front ∷ behind))
      × (last_room size 0 size ((clients ++ client.Learn count ∷ []) ++ client.SawFlags flags ∷ client.SawFront front ∷ behind) ≡ size - (last - taken_in takes))
  room_is clients behind flags front count known s =
      let met : List ClientEvent = clients ++ client.Learn count ∷ [] in
      let looks : List ClientEvent = client.SawFlags flags ∷ client.SawFront front ∷ behind in
      let here = rooms_behind clients (client.Learn count ∷ looks) 0 0 (subst (λ (es : List ClientEvent). SeesRoom size takes 0 0 es) (append_assoc clients (client.Learn count ∷ []) looks) s) in
      let put : ℕ = 0 + put_by clients in
      let low : ℕ = max here.0 (taken_in (take count takes)) in
      let t = here.2 in
      let a = t.1 in
      let b = t.2 in
      let all : t.0 ≡ taken_in takes = omega arith in
      let on = last_known behind put t.0 (room_by size put front) put (omega arith) (omega arith) (t.3 ∙ ap (λ (n : ℕ). size - (put - n)) all) t.4 in
      let counts : put_by met ≡ put_by clients + 0 = put_by-append clients (client.Learn count ∷ []) in
      let whole : put_by (met ++ looks) ≡ put_by met + put_by behind = put_by-append met looks in
      let c = on.1 in
      let same : 0 + put_by met ≡ put = omega arith in
      (on.0, omega arith, last_room-append size 0 size met looks ∙ ap (λ (n : ℕ). last_room size n (room_by size n front) behind) same ∙ on.2)

-- so many were put: all of them, or as many as there was room for
pub put_is : (size asked put lost before taken last room : ℕ) → put + lost ≡ asked → (1 ≤ lost → room ≡ 0) → room ≡ size - (last - taken) → last ≤ before + put → taken ≤ before → before + put ≤ taken + size
    → put ≡ min asked (size - (before - taken))
put_is size asked put zero before taken last room sum full is le low high = omega arith
put_is size asked put (suc lost) before taken last room sum full is le low high = let none = full (omega arith) in omega arith

-- ## Reading

puts_behind : (puts : List ClientEvent) (xs ys : List ServerEvent) (low : ℕ) → SeesPut puts low (xs ++ ys) → (later : ℕ) × (low ≤ later) × SeesPut puts later ys
puts_behind puts [] ys low s = (low, omega arith, s)
puts_behind puts (server.SawRear rear ∷ xs) ys low s =
    let on = puts_behind puts xs ys s.0 s.4 in
    let a = s.1 in
    let b = on.1 in
    (on.0, omega arith, on.2)
puts_behind puts (server.Learn count ∷ xs) ys low s =
    let on = puts_behind puts xs ys (max low (put_by (take count puts))) s in
    let a = on.1 in
    (on.0, omega arith, on.2)
puts_behind puts (server.Take count ∷ xs) ys low s = puts_behind puts xs ys low s
puts_behind puts (server.SawGain word ∷ xs) ys low s = puts_behind puts xs ys low s
puts_behind puts (server.SawFlush flush ∷ xs) ys low s = puts_behind puts xs ys low s
puts_behind puts (server.SawFront front ∷ xs) ys low s = puts_behind puts xs ys low s
puts_behind puts (server.Drop to ∷ xs) ys low s = puts_behind puts xs ys low s
puts_behind puts (server.Tally missing ∷ xs) ys low s = puts_behind puts xs ys low s
puts_behind puts (server.SetFlags bits ∷ xs) ys low s = puts_behind puts xs ys low s
puts_behind puts (server.SetStatus word ∷ xs) ys low s = puts_behind puts xs ys low s

-- the rear that a read behind a meeting sees
pub rear_is : (puts : List ClientEvent) (servers rest : List ServerEvent) (count flush rear : ℕ) → put_by puts ≤ put_by (take count puts) → SeesPut puts 0 ((servers ++ server.Learn count ∷ []) ++ server.SawFlush flush ∷ server.SawRear rear ∷ rest) → rear ≡ wrapped (put_by puts)
rear_is puts servers rest count flush rear known s =
    let here = puts_behind puts servers (server.Learn count ∷ server.SawFlush flush ∷ server.SawRear rear ∷ rest) 0
    (subst (λ (es : List ServerEvent). SeesPut puts 0 es) (append_assoc servers (server.Learn count ∷ []) (server.SawFlush flush ∷ server.SawRear rear ∷ rest)) s) in
    let t = here.2 in
    let a = t.1 in
    let b = t.2 in
    let all : t.0 ≡ put_by puts = omega arith in
    t.3 ∙ ap wrapped all

taken_behind : (xs ys : List ServerEvent) (taken : ℕ) → SeesTaken taken (xs ++ ys) → SeesTaken (taken + taken_in xs) ys
taken_behind [] ys taken s = let e : taken ≡ taken + 0 = omega arith in subst (λ (n : ℕ). SeesTaken n ys) e s
taken_behind (server.Take count ∷ xs) ys taken s =
    let e : (taken + count) + taken_in xs ≡ taken + (count + taken_in xs) = omega arith in
    subst (λ (n : ℕ). SeesTaken n ys) e (taken_behind xs ys (taken + count) s)
taken_behind (server.SawFront front ∷ xs) ys taken s = taken_behind xs ys taken s.1
taken_behind (server.SawRear rear ∷ xs) ys taken s = taken_behind xs ys taken s
taken_behind (server.Learn count ∷ xs) ys taken s = taken_behind xs ys taken s
taken_behind (server.SawGain word ∷ xs) ys taken s = taken_behind xs ys taken s
taken_behind (server.SawFlush flush ∷ xs) ys taken s = taken_behind xs ys taken s
taken_behind (server.Drop to ∷ xs) ys taken s = taken_behind xs ys taken s
taken_behind (server.Tally missing ∷ xs) ys taken s = taken_behind xs ys taken s
taken_behind (server.SetFlags bits ∷ xs) ys taken s = taken_behind xs ys taken s
taken_behind (server.SetStatus word ∷ xs) ys taken s = taken_behind xs ys taken s

pub front_is : (before rest : List ServerEvent) (flush rear front : ℕ) → SeesTaken 0 (before ++ server.SawFlush flush ∷ server.SawRear rear ∷ server.SawFront front ∷ rest) → front ≡ wrapped (taken_in before)
front_is before rest flush rear front s =
    (taken_behind before (server.SawFlush flush ∷ server.SawRear rear ∷ server.SawFront front ∷ rest) 0 s).0 ∙ ap wrapped (let e : 0 + taken_in before ≡ taken_in before = omega arith in e)

-- what a look shows if no flush is seen and the words fit the block: the lesser of the frames asked for and those that are there
shown_as : (b d : Bool) (places front rear : ℕ) → b ≡ false → (d ≡ true → ahead front rear ≡ 0)
    → count_seen (if b then seen.Shut front rear else if d then seen.Empty else seen.Frames (min places (ahead front rear))) ≡ min places (ahead front rear)
shown_as true d places front rear fits same = absurd (true≢false fits)
shown_as false true places front rear fits same = let e = same refl in omega arith
shown_as false false places front rear fits same = refl

shown_rest : (k : Shape) (kept places flush rear front : ℕ) → kept ≡ 0 → flush ≡ 0 → front < 2 ^ 32 → ahead front rear ≤ k.frames → count_seen (look_at k kept places flush rear front) ≡ min places (ahead front rear)
shown_rest k kept places flush rear front none unflushed low fits =
    ap (λ (x : ℕ × ℕ). count_seen (look_at k x.0 places x.1 rear front)) (λ i. (none i, unflushed i))
    ∙ shown_as (nat_lt k.frames (ahead front rear)) (rear == front) places front rear (is_not_below k.frames (ahead front rear) fits) (λ d. let e = eqb-true rear front d in omega arith)

-- ## What nothing disturbs

alive_first : (xs ys : List ClientEvent) → list_all is_alive (xs ++ ys) ≡ true → list_all is_alive xs ≡ true
alive_first xs ys all = both_first (list_all is_alive xs) (list_all is_alive ys) (sym (list_all-append is_alive xs ys) ∙ all)

-- these flags don't have INVALID
alive_at : (xs ys : List ClientEvent) (flags : ℕ) → list_all is_alive (xs ++ client.SawFlags flags ∷ ys) ≡ true → bit_and flags 4 ≡ 0
alive_at xs ys flags all =
    let behind : list_all is_alive (client.SawFlags flags ∷ ys) ≡ true = both_right (list_all is_alive xs) _ (sym (list_all-append is_alive xs (client.SawFlags flags ∷ ys)) ∙ all) in
    eqb-true (bit_and flags 4) 0 (both_first (bit_and flags 4 == 0) _ behind)

never_dead : (es : List ClientEvent) → list_all is_alive es ≡ true → last_dead false es ≡ false
never_dead [] all = refl
never_dead (client.SawFlags flags ∷ es) all =
    ap (λ (b : Bool). last_dead (not b) es) (both_first (bit_and flags 4 == 0) _ all) ∙ never_dead es (both_right (bit_and flags 4 == 0) _ all)
never_dead (client.Release count ∷ es) all = never_dead es all
never_dead (client.Flush ∷ es) all = never_dead es all
never_dead (client.SetGain word ∷ es) all = never_dead es all
never_dead (client.ClearFlags old ∷ es) all = never_dead es all
never_dead (client.SawFront front ∷ es) all = never_dead es all
never_dead (client.SawStatus word ∷ es) all = never_dead es all
never_dead (client.Poke word value ∷ es) all = never_dead es all
never_dead (client.Learn count ∷ es) all = never_dead es all

-- an end that never saw INVALID stops if there is no room
by_room : (p : ClientPart) → list_all is_alive p.events ≡ true → IsStopped p → room_seen p ≡ 0
by_room p alive (inl dead) = absurd (true≢false (sym dead ∙ never_dead p.events alive))
by_room p alive (inr full) = full

calm_first : (xs ys : List ServerEvent) → list_all is_calm (xs ++ ys) ≡ true → list_all is_calm xs ≡ true
calm_first xs ys all = all_first is_calm xs ys all

-- a read that saw no flush, on a server that wasn't shut
record LookedAt (s t : ServerPart) (places count : ℕ) : Type 0 where
  flush : ℕ
  rear : ℕ
  front : ℕ
  kept : (server_kept_of s).flush ≡ 0
  unflushed : flush ≡ 0
  count_is : count ≡ count_seen (look_at s.shape (server_kept_of s).flush places flush rear front)
  events : t.events ≡ s.events ++ server.SawFlush flush ∷ server.SawRear rear ∷ server.SawFront front ∷ takes_of count

looked_at : (s t : ServerPart) (places count : ℕ) → (server_kept_of s).shut ≡ None → HasRead s places count t → list_all is_calm t.events ≡ true → LookedAt s t places count
looked_at s t places count unshut read calm =
    let r = subst (λ (o : Option (ℕ × ℕ)). MatchOption o (SawWords s places count t) (λ words. (count ≡ 0) × (t.events ≡ s.events))) unshut read in
    let flush : ℕ = r.0 in
    let rear : ℕ = r.1 in
    let front : ℕ = r.2 in
    let keeps : ℕ = (server_kept_of s).flush in
    let drops : List ServerEvent = drops_of (look_at s.shape keeps places flush rear front) front in
    let words : List ServerEvent = server.SawFlush flush ∷ server.SawRear rear ∷ server.SawFront front ∷ drops in
    let whole : list_all is_calm ((s.events ++ words) ++ takes_of count) ≡ true = ap (list_all is_calm) (sym r.3.1) ∙ calm in
    let first : list_all is_calm (s.events ++ words) ≡ true = all_first is_calm (s.events ++ words) (takes_of count) whole in
    let kept : keeps ≡ 0 = kept_zero s.shape s.events (all_first is_calm s.events words first) in
    let unflushed : flush ≡ 0 = eqb-true flush 0 (both_first (flush == 0) _ (all_second is_calm s.events words first)) in
    let none : drops ≡ [] = looks_calm s.shape keeps places flush rear front kept unflushed in
    record {
      flush = flush;
      rear = rear;
      front = front;
      kept = kept;
      unflushed = unflushed;
      count_is = r.3.0;
      events = r.3.1 ∙ ap (λ (es : List ServerEvent). (s.events ++ server.SawFlush flush ∷ server.SawRear rear ∷ server.SawFront front ∷ es) ++ takes_of count) none
          ∙ append_assoc s.events (server.SawFlush flush ∷ server.SawRear rear ∷ server.SawFront front ∷ []) (takes_of count);
    }

-- ## Both

-- two ends in step, and a meeting behind what one of them did then
module _ (block : Made) (c : CaptureState) (l : ListenerState) (step : IsInStep block c l) where
  -- no more was read than was put
  read_within : length l.pass.part.frames ≤ length c.pass.part.frames
  read_within =
      let a : length l.pass.part.frames ≡ length (take (length l.pass.part.frames) c.pass.part.frames) = ap length step.history.begins in
      let b = length-take (length l.pass.part.frames) c.pass.part.frames in
      omega arith

  queued_count : length (queued_in c l) ≡ length c.pass.part.frames - length l.pass.part.frames
  queued_count = length-drop (length l.pass.part.frames) c.pass.part.frames

  pub put_exact : (c1 c2 : CaptureState) (l2 : ListenerState) (asked put lost : ℕ) (words : List ℕ) → LooksFirst c.pass.part.events c1.pass.part.events
      → c1.pass.part.frames ≡ c.pass.part.frames ++ words → length words ≡ put → put + lost ≡ asked → (1 ≤ lost → IsStopped c1.pass.part) → c1.pass.part.shape.frames ≡ block.shape.frames
      → c2.pass.part ≡ client_met c1.pass.part l.pass.part.events → l2.pass.part ≡ server_did l.pass.part (server.Learn (length c1.pass.part.events))
      → HasTapeHistory block.shape.frames c2.pass.part.events c2.pass.part.frames l2.pass.part.events l2.pass.part.frames
      → list_all is_alive c2.pass.part.events ≡ true → SeesRoom block.shape.frames l2.pass.part.events 0 0 c2.pass.part.events
      → put ≡ min asked (block.shape.frames - length (queued_in c l))
  put_exact c1 c2 l2 asked put lost words looked frames many sum stopped shape from to h alive rooms =
      let size : ℕ = block.shape.frames in
      let servers : List ServerEvent = step.servers in
      let met : List ClientEvent = step.clients ++ client.Learn (length servers) ∷ [] in
      let learn : List ClientEvent = client.Learn (length l.pass.part.events) ∷ [] in
      let met_is : c2.pass.part.events ≡ c1.pass.part.events ++ learn = ap (λ (p : ClientPart). p.events) from in
      let living : list_all is_alive c1.pass.part.events ≡ true = alive_first c1.pass.part.events learn (ap (list_all is_alive) (sym met_is) ∙ alive) in
      let next = looked.next (alive_at c.pass.part.events looked.behind looked.flags (ap (list_all is_alive) (sym looked.is) ∙ living)) in
      let front : ℕ = next.0 in
      let behind : List ClientEvent = next.1 in
      let looks : List ClientEvent = met ++ client.SawFlags looked.flags ∷ client.SawFront front ∷ behind in
      let takes : List ServerEvent = l2.pass.part.events in
      let takes_are : takes ≡ servers ++ server.Learn (length step.clients) ∷ server.Learn (length c1.pass.part.events) ∷ [] =
      ap (λ (s : ServerPart). s.events) to ∙ ap (λ (es : List ServerEvent). es ++ server.Learn (length c1.pass.part.events) ∷ []) step.servers_are
      ∙ append_assoc servers (server.Learn (length step.clients) ∷ []) (server.Learn (length c1.pass.part.events) ∷ []) in
      let all : taken_in takes ≡ taken_in servers + 0 = ap taken_in takes_are ∙ taken_in-append servers (server.Learn (length step.clients) ∷ server.Learn (length c1.pass.part.events) ∷ []) in
      let learnt : taken_in (take (length servers) takes) ≡ taken_in servers =
      ap (λ (es : List ServerEvent). taken_in (take (length servers) es)) takes_are
      ∙ ap taken_in (take-append_seam servers (server.Learn (length step.clients) ∷ server.Learn (length c1.pass.part.events) ∷ [])) in
      let events : c1.pass.part.events ≡ looks = looked.is ∙ ap (λ (x : List ClientEvent × List ClientEvent). x.0 ++ client.SawFlags looked.flags ∷ x.1) (λ i. (step.clients_are i, next.2 i)) in
      let events_met : c2.pass.part.events ≡ looks ++ learn = met_is ∙ ap (λ (es : List ClientEvent). es ++ learn) events in
      let seen : SeesRoom size takes 0 0 looks =
      rooms_front size takes looks learn 0 0 (subst (λ (es : List ClientEvent). SeesRoom size takes 0 0 es) events_met rooms) in
      let r = room_is size takes step.clients behind looked.flags front (length servers) (omega arith) seen in
      let last : ℕ = r.0 in
      let room : room_seen c1.pass.part ≡ size - (last - taken_in takes) = ap (λ (x : ℕ × List ClientEvent). last_room x.0 0 x.0 x.1) (λ i. (shape i, events i)) ∙ r.2 in
      let a = r.1 in
      let b = put_count size c2.pass.part.events c2.pass.part.frames l2.pass.part.events l2.pass.part.frames h in
      let d : put_by c2.pass.part.events ≡ put_by looks + 0 = ap put_by events_met ∙ put_by-append looks learn in
      let e : length c2.pass.part.frames ≡ length c.pass.part.frames + length words = ap (λ (p : ClientPart). length p.frames) from ∙ ap length frames ∙ length-append c.pass.part.frames words in
      let f = taken_count size c2.pass.part.events c2.pass.part.frames l2.pass.part.events l2.pass.part.frames h in
      let g : length l2.pass.part.frames ≡ length l.pass.part.frames = ap (λ (s : ServerPart). length s.frames) to in
      let i = put_within size c2.pass.part.events c2.pass.part.frames l2.pass.part.events l2.pass.part.frames h in
      let j = read_within in
      let k = queued_count in
      let is : put ≡ min asked (size - (length c.pass.part.frames - taken_in takes)) =
      put_is size asked put lost (length c.pass.part.frames) (taken_in takes) last (room_seen c1.pass.part) sum (λ some. by_room c1.pass.part living (stopped some)) room (omega arith) (omega arith) (omega arith) in
      is ∙ ap (λ (n : ℕ). min asked (size - n)) (let m : length c.pass.part.frames - taken_in takes ≡ length (queued_in c l) = omega arith in m)

  pub count_exact : (c2 : CaptureState) (l1 l2 : ListenerState) (places count : ℕ) → HasRead l.pass.part places count l1.pass.part
      → c2.pass.part ≡ client_met c.pass.part l1.pass.part.events → l2.pass.part ≡ server_did l1.pass.part (server.Learn (length c.pass.part.events))
      → HasTapeHistory block.shape.frames c2.pass.part.events c2.pass.part.frames l2.pass.part.events l2.pass.part.frames
      → list_all is_calm l2.pass.part.events ≡ true → SeesPut c2.pass.part.events 0 l2.pass.part.events → SeesTaken 0 l2.pass.part.events
      → count ≡ min places (length (queued_in c l))
  count_exact c2 l1 l2 places count read from to h calm rears fronts =
      let size : ℕ = block.shape.frames in
      let clients : List ClientEvent = step.clients in
      let puts : List ClientEvent = c2.pass.part.events in
      let learn : List ServerEvent = server.Learn (length c.pass.part.events) ∷ [] in
      let rest : List ServerEvent = takes_of count ++ learn in
      let r = looked_at l.pass.part l1.pass.part places count step.unshut read (calm_first l1.pass.part.events learn (ap (λ (s : ServerPart). list_all is_calm s.events) (sym to) ∙ calm)) in
      let looks : List ServerEvent = server.SawFlush r.flush ∷ server.SawRear r.rear ∷ server.SawFront r.front ∷ rest in
      let puts_are : puts ≡ clients ++ client.Learn (length step.servers) ∷ client.Learn (length l1.pass.part.events) ∷ [] =
      ap (λ (p : ClientPart). p.events) from ∙ ap (λ (es : List ClientEvent). es ++ client.Learn (length l1.pass.part.events) ∷ []) step.clients_are
      ∙ append_assoc clients (client.Learn (length step.servers) ∷ []) (client.Learn (length l1.pass.part.events) ∷ []) in
      let all : put_by puts ≡ put_by clients + 0 = ap put_by puts_are ∙ put_by-append clients (client.Learn (length step.servers) ∷ client.Learn (length l1.pass.part.events) ∷ []) in
      let learnt : put_by (take (length clients) puts) ≡ put_by clients =
      ap (λ (es : List ClientEvent). put_by (take (length clients) es)) puts_are
      ∙ ap put_by (take-append_seam clients (client.Learn (length step.servers) ∷ client.Learn (length l1.pass.part.events) ∷ [])) in
      let events : l2.pass.part.events ≡ l.pass.part.events ++ looks =
      ap (λ (s : ServerPart). s.events) to ∙ ap (λ (es : List ServerEvent). es ++ learn) r.events
      ∙ append_assoc l.pass.part.events (server.SawFlush r.flush ∷ server.SawRear r.rear ∷ server.SawFront r.front ∷ takes_of count) learn in
      let met : l2.pass.part.events ≡ (step.servers ++ server.Learn (length clients) ∷ []) ++ looks = events ∙ ap (λ (es : List ServerEvent). es ++ looks) step.servers_are in
      let rear : r.rear ≡ wrapped (put_by puts) =
      rear_is puts step.servers (server.SawFront r.front ∷ rest) (length clients) r.flush r.rear (omega arith) (subst (λ (es : List ServerEvent). SeesPut puts 0 es) met rears) in
      let front : r.front ≡ wrapped (taken_in l.pass.part.events) = front_is l.pass.part.events rest r.flush r.rear r.front (subst (λ (es : List ServerEvent). SeesTaken 0 es) events fronts) in
      let a = put_count size c2.pass.part.events c2.pass.part.frames l2.pass.part.events l2.pass.part.frames h in
      let b : length c2.pass.part.frames ≡ length c.pass.part.frames = ap (λ (p : ClientPart). length p.frames) from in
      let d = taken_count size c.pass.part.events c.pass.part.frames l.pass.part.events l.pass.part.frames step.history in
      let e = put_within size c.pass.part.events c.pass.part.frames l.pass.part.events l.pass.part.frames step.history in
      let f = read_within in
      let g = queued_count in
      let i = step.small in
      let far : ahead r.front r.rear ≡ put_by puts - taken_in l.pass.part.events =
      ap (λ (x : ℕ × ℕ). ahead x.0 x.1) (λ i. (front i, rear i)) ∙ ahead-between (taken_in l.pass.part.events) (put_by puts) (omega arith) (omega arith) in
      let shown : put_by puts - taken_in l.pass.part.events ≡ length (queued_in c l) = omega arith in
      let made : block.shape.frames ≡ l.pass.part.shape.frames = ap (λ (m : Made). m.shape.frames) (sym step.to) in
      let low : r.front < 2 ^ 32 = omega arith in
      r.count_is ∙ shown_rest l.pass.part.shape (server_kept_of l.pass.part).flush places r.flush r.rear r.front r.kept r.unflushed low (omega arith) ∙ ap (λ (n : ℕ). min places n) (far ∙ shown)

  -- what was read is what was queued first
  pub read_exact : (c2 : CaptureState) (l1 l2 : ListenerState) (count : ℕ) (words : List ℕ) → l1.pass.part.frames ≡ l.pass.part.frames ++ words → length words ≡ count
      → c2.pass.part ≡ client_met c.pass.part l1.pass.part.events → l2.pass.part ≡ server_did l1.pass.part (server.Learn (length c.pass.part.events))
      → HasTapeHistory block.shape.frames c2.pass.part.events c2.pass.part.frames l2.pass.part.events l2.pass.part.frames
      → words ≡ take count (queued_in c l)
  read_exact c2 l1 l2 count words frames many from to h =
      let had : List ℕ = l.pass.part.frames in
      let put : List ℕ = c.pass.part.frames in
      let taken : l2.pass.part.frames ≡ had ++ words = ap (λ (s : ServerPart). s.frames) to ∙ frames in
      let long : length l2.pass.part.frames ≡ length had + count = (let a = ap length taken ∙ length-append had words in omega arith) in
      let same : had ++ words ≡ take (length had + count) put =
      sym taken ∙ h.begins ∙ ap (λ (n : ℕ). take n c2.pass.part.frames) long ∙ ap (λ (p : ClientPart). take (length had + count) p.frames) from in
      sym (drop_at had words (length had) refl) ∙ ap (λ (x : List ℕ). drop (length had) x) same ∙ drop-take (length had) count put
