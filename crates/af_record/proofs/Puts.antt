-- What a write leaves of the list of the end that supplies.
use Rattle.std.proofs.Common.{◌≡◌, inl, inr, ◌≢◌, ℕ, zero, suc, ◌+◌, ◌-◌, ◌≤◌, ◌==◌, bit_and, Bool, false, true≢false, not, List, [], ◌∷◌, ◌++◌, length, take, drop, map, refl, sym, ap, ◌∙◌, subst, arith, append_assoc, append-nil, length-append, length-take-le, ne_eqb}
use Rattle.af_record.proofs.Common.{ClientEvent, ClientPart, ClientState, Frame, IsInOrder, Legal, PutKept, ServerEvent, Shape, point_after, after_put, ahead, client_kept_of, client_met, length-drop, length-map, map-append, nothing_put, packed_word, room_by, take-add, take_all, wrapped}
use Rattle.af_base.specs.declared.event.ClientEvent.TheVariants as client
use Rattle.af_cblk.specs.Shape.{IsShape}
use Rattle.af_client.specs.declared.write.Wrote.{Wrote}
use Rattle.af_client.specs.declared.write.Wrote.TheVariants as wrote
use Rattle.af_client.specs.Calls.{Does, Releases, wrote_call, put_by as written_by, IsCorrupt}
use Rattle.af_client.proofs.Answered.{puts_few, puts_some}
use Rattle.af_record.specs.History.{may_supply, IsSupplyList}
use Rattle.af_record.specs.Ends.{put_by, last_room, last_dead, room_seen, IsStopped, OnlyWrites, LooksFirst}

pub put_by-append : (xs ys : List ClientEvent) → put_by (xs ++ ys) ≡ put_by xs + put_by ys
put_by-append [] ys = let e : put_by ys ≡ 0 + put_by ys = omega arith in e
put_by-append (client.Release count ∷ xs) ys = let e = put_by-append xs ys in omega arith
put_by-append (client.Flush ∷ xs) ys = put_by-append xs ys
put_by-append (client.SetGain word ∷ xs) ys = put_by-append xs ys
put_by-append (client.ClearFlags old ∷ xs) ys = put_by-append xs ys
put_by-append (client.SawFlags flags ∷ xs) ys = put_by-append xs ys
put_by-append (client.SawFront front ∷ xs) ys = put_by-append xs ys
put_by-append (client.SawStatus word ∷ xs) ys = put_by-append xs ys
put_by-append (client.Poke word value ∷ xs) ys = put_by-append xs ys
put_by-append (client.Learn count ∷ xs) ys = put_by-append xs ys

module _ (size : ℕ) where
  add_more : (put a b room : ℕ) (es : List ClientEvent) → last_room size ((put + a) + b) room es ≡ last_room size (put + (a + b)) room es
  add_more put a b room es = let e : (put + a) + b ≡ put + (a + b) = omega arith in ap (λ (n : ℕ). last_room size n room es) e

  -- the room after some events, from the room before them
  pub last_room-append : (put room : ℕ) (xs ys : List ClientEvent) → last_room size put room (xs ++ ys) ≡ last_room size (put + put_by xs) (last_room size put room xs) ys
  last_room-append put room [] ys = let e : put ≡ put + 0 = omega arith in ap (λ (n : ℕ). last_room size n room ys) e
  last_room-append put room (client.Release count ∷ xs) ys = last_room-append (put + count) room xs ys ∙ add_more put count (put_by xs) (last_room size (put + count) room xs) ys
  last_room-append put room (client.Flush ∷ xs) ys = last_room-append put room xs ys
  last_room-append put room (client.SetGain word ∷ xs) ys = last_room-append put room xs ys
  last_room-append put room (client.ClearFlags old ∷ xs) ys = last_room-append put room xs ys
  last_room-append put room (client.SawFlags flags ∷ xs) ys = last_room-append put room xs ys
  last_room-append put room (client.SawFront front ∷ xs) ys = last_room-append put (room_by size put front) xs ys
  last_room-append put room (client.SawStatus word ∷ xs) ys = last_room-append put room xs ys
  last_room-append put room (client.Poke word value ∷ xs) ys = last_room-append put room xs ys
  last_room-append put room (client.Learn count ∷ xs) ys = last_room-append put room xs ys

-- whether the last look at the flags showed INVALID, after some events
last_dead-append : (dead : Bool) (xs ys : List ClientEvent) → last_dead dead (xs ++ ys) ≡ last_dead (last_dead dead xs) ys
last_dead-append dead [] ys = refl
last_dead-append dead (client.SawFlags flags ∷ xs) ys = last_dead-append (not (bit_and flags 4 == 0)) xs ys
last_dead-append dead (client.Release count ∷ xs) ys = last_dead-append dead xs ys
last_dead-append dead (client.Flush ∷ xs) ys = last_dead-append dead xs ys
last_dead-append dead (client.SetGain word ∷ xs) ys = last_dead-append dead xs ys
last_dead-append dead (client.ClearFlags old ∷ xs) ys = last_dead-append dead xs ys
last_dead-append dead (client.SawFront front ∷ xs) ys = last_dead-append dead xs ys
last_dead-append dead (client.SawStatus word ∷ xs) ys = last_dead-append dead xs ys
last_dead-append dead (client.Poke word value ∷ xs) ys = last_dead-append dead xs ys
last_dead-append dead (client.Learn count ∷ xs) ys = last_dead-append dead xs ys

module _ (size : ℕ) where
  -- what the list tells of an end that supplies
  abbrev known_of : PutKept → List ClientEvent → PutKept
  known_of k events = point_after (may_supply size) after_put k events

  known_put : (k : PutKept) (es : List ClientEvent) → (known_of k es).put ≡ k.put + put_by es
  known_put k [] = omega arith
  known_put k (client.Release count ∷ es) = let e = known_put (after_put k (client.Release count)) es in omega arith
  known_put k (client.Flush ∷ es) = known_put k es
  known_put k (client.SetGain word ∷ es) = known_put k es
  known_put k (client.ClearFlags old ∷ es) = known_put k es
  known_put k (client.SawFlags flags ∷ es) = known_put k es
  known_put k (client.SawFront front ∷ es) = known_put (after_put k (client.SawFront front)) es
  known_put k (client.SawStatus word ∷ es) = known_put k es
  known_put k (client.Poke word value ∷ es) = known_put k es
  known_put k (client.Learn count ∷ es) = known_put k es

  supply_more : (k : PutKept) (xs ys : List ClientEvent) → Legal (may_supply size) after_put k xs → Legal (may_supply size) after_put (known_of k xs) ys → Legal (may_supply size) after_put k (xs ++ ys)
  supply_more k [] ys l more = more
  supply_more k (x ∷ xs) ys l more = (l.0, supply_more (after_put k x) xs ys l.1 more)

-- ## A write

-- what a write of n frames leaves
pub record Written (p q : ClientPart) (n : ℕ) : Type 0 where
  pub writes : OnlyWrites q
  pub none : n ≡ 0 → IsStopped q
  pub some : 1 ≤ n → IsStopped q → ⊥
  pub looked : LooksFirst p.events q.events

module _ (p q : ClientPart) (only : OnlyWrites p) (same : q.shape ≡ p.shape) (more : List ClientEvent) (words : List ℕ) (events : q.events ≡ p.events ++ more) (frames : q.frames ≡ p.frames ++ words) where
  -- the list goes on
  still_writes : put_by more ≡ length words → Legal (may_supply p.shape.frames) after_put (known_of p.shape.frames nothing_put p.events) more → OnlyWrites q
  still_writes many fits =
      let a : put_by q.events ≡ put_by p.events + put_by more = ap put_by events ∙ put_by-append p.events more in
      let b : length q.frames ≡ length p.frames + length words = ap length frames ∙ length-append p.frames words in
      let c : put_by p.events ≡ length p.frames = only.counted in
      let d : put_by q.events ≡ length q.frames = omega arith in
      record {
        shape = subst (λ (k : Shape). IsShape k) (sym same) only.shape;
        from_zero = ap (λ (k : Shape). k.base) same ∙ only.from_zero;
        flat = ap (λ (k : Shape). k.wrap) same ∙ only.flat;
        list = subst (λ (x : ℕ × List ClientEvent). IsSupplyList x.0 x.1) (λ i. (ap (λ (k : Shape). k.frames) (sym same) i, sym events i)) (supply_more p.shape.frames nothing_put p.events more only.list fits);
        counted = d;
      }

  dead_is : last_dead false q.events ≡ last_dead (last_dead false p.events) more
  dead_is = ap (last_dead false) events ∙ last_dead-append false p.events more

  room_is : room_seen q ≡ last_room p.shape.frames (length p.frames) (room_seen p) more
  room_is =
      let here : 0 + put_by p.events ≡ length p.frames = (let a : put_by p.events ≡ length p.frames = only.counted in omega arith) in
      ap (λ (x : Shape × List ClientEvent). last_room x.0.frames 0 x.0.frames x.1) (λ i. (same i, events i))
      ∙ last_room-append p.shape.frames 0 p.shape.frames p.events more
      ∙ ap (λ (n : ℕ). last_room p.shape.frames n (room_seen p) more) here

-- neither by the flags nor by the front
goes_on : (q : ClientPart) → last_dead false q.events ≡ false → 1 ≤ room_seen q → IsStopped q → ⊥
goes_on q alive room (inl dead) = true≢false (sym dead ∙ alive)
goes_on q alive room (inr full) = omega arith

-- the room by a front, as the client's position tells
room_at : (size put position front filled : ℕ) → position ≡ put → filled ≡ ahead front (wrapped position) → room_by size put front ≡ size - filled
room_at size put position front filled at is = ap (λ (n : ℕ). size - ahead front (wrapped n)) (sym at) ∙ ap (λ (n : ℕ). size - n) (sym is)

module _ (c d : ClientState) (asked : List Frame) (order : IsInOrder c) (only : OnlyWrites c.pass.part) (same : d.pass.part.shape ≡ c.pass.part.shape) where
  abbrev p : ClientPart
  p = c.pass.part

  abbrev q : ClientPart
  q = d.pass.part

  at : (client_kept_of p).position ≡ length p.frames
  at = order.position_is ∙ (let a = only.from_zero in let e : p.shape.base + length p.frames ≡ length p.frames = omega arith in e)

  abbrev Wrote_ : Wrote → Type 0
  Wrote_ w = Does c (length asked) (wrote_call w) d → Releases c (map packed_word (take (written_by w) asked)) d → (IsCorrupt w → ⊥) → Written p q (written_by w)

  pub written : (w : Wrote) → Wrote_ w
  written (wrote.Put front count rest) does frames unshut =
      let some : 1 ≤ count = puts_some c (length asked) front count only.shape does.0 in
      let few : count ≤ length asked = puts_few c (length asked) front count does.0 in
      let words : List ℕ = map packed_word (take count asked) in
      let many : length words ≡ count = length-map (take count asked) packed_word ∙ length-take-le count asked few in
      let more : List ClientEvent = client.SawFlags 0 ∷ client.SawFront front ∷ client.Release count ∷ [] in
      let room = room_at p.shape.frames (length p.frames) (client_kept_of p).position front (ahead front (wrapped (client_kept_of p).position)) at refl in
      let put : (known_of p.shape.frames nothing_put p.events).put ≡ length p.frames = known_put p.shape.frames nothing_put p.events ∙ (let a : put_by p.events ≡ length p.frames = only.counted in omega arith) in
      let free = does.0.0.1 in
      let cut = does.0.2 in
      let fits : count ≤ room_by p.shape.frames (length p.frames) front = omega arith in
      let may : count ≤ room_by p.shape.frames (known_of p.shape.frames nothing_put p.events).put front = subst (λ (n : ℕ). count ≤ room_by p.shape.frames n front) (sym put) fits in
      let shown = room_is p q only same more words does.1 frames.0 in
      let left : 1 ≤ room_seen q = omega arith in
      record {
        writes = still_writes p q only same more words does.1 frames.0 (let e : count + 0 ≡ length words = omega arith in e) (tt, (tt, (may, tt)));
        none = λ x. absurd (omega arith);
        some = λ _. goes_on q (dead_is p q only same more words does.1 frames.0) left;
        looked = record { flags = 0; behind = client.SawFront front ∷ client.Release count ∷ []; is = does.1; next = λ _. (front, client.Release count ∷ [], refl) };
      }
  written (wrote.Full front) does frames unshut =
      let more : List ClientEvent = client.SawFlags 0 ∷ client.SawFront front ∷ [] in
      let room = room_at p.shape.frames (length p.frames) (client_kept_of p).position front (ahead front (wrapped (client_kept_of p).position)) at refl in
      let shown = room_is p q only same more [] does.1 frames.0 in
      let full = does.0.1 in
      let left : room_seen q ≡ 0 = omega arith in
      record {
        writes = still_writes p q only same more [] does.1 frames.0 refl (tt, (tt, tt));
        none = λ _. inr left;
        some = λ x. absurd (omega arith);
        looked = record { flags = 0; behind = client.SawFront front ∷ []; is = does.1; next = λ _. (front, [], refl) };
      }
  written (wrote.Dead flags) does frames unshut =
      let more : List ClientEvent = client.SawFlags flags ∷ [] in
      let invalid : bit_and flags 4 ≢ 0 = does.0.1 in
      record {
        writes = still_writes p q only same more [] does.1 frames.0 refl (tt, tt);
        none = λ _. inl (dead_is p q only same more [] does.1 frames.0 ∙ ap not (ne_eqb (bit_and flags 4) 0 invalid));
        some = λ x. absurd (omega arith);
        looked = record { flags = flags; behind = []; is = does.1; next = λ alive. absurd (invalid alive) };
      }
  written (wrote.Corrupt front rear) does frames unshut = absurd (unshut tt)

-- ## Further frames

-- a put goes on where the one before it ended
pub sent_on : (old now new : List ℕ) (frames : List Frame) (put count : ℕ) → put ≤ length frames → now ≡ old ++ map packed_word (take put frames)
    → new ≡ now ++ map packed_word (take count (take (length frames - put) (drop put frames)))
    → new ≡ old ++ map packed_word (take (put + count) frames)
sent_on old now new frames put count le is more =
    more
    ∙ ap (λ (l : List Frame). now ++ map packed_word (take count l)) (take_all (length frames - put) (drop put frames) (omega (arith, length-drop put frames)))
    ∙ ap (λ (l : List ℕ). l ++ map packed_word (take count (drop put frames))) is
    ∙ append_assoc old (map packed_word (take put frames)) (map packed_word (take count (drop put frames)))
    ∙ ap (λ (l : List ℕ). old ++ l) (sym (map-append packed_word (take put frames) (take count (drop put frames))))
    ∙ ap (λ (l : List Frame). old ++ map packed_word l) (sym (take-add put count frames))

-- a meeting writes nothing
pub writes_met : (p q : ClientPart) (theirs : List ServerEvent) → OnlyWrites p → q ≡ client_met p theirs → OnlyWrites q
writes_met p q theirs only is =
    let learnt : List ClientEvent = client.Learn (length theirs) ∷ [] in
    still_writes p q only (ap (λ (x : ClientPart). x.shape) is) learnt [] (ap (λ (x : ClientPart). x.events) is) (ap (λ (x : ClientPart). x.frames) is ∙ sym (append-nil p.frames)) refl (tt, tt)

-- a look first, and then another
looked_on : (a b c : List ClientEvent) → LooksFirst a b → LooksFirst b c → LooksFirst a c
looked_on a b c first more =
    let later : List ClientEvent = client.SawFlags more.flags ∷ more.behind in
    record {
      flags = first.flags;
      behind = first.behind ++ later;
      is = more.is ∙ ap (λ (es : List ClientEvent). es ++ later) first.is ∙ append_assoc a (client.SawFlags first.flags ∷ first.behind) later;
      next = λ alive. (let f = first.next alive in (f.0, f.1 ++ later, ap (λ (es : List ClientEvent). es ++ later) f.2));
    }

-- a look behind writes that began with a look, or behind none
pub looked_first : (put : ℕ) (a b c : List ClientEvent) → (put ≡ 0 → b ≡ a) → (1 ≤ put → LooksFirst a b) → LooksFirst b c → LooksFirst a c
looked_first zero a b c same looked more = subst (λ (es : List ClientEvent). LooksFirst es c) (same refl) more
looked_first (suc put) a b c same looked more = looked_on a b c (looked (omega arith)) more
