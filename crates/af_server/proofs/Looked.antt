-- What a look leaves in order.
use Rattle.std.proofs.Common.{◌&&◌, ◌^◌, ◌≡◌, ℕ, ◌+◌, ◌≤◌, ◌<◌, min, Bool, true, false, true≢false, not, nat_lt, ◌==◌, ◌||◌, if◌then◌else◌, MatchOption, Option, Some, None, fold, List, [], ◌∷◌, ◌++◌, refl, sym, ap, ◌∙◌, subst, arith, append_assoc}
use Rattle.af_server.proofs.Common.{IsServerList, Seen, ServerEvent, ServerKept, ServerPart, Shape, ahead, ahead_of, dropped, dropped_by, drops_of, flush_position, flushes_by, front_stored, is_noticed, kept_more, look_at, look_events, looks, outside, server_keeps, server_kept, shown_by, three, took}
use Rattle.af_base.specs.declared.event.ServerEvent.TheVariants as server
use Rattle.af_base.specs.declared.seen.Seen.TheVariants as seen
use Rattle.std.proofs.lemmas.Option.{none-some}
use Rattle.af_server.proofs.Basics.{no_drop}
use Rattle.af_server.specs.Order.{ServerState, Keeps, IsReady, server_kept_of, counted, IsInOrder}
use Rattle.af_server.specs.Looks.{shut_of, saw_all, stored_front}
use Rattle.af_server.proofs.Kept.{fewer}

-- ## What a look shows

-- if no new flush was seen
abbrev pub judged : Shape → ℕ → ℕ → ℕ → Seen
judged shape asked rear front = if nat_lt shape.frames (ahead front rear) then seen.Shut front rear else if rear == front then seen.Empty else seen.Frames (min asked (ahead front rear))

pub look-judged : (shape : Shape) (kept asked flush rear front : ℕ) → is_noticed shape (not (flush == kept)) rear front ≡ false → look_at shape kept asked flush rear front ≡ judged shape asked rear front
look-judged shape kept asked flush rear front none = ap (λ (b : Bool). if b then seen.Flushed (dropped_by shape.wrap flush rear front) else judged shape asked rear front) none

pub look-flushed : (shape : Shape) (kept asked flush rear front : ℕ) → is_noticed shape (not (flush == kept)) rear front ≡ true
    → look_at shape kept asked flush rear front ≡ seen.Flushed (dropped_by shape.wrap flush rear front)
look-flushed shape kept asked flush rear front new = ap (λ (b : Bool). if b then seen.Flushed (dropped_by shape.wrap flush rear front) else judged shape asked rear front) new

shut_as : (b d : Bool) (front rear count : ℕ) → shut_of (if b then seen.Shut front rear else if d then seen.Empty else seen.Frames count) ≡ (if b then Some (front, rear) else None)
shut_as true d front rear count = refl
shut_as false true front rear count = refl
shut_as false false front rear count = refl

-- ## Lists

four : (es : List ServerEvent) (a b d e : ServerEvent) → (((es ++ a ∷ []) ++ b ∷ []) ++ d ∷ []) ++ e ∷ [] ≡ es ++ a ∷ b ∷ d ∷ e ∷ []
four es a b d e = ap (λ (l : List ServerEvent). l ++ e ∷ []) (three es a b d) ∙ append_assoc es (a ∷ b ∷ d ∷ []) (e ∷ [])

-- ## How many frames are dropped

below_as : (w flush rear front : ℕ) (b c : Bool) → (nat_lt (ahead front (flush_position w flush rear)) (2 ^ 31)) ≡ c → (if b then ahead front rear else if c then ahead front (flush_position w flush rear) else 0) < 2 ^ 32
below_as w flush rear front true c e = omega arith
below_as w flush rear front false true e = omega arith
below_as w flush rear front false false e = omega arith

dropped_below : (w flush rear front : ℕ) → dropped_by w flush rear front < 2 ^ 32
dropped_below w flush rear front = below_as w flush rear front (w == 0) (nat_lt (ahead front (flush_position w flush rear)) (2 ^ 31)) refl

-- the front that a look stores lies so far past the front that it saw
stored_ahead : (w flush rear front : ℕ) → ahead front (stored_front w flush rear front) ≡ dropped_by w flush rear front
stored_ahead w flush rear front = ahead_of front (dropped_by w flush rear front) (dropped_below w flush rear front)

-- ## A new flush

noticed_is : (s : ServerPart) (flush rear front : ℕ) (b : Bool) → s.noticed ≡ false → (flush == s.flush) ≡ b → (saw_all s flush rear front).noticed ≡ not b
noticed_is s flush rear front b settled is = ap (λ (x : Bool × Bool). x.0 || not x.1) (λ i. (settled i, is i))

-- what is noticed is new
is_new : (same fits : Bool) → (not same && fits) ≡ true → same ≡ false
is_new true fits e = absurd (true≢false (sym e))
is_new false fits e = refl

pub discard_keeps : (c d : ServerState) (asked flush rear front : ℕ) → IsInOrder c → c.shut ≡ None → 1 ≤ asked → is_noticed c.pass.part.shape (not (flush == c.flush)) rear front ≡ true
    → d.pass.part ≡ front_stored (saw_all c.pass.part flush rear front) (stored_front c.pass.part.shape.wrap flush rear front)
    → d.flush ≡ flush → d.flushes ≡ flushes_by c.pass.part.shape.wrap flush → d.shown ≡ None
    → d.consumed ≡ counted (c.consumed + dropped_by c.pass.part.shape.wrap flush rear front) → d.shut ≡ None → IsInOrder d
discard_keeps c d asked flush rear front k unshut some new part flush_is flushes_is shown_is consumed_is shut_is =
    let s : ServerPart = c.pass.part in
    let kept : ServerKept = server_kept_of s in
    let shape : Shape = s.shape in
    let t : ServerPart = saw_all s flush rear front in
    let to : ℕ = stored_front shape.wrap flush rear front in
    let count : ℕ = dropped_by shape.wrap flush rear front in
    let now : is_noticed shape (not (flush == kept.flush)) rear front ≡ true = ap (λ (n : ℕ). is_noticed shape (not (flush == n)) rear front) (sym k.flush_is) ∙ new in
    let other : (flush == kept.flush) ≡ false = is_new (flush == kept.flush) _ now in
    let noticed : t.noticed ≡ true = noticed_is s flush rear front false (k.settled unshut) (ap (λ (n : ℕ). flush == n) k.seen_is ∙ other) in
    let is : d.pass.part ≡ dropped t to = part ∙ ap (λ (b : Bool). if b then dropped t to else took t to) noticed in
    let more : List ServerEvent = server.SawFlush flush ∷ server.SawRear rear ∷ server.SawFront front ∷ server.Drop to ∷ [] in
    let events : (dropped t to).events ≡ s.events ++ more = four s.events (server.SawFlush flush) (server.SawRear rear) (server.SawFront front) (server.Drop to) in
    let spelled : IsServerList shape None (s.events ++ more) =
    subst (λ (sight : Seen). IsServerList shape (shown_by sight) (s.events ++ look_events sight flush rear front)) (look-flushed shape kept.flush asked flush rear front now) (
    looks s.events c.shown asked flush rear front k.spelled (sym k.shut_is ∙ unshut) some) in
    let gives : server_kept shape (dropped t to).events ≡ fold (server_keeps shape) kept more = ap (server_kept shape) events ∙ kept_more shape s.events more in
    let done : Keeps (dropped t to) flush (flushes_by shape.wrap flush) d.front None (counted (c.consumed + count)) None =
    record {
      spelled = subst (λ (es : List ServerEvent). IsServerList shape None es) (sym events) spelled;
      flush_is = sym (ap (λ (x : ServerKept). x.flush) gives);
      seen_is = sym (ap (λ (x : ServerKept). x.flush) gives);
      flushes_is = ap (λ (b : Bool). flushes_by shape.wrap (if b then flush else kept.noticed)) (sym now) ∙ sym (ap (λ (x : ServerKept). flushes_by shape.wrap x.noticed) gives);
      settled = (λ _. refl);
      consumed_is = ap (λ (n : ℕ). counted (n + count)) k.consumed_is ∙ fewer 9223372036854775807 kept.consumed count
          ∙ ap (λ (n : ℕ). counted (kept.consumed + n)) (sym (stored_ahead shape.wrap flush rear front)) ∙ sym (ap (λ (x : ServerKept). counted x.consumed) gives);
      shut_is = sym (ap (λ (b : Bool). if b then None else outside shape.frames front rear) now) ∙ sym (ap (λ (x : ServerKept). x.shut) gives);
      ready = tt;
    } in
    subst (λ (x : ServerPart × ℕ × ℕ × Option ℕ × ℕ × Option (ℕ × ℕ)). Keeps x.0 x.1 x.2 d.front x.3 x.4 x.5) (λ i. (sym is i, sym flush_is i, sym flushes_is i, sym shown_is i, sym consumed_is i, sym shut_is i)) done

-- ## No new flush

-- if the words fit, nothing new was seen
same_as : (same flat out : Bool) → (not same && (flat || not out)) ≡ false → out ≡ false → same ≡ true
same_as true flat out none fits = refl
same_as false true out none fits = sym none
same_as false false true none fits = sym fits
same_as false false false none fits = sym none

fits_as : (b d : Bool) (front rear count : ℕ) → shut_of (if b then seen.Shut front rear else if d then seen.Empty else seen.Frames count) ≡ None → b ≡ false
fits_as true d front rear count e = absurd (none-some (front, rear) (sym e))
fits_as false d front rear count e = refl

ready_when : (s : ServerPart) (b d : Bool) (front rear count : ℕ) → (b ≡ false → IsReady s front count)
    → MatchOption (shown_by (if b then seen.Shut front rear else if d then seen.Empty else seen.Frames count)) (Unit {0}) (λ n. IsReady s front n)
ready_when s true d front rear count r = tt
ready_when s false true front rear count r = tt
ready_when s false false front rear count r = r refl

pub judge_keeps : (c d : ServerState) (asked flush rear front : ℕ) → IsInOrder c → c.shut ≡ None → 1 ≤ asked → is_noticed c.pass.part.shape (not (flush == c.flush)) rear front ≡ false
    → d.pass.part ≡ saw_all c.pass.part flush rear front
    → d.flush ≡ flush → d.flushes ≡ c.flushes → d.front ≡ front
    → d.shown ≡ shown_by (look_at c.pass.part.shape c.flush asked flush rear front)
    → d.consumed ≡ c.consumed
    → d.shut ≡ shut_of (look_at c.pass.part.shape c.flush asked flush rear front)
    → IsInOrder d
judge_keeps c d asked flush rear front k unshut some none is flush_is flushes_is front_is shown_is consumed_is shut_is =
    let s : ServerPart = c.pass.part in
    let kept : ServerKept = server_kept_of s in
    let shape : Shape = s.shape in
    let t : ServerPart = saw_all s flush rear front in
    let sight : Seen = judged shape asked rear front in
    let out : Bool = nat_lt shape.frames (ahead front rear) in
    let quiet : is_noticed shape (not (flush == kept.flush)) rear front ≡ false = ap (λ (n : ℕ). is_noticed shape (not (flush == n)) rear front) (sym k.flush_is) ∙ none in
    let shows_is : look_at shape c.flush asked flush rear front ≡ sight = look-judged shape c.flush asked flush rear front none in
    let more : List ServerEvent = server.SawFlush flush ∷ server.SawRear rear ∷ server.SawFront front ∷ [] in
    let events : t.events ≡ s.events ++ more = three s.events (server.SawFlush flush) (server.SawRear rear) (server.SawFront front) in
    let drops : drops_of sight front ≡ [] = no_drop out (rear == front) front rear (min asked (ahead front rear)) in
    let looked : IsServerList shape (shown_by sight) (s.events ++ look_events sight flush rear front) =
    subst (λ (x : Seen). IsServerList shape (shown_by x) (s.events ++ look_events x flush rear front)) (look-judged shape kept.flush asked flush rear front quiet) (
    looks s.events c.shown asked flush rear front k.spelled (sym k.shut_is ∙ unshut) some) in
    let spelled : IsServerList shape (shown_by sight) (s.events ++ more) =
    subst (λ (l : List ServerEvent). IsServerList shape (shown_by sight) (s.events ++ server.SawFlush flush ∷ server.SawRear rear ∷ server.SawFront front ∷ l)) drops looked in
    let gives : server_kept shape t.events ≡ fold (server_keeps shape) kept more = ap (server_kept shape) events ∙ kept_more shape s.events more in
    let settled : out ≡ false → t.noticed ≡ false = (λ fits.
    noticed_is s flush rear front true (k.settled unshut) (ap (λ (n : ℕ). flush == n) k.seen_is ∙ same_as (flush == kept.flush) (shape.wrap == 0) out quiet fits)) in
    let ready : out ≡ false → IsReady t front (min asked (ahead front rear)) = (λ fits.
    record { fresh = refl; front_is = refl; none_loaded = refl; settled = settled fits; in_order = (λ _. refl); within = (let e : min asked (ahead front rear) ≤ ahead front rear = omega arith in e) }) in
    let done : Keeps t flush c.flushes front (shown_by sight) c.consumed (shut_of sight) =
    record {
      spelled = subst (λ (es : List ServerEvent). IsServerList shape (shown_by sight) es) (sym events) spelled;
      flush_is = sym (ap (λ (x : ServerKept). x.flush) gives);
      seen_is = sym (ap (λ (x : ServerKept). x.flush) gives);
      flushes_is = k.flushes_is ∙ ap (λ (b : Bool). flushes_by shape.wrap (if b then flush else kept.noticed)) (sym quiet) ∙ sym (ap (λ (x : ServerKept). flushes_by shape.wrap x.noticed) gives);
      settled = (λ unshut. settled (fits_as out (rear == front) front rear (min asked (ahead front rear)) unshut));
      consumed_is = k.consumed_is ∙ sym (ap (λ (x : ServerKept). counted x.consumed) gives);
      shut_is = shut_as out (rear == front) front rear (min asked (ahead front rear))
          ∙ sym (ap (λ (b : Bool). if b then None else outside shape.frames front rear) quiet) ∙ sym (ap (λ (x : ServerKept). x.shut) gives);
      ready = ready_when t out (rear == front) front rear (min asked (ahead front rear)) ready;
    } in
    let shown' : d.shown ≡ shown_by sight = shown_is ∙ ap shown_by shows_is in
    let shut' : d.shut ≡ shut_of sight = shut_is ∙ ap shut_of shows_is in
    subst (λ (x : ServerPart × ℕ × ℕ × ℕ × Option ℕ × ℕ × Option (ℕ × ℕ)). Keeps x.0 x.1 x.2 x.3 x.4 x.5 x.6)
    (λ i. (sym is i, sym flush_is i, sym flushes_is i, sym front_is i, sym shown' i, sym consumed_is i, sym shut' i)) done
