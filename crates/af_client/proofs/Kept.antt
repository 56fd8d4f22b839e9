-- Lists that calls spell, and the values that they give.
use Rattle.std.proofs.Common.{◌≡◌, ℕ, ◌+◌, ◌%◌, ◌^◌, ◌<◌, Bool, true, false, if◌then◌else◌, Option, None, is_some, fold, List, [], ◌∷◌, ◌++◌, length, refl, sym, ap, ◌∙◌, subst, arith}
use Rattle.af_client.proofs.Common.{ClientCall, ClientEvent, ClientKept, ClientPart, ClientSide, IsClientList, Shape, begins, calls, client_begins, client_call_events, client_did, client_events_of, client_flushed, client_keeps, client_kept, client_met, flush_in, flushes_of, is_lawful, lawful_before, meets, released, wrapped}
use Rattle.std.proofs.lemmas.Grind.{fold-append}
use Rattle.af_base.specs.declared.event.ClientCall.TheVariants as call
use Rattle.af_base.specs.declared.event.ClientEvent.TheVariants as client
use Rattle.af_model.proofs.Basics.{both_lawful, flushes-append, lawful_first}
use Rattle.af_base.specs.declared.event.ServerEvent.{ServerEvent}
use Rattle.af_cblk.specs.Rule.{new_client}
use Rattle.af_client.specs.Order.{ClientState, Keeps, client_kept_of, IsInOrder}
use Rattle.af_client.specs.Calls.{Answers}

-- nothing was done yet
pub new_keeps : (k : Shape) (p : ClientPart) (rear : ℕ) → p ≡ new_client k → rear ≡ k.base → rear < 2 ^ 32 → Keeps p rear 0 0 None
new_keeps k p rear new is fits =
    subst (λ (x : ClientPart). Keeps x rear 0 0 None) (sym new) (
    record {
      spelled = begins;
      position_is = (let e : k.base ≡ k.base + 0 = omega arith in e);
      rear_is = (let e : rear ≡ (k.base + 0) % 2 ^ 32 = omega arith in e);
      flushes_are = refl;
      released_is = refl;
      shut_is = refl;
      lawful_open = λ _. refl;
    })

-- the values that a list gives, after further events
pub kept-more : (frames base : ℕ) (es more : List ClientEvent) → client_kept frames base (es ++ more) ≡ fold (client_keeps frames) (client_kept frames base es) more
kept-more frames base es more = fold-append (client_keeps frames) (client_begins base) es more

-- A call goes on from a proxy that is in order: its answer is allowed, and the values kept after it are those that its events give
pub goes_on : (c d : ClientState) (asked : ℕ) (answer : ClientCall) (more : List ClientEvent) (kept : ClientKept) → IsInOrder c → Answers c asked answer
    → client_events_of c.pass.part.shape.frames c.pass.part.shape.base c.pass.part.events answer ≡ more
    → d.pass.part.shape ≡ c.pass.part.shape
    → d.pass.part.events ≡ c.pass.part.events ++ more
    → fold (client_keeps c.pass.part.shape.frames) (client_kept_of c.pass.part) more ≡ kept
    → kept.position ≡ released d.pass.part
    → d.rear ≡ wrapped (released d.pass.part)
    → d.flushes ≡ c.flushes + flushes_of more
    → d.released ≡ length d.pass.part.frames
    → d.shut ≡ kept.shut
    → (is_lawful c.pass.part.events ≡ true → d.shut ≡ None)
    → IsInOrder d
goes_on c d asked answer more kept k a spelled same events gives position rear_is flushes_are count_is shut_is lawful =
    let p : ClientPart = c.pass.part in
    let q : ClientPart = d.pass.part in
    let list : IsClientList p.shape.frames p.shape.cells p.shape.base (p.events ++ more) = subst (λ (xs : List ClientEvent). IsClientList p.shape.frames p.shape.cells p.shape.base (p.events ++ xs)) spelled (calls p.events asked answer k.spelled a) in
    let now : client_kept q.shape.frames q.shape.base q.events ≡ kept = ap (λ (x : Shape × List ClientEvent). client_kept x.0.frames x.0.base x.1) (λ i. (same i, events i)) ∙ kept-more p.shape.frames p.shape.base p.events more ∙ gives in
    record {
      spelled = subst (λ (x : Shape × List ClientEvent). IsClientList x.0.frames x.0.cells x.0.base x.1) (λ i. (sym same i, sym events i)) list;
      position_is = ap (λ (x : ClientKept). x.position) now ∙ position;
      rear_is = rear_is;
      flushes_are = flushes_are ∙ ap (λ (n : ℕ). n + flushes_of more) k.flushes_are ∙ sym (flushes-append p.events more) ∙ ap flushes_of (sym events);
      released_is = count_is;
      shut_is = shut_is ∙ sym (ap (λ (x : ClientKept). x.shut) now);
      lawful_open = λ ok. lawful (lawful_first p.events more (subst (λ (xs : List ClientEvent). is_lawful xs ≡ true) events ok));
    }

-- a call with one event that changes no kept value but the flush count
pub did_keeps : (c d : ClientState) (asked : ℕ) (answer : ClientCall) (e : ClientEvent) → IsInOrder c → Answers c asked answer
    → client_events_of c.pass.part.shape.frames c.pass.part.shape.base c.pass.part.events answer ≡ e ∷ []
    → client_keeps c.pass.part.shape.frames (client_kept_of c.pass.part) e ≡ client_kept_of c.pass.part
    → d.pass.part ≡ client_did c.pass.part e
    → (d.rear ≡ c.rear) × (d.flushes ≡ c.flushes + flush_in e) × (d.released ≡ c.released) × (d.shut ≡ c.shut)
    → IsInOrder d
did_keeps c d asked answer e k a spelled same is counts =
    let here : released d.pass.part ≡ released c.pass.part = ap released is in
    goes_on c d asked answer (e ∷ []) (client_kept_of c.pass.part) k a spelled (ap (λ (x : ClientPart). x.shape) is) (ap (λ (x : ClientPart). x.events) is) same
    (k.position_is ∙ sym here)
    (counts.0 ∙ k.rear_is ∙ ap wrapped (sym here))
    (let m : flush_in e + 0 ≡ flush_in e = omega arith in counts.1 ∙ ap (λ (z : ℕ). c.flushes + z) (sym m))
    (counts.2 ∙ k.released_is ∙ ap (λ (x : ClientPart). length x.frames) (sym is))
    (counts.3 ∙ k.shut_is)
    (λ ok. counts.3 ∙ k.lawful_open ok)

-- a call with one event, on a value that was opened
pub word_keeps : (c i : ClientState) (pass : ClientSide) (answer : ClientCall) (e : ClientEvent) → IsInOrder c → Answers c 0 answer
    → client_events_of c.pass.part.shape.frames c.pass.part.shape.base c.pass.part.events answer ≡ e ∷ []
    → client_keeps c.pass.part.shape.frames (client_kept_of c.pass.part) e ≡ client_kept_of c.pass.part
    → i ≡ c
    → pass.part ≡ client_did i.pass.part e
    → Keeps pass.part i.rear (i.flushes + flush_in e) i.released i.shut
word_keeps c i pass answer e k a spelled same opened did =
    did_keeps c (record { pass = pass; rear = i.rear; flushes = i.flushes + flush_in e; released = i.released; shut = i.shut }) 0 answer e k a spelled same
    (did ∙ ap (λ (x : ClientState). client_did x.pass.part e) opened)
    (ap (λ (x : ClientState). x.rear) opened, ap (λ (x : ClientState). x.flushes + flush_in e) opened, ap (λ (x : ClientState). x.released) opened, ap (λ (x : ClientState). x.shut) opened)

-- the same, if it is a flush
pub flush_keeps : (c i : ClientState) (pass : ClientSide) (count : ℕ) → IsInOrder c → Answers c 0 (call.Flush count) → i ≡ c → pass.part ≡ client_flushed i.pass.part
    → Keeps pass.part i.rear (i.flushes + 1) i.released i.shut
flush_keeps c i pass count k a opened did =
    let p : ClientPart = i.pass.part in
    let one = word_keeps c i (record i.pass { part = client_did p client.Flush }) (call.Flush count) client.Flush k a refl refl opened refl in
    subst (λ (q : ClientPart). Keeps q i.rear (i.flushes + 1) i.released i.shut) (sym did) (
    record {
      spelled = one.spelled;
      position_is = one.position_is;
      rear_is = one.rear_is;
      flushes_are = one.flushes_are;
      released_is = one.released_is;
      shut_is = one.shut_is;
      lawful_open = one.lawful_open;
    })

-- the same, if it is no flush
pub quiet_keeps : (c i : ClientState) (pass : ClientSide) (answer : ClientCall) (e : ClientEvent) → IsInOrder c → Answers c 0 answer
    → client_events_of c.pass.part.shape.frames c.pass.part.shape.base c.pass.part.events answer ≡ e ∷ []
    → client_keeps c.pass.part.shape.frames (client_kept_of c.pass.part) e ≡ client_kept_of c.pass.part
    → flush_in e ≡ 0
    → i ≡ c
    → pass.part ≡ client_did i.pass.part e
    → Keeps pass.part i.rear i.flushes i.released i.shut
quiet_keeps c i pass answer e k a spelled same quiet opened did =
    let none : i.flushes + flush_in e ≡ i.flushes = omega arith in
    subst (λ (n : ℕ). Keeps pass.part i.rear n i.released i.shut) none (word_keeps c i pass answer e k a spelled same opened did)

-- nothing was done, and nothing is kept that was not
pub same_keeps : (c d : ClientState) → IsInOrder c → d.pass.part ≡ c.pass.part → (d.rear ≡ c.rear) × (d.flushes ≡ c.flushes) × (d.released ≡ c.released) → d.shut ≡ c.shut → IsInOrder d
same_keeps c d k part counts shut =
    subst (λ (x : ClientPart × ℕ × ℕ × ℕ × Option (ℕ × ℕ)). Keeps x.0 x.1 x.2 x.3 x.4) (λ i. (sym part i, sym counts.0 i, sym counts.1 i, sym counts.2 i, sym shut i)) k

-- a meeting keeps the order
pub met_keeps : (p q : ClientPart) (rear flushes count : ℕ) (shut : Option (ℕ × ℕ)) (theirs : List ServerEvent) → Keeps p rear flushes count shut → q ≡ client_met p theirs → Keeps q rear flushes count shut
met_keeps p q rear flushes count shut theirs k is =
    let learnt : List ClientEvent = client.Learn (length theirs) ∷ [] in
    let now : client_kept p.shape.frames p.shape.base (p.events ++ learnt) ≡ client_kept_of p = kept-more p.shape.frames p.shape.base p.events learnt in
    subst (λ (x : ClientPart). Keeps x rear flushes count shut) (sym is) (
    record {
      spelled = meets p.events (length theirs) k.spelled;
      position_is = ap (λ (x : ClientKept). x.position) now ∙ k.position_is;
      rear_is = k.rear_is;
      flushes_are = k.flushes_are ∙ (let n : flushes_of (p.events ++ learnt) ≡ flushes_of p.events + 0 = flushes-append p.events learnt in let m : flushes_of p.events + 0 ≡ flushes_of p.events = omega arith in sym (n ∙ m));
      released_is = k.released_is;
      shut_is = k.shut_is ∙ sym (ap (λ (x : ClientKept). x.shut) now);
      lawful_open = λ ok. k.lawful_open (lawful_before p.events (client.Learn (length theirs)) ok);
    })

-- ## Lawful calls

abbrev pub IsPoke : ClientCall → Type 0
IsPoke (call.Poke command word value) = Unit {0}
IsPoke _ = ⊥

tame_look : (was : Bool) (front : ℕ) → is_lawful (if was then [] else client.SawFlags 0 ∷ client.SawFront front ∷ []) ≡ true
tame_look true front = refl
tame_look false front = refl

tame_call : (was : Bool) (answer : ClientCall) → (IsPoke answer → ⊥) → is_lawful (client_call_events was answer) ≡ true
tame_call was (call.Corrupt front rear) calm = tame_look was front
tame_call was (call.SendCorrupt front rear) calm = tame_look was front
tame_call was (call.Poke command word value) calm = absurd (calm tt)
tame_call was _ calm = refl

-- a call that is no poke leaves a lawful list lawful
pub lawful_call : (frames base : ℕ) (es : List ClientEvent) (answer : ClientCall) → (IsPoke answer → ⊥) → is_lawful es ≡ true → is_lawful (es ++ client_events_of frames base es answer) ≡ true
lawful_call frames base es answer calm ok = both_lawful es _ ok (tame_call (is_some (client_kept frames base es).shut) answer calm)
