-- A call with both ends in one hand answers as the plain queue does, and leaves the ends as it says.
use Rattle.std.proofs.Common.{◌≡◌, ℕ, ◌+◌, ◌<◌, ◌==◌, ◌&&◌, ◌||◌, not, if◌then◌else◌, Bool, true, false, List, [], ◌∷◌, ◌++◌, Option, Some, None, is_some, slice_set, refl, ap, sym, ◌∙◌, subst, arith, eq-eqb, ne_eqb, append_assoc, length-set}
use Rattle.af_stateq.proofs.Common.{Ack, HasStateHistory, MutatorEvent, Nowhere, ObserverEvent, Pending, Place, Push, QueueAnswer, QueueCall, QueueState, SawAck, SawNext, SeeAck, Send, Take, allowed_step, attached, both as and_one, carries, detached, is_allowed, is_placed, left, let_go, map-set, map-set_same, moved_from, mutated, not_true, observed, place_at, readiness, returned_of, set-get_or, shown, slots}
use mathlib.Core.Logic.{dite}
use native.Mathlib.Decide.{ℕ_discrete}
use Rattle.af_base.specs.declared.state.Push.{Push as PushAnswer}
use Rattle.af_base.specs.declared.state.Push.TheVariants as pushing
use Rattle.af_model.specs.declared.states.MutatorEvent.TheVariants as mutator
use Rattle.af_model.specs.declared.states.ObserverEvent.TheVariants as observer
use Rattle.af_model.specs.declared.plain_calls.Poll.{Poll}
use Rattle.af_model.specs.declared.plain_calls.Poll.TheVariants as polling
use Rattle.af_model.specs.declared.plain_calls.QueueCall.TheVariants as call
use Rattle.af_model.specs.declared.plain_calls.QueueAnswer.TheVariants as answer
use Rattle.af_model.specs.PlainQueue.{step}
use Rattle.af_stateq.specs.Shelved.{word}
use Rattle.af_stateq.specs.Ends.{Pushes, Polls, saw, looked, took, acknowledged}
use Rattle.af_stateq.specs.Mutates.{Mutates, at, is_out, InDraft}
use Rattle.af_stateq.specs.Observes.{Observes}
use Rattle.af_stateq.specs.Answers.{shows, WasPushed, WasAcked, WasPolled, sees_same}
use Rattle.af_stateq.specs.OneHand.{AreAt, HaveMet, plain_of, Agrees, ready_of, Made, Tried, items_going, items_coming}
use Rattle.af_stateq.proofs.Slots.{both_ways, none_back, on_shelf}
use Rattle.af_stateq.proofs.InPlaces.{is_placed-left, is_placed-let_go, attach_at, detach_at, take_at}
use Rattle.af_stateq.proofs.EndEvents.{look_is_exact, ack_is_exact}
use Rattle.af_stateq.proofs.EndMoves.{Each, set_each, out_is, sees_it, sees_nothing, sees_older, shows_it, looks, takes, meets}

module _ {P K : Type 0} (m : Mutates P K) (o : Observes P K) (places : List (Place P)) (here : AreAt places m o) where
  abbrev q : QueueState P
  q = plain_of m o places

  -- the ends answered so and are the plain queue that the call leaves
  abbrev Kept : QueueCall P → QueueAnswer P → Mutates P K → Observes P K → Type 0
  Kept c a m' o' = (after : List (Place P)) × AreAt after m' o' × ((a, plain_of m' o' after) ≡ allowed_step q c)

  kept_as : (c : QueueCall P) (a : QueueAnswer P) (m' : Mutates P K) (o' : Observes P K) (a0 : QueueAnswer P) (m0 : Mutates P K) (o0 : Observes P K) → a ≡ a0 → m' ≡ m0 → o' ≡ o0 → Kept c a0 m0 o0 → Kept c a m' o'
  kept_as c a m' o' a0 m0 o0 ea em eo k = subst (λ (t : QueueAnswer P × Mutates P K × Observes P K). Kept c t.0 t.1 t.2) (λ i. (sym ea i, sym em i, sym eo i)) k

  module _ (met : HaveMet m.past o.past) where
    abbrev HasOrder : Pushes P K → Polls P K → Type 0
    HasOrder m' o' = HasStateHistory m'.first m'.events o'.events

    -- what a look at the acknowledgement found, if more events follow it
    older_is : (a : ℕ) (rest : List (MutatorEvent P)) → HasStateHistory m.past.first (m.past.events ++ SawAck a [] ∷ rest) o.past.events → a ≡ o.past.number
    older_is a rest h = (ack_is_exact m.past o.past here.in_step met a [] rest h).0

    found_it : (items : List (Option P)) (rest : List (MutatorEvent P)) → HasStateHistory m.past.first (m.past.events ++ SawAck m.past.number items ∷ rest) o.past.events → (o.past.number ≡ m.past.number) × (items ≡ items_coming m.past o.past)
    found_it items rest h = let e = ack_is_exact m.past o.past here.in_step met m.past.number items rest h in (sym e.0, e.1 refl)

    acked_call : (b : Bool) (m' : Mutates P K) → WasAcked m b m' → HasOrder m'.past o.past → Kept call.Acked (answer.Acked b) m' o
    acked_call true m' w h =
        let items = w.0 in
        let n = m.past.number in
        let m0 : Mutates P K = record m { past = saw n items m.past; returned = m'.returned } in
        let f = found_it items [] (subst (λ (z : Mutates P K). HasOrder z.past o.past) w.1 h) in
        let e = eq-eqb o.past.number n f.0 in
        kept_as call.Acked _ m' o _ m0 o refl w.1 refl (
          moved_from SeeAck 0 places,
          sees_it m o places here items m'.returned w.2 f.0 f.1,
          λ i. (answer.Acked (sym e i), if sym e i then record q { places = moved_from SeeAck 0 places } else q),
        )
    acked_call false m' w h =
        let a = w.0 in
        let m0 : Mutates P K = record m { past = saw a [] m.past } in
        let f = older_is a [] (subst (λ (z : Mutates P K). HasOrder z.past o.past) w.1.2 h) in
        let e = ne_eqb o.past.number m.past.number (λ z. let y = w.1.1 in omega arith) in
        kept_as call.Acked _ m' o _ m0 o refl w.1.2 refl (
          places,
          sees_older m o places here a f w.1.1,
          λ i. (answer.Acked (sym e i), if sym e i then record q { places = moved_from SeeAck 0 places } else q),
        )

    -- the answer and the state of a push, by whether the draft is dirty and the last push acknowledged
    abbrev push_by : Bool → Bool → QueueAnswer P × QueueState P
    push_by dirty acked = let seen = if acked then record q { places = moved_from SeeAck 0 places } else q in (
      answer.Pushed (if not dirty then pushing.Clean else if acked then pushing.Pushed (m.past.number + 1) else pushing.Busy (word o.past.number) (word m.past.number)),
      if dirty && acked then shown seen else q,
    )

    push_call : (m.past.number ≡ 0 → m.past.clear ≡ true) → (p : PushAnswer) (st st' : ℕ) (m' : Mutates P K) → WasPushed m p m' st st' → HasOrder m'.past o.past → Kept call.Push (answer.Pushed p) m' o
    push_call begins pushing.Clean st st' m' w h = kept_as call.Push _ m' o _ m o refl w.1 refl (places, here, λ i. push_by (sym w.0 i) (o.past.number == m.past.number))
    push_call begins (pushing.Busy seen expected) st st' m' w h =
        let a = w.3.0 in
        let older = w.3.2 in
        let m0 : Mutates P K = record m { past = saw a [] m.past } in
        let f = older_is a [] (subst (λ (z : Mutates P K). HasOrder z.past o.past) older.2 h) in
        let e = ne_eqb o.past.number m.past.number (λ z. let y = older.1 in omega arith) in
        kept_as call.Push _ m' o (answer.Pushed (pushing.Busy (word o.past.number) (word m.past.number))) m0 o
        (λ i. answer.Pushed (pushing.Busy ((w.3.1 ∙ ap word f) i) (w.1 i))) older.2 refl (places, sees_older m o places here a f older.1, λ i. push_by (sym w.0 i) (sym e i))
    push_call begins (pushing.Pushed number) st st' m' w h = dite (ℕ_discrete m.past.number 0)
        (λ z.
        let same : o.past.number ≡ m.past.number = (let l = here.in_step.level in omega arith) in
        let e = eq-eqb o.past.number m.past.number same in
        let clear = begins z in
        let none : items_coming m.past o.past ≡ [] = ap (λ b. if b || not (o.past.number == m.past.number) then [] else (observed o.past.events).given) clear in
        kept_as call.Push _ m' o (answer.Pushed (pushing.Pushed (m.past.number + 1))) (shows m) o (ap (λ k. answer.Pushed (pushing.Pushed k)) w.1) (w.2 z).0 refl (
          moved_from Send 0 (moved_from SeeAck 0 places),
          shows_it m o (moved_from SeeAck 0 places) (sees_nothing m o places here none) same clear,
          λ i. push_by (sym w.0 i) (sym e i),
        ))
        (λ nz.
        let t = w.3 (omega arith) in
        let x = t.0 in
        let items = t.1.0 in
        let m0 : Mutates P K = record m { past = saw m.past.number items m.past; returned = x.returned } in
        let em : m' ≡ shows m0 = t.2 ∙ ap shows t.1.1 in
        let f = found_it items (Push (m.past.number + 1) m.draft m.pending ∷ [])
        (subst (λ (l : List (MutatorEvent P)). HasStateHistory m.past.first l o.past.events) (append_assoc m.past.events (SawAck m.past.number items ∷ []) (Push (m.past.number + 1) m.draft m.pending ∷ [])) (subst (λ (z : Mutates P K). HasOrder z.past o.past) em h)) in
        let e = eq-eqb o.past.number m.past.number f.0 in
        kept_as call.Push _ m' o (answer.Pushed (pushing.Pushed (m.past.number + 1))) (shows m0) o (ap (λ k. answer.Pushed (pushing.Pushed k)) w.1) em refl (
          moved_from Send 0 (moved_from SeeAck 0 places),
          shows_it m0 o (moved_from SeeAck 0 places) (sees_it m o places here items x.returned t.1.2 f.0 f.1) f.0 (eq-eqb (word m.past.number) (word m.past.number) refl),
          λ i. push_by (sym w.0 i) (sym e i),
        ))

    abbrev poll_by : Bool → Bool → QueueAnswer P × QueueState P
    poll_by acked none = (
      answer.Polled (if acked then (if none then polling.Nothing else polling.Same) else polling.New m.past.number),
      if acked then q else record q { number = m.past.number; current = Some m.past.last; previous = o.current; places = moved_from (Take m.past.last) 0 places },
    )

    same_number : HasOrder m.past (looked o.past) → o.past.number ≡ m.past.number
    same_number h = (look_is_exact m.past o.past here.in_step met o.past.number None [] [] h).0

    poll_call : (p : Poll) (st st' : ℕ) (o' : Observes P K) → WasPolled o p o' st st' → HasOrder m.past o'.past → Kept call.Poll (answer.Polled p) m o'
    poll_call polling.Nothing st st' o' w h =
        let same = same_number (subst (λ (z : Observes P K). HasOrder m.past z.past) w.1 h) in
        let e = eq-eqb o.past.number m.past.number same in
        let f = eq-eqb m.past.number 0 (sym same ∙ w.0) in
        kept_as call.Poll _ m o' _ m (sees_same o) refl refl w.1 (places, looks m o places here, λ i. poll_by (sym e i) (sym f i))
    poll_call polling.Same st st' o' w h =
        let same = same_number (subst (λ (z : Observes P K). HasOrder m.past z.past) w.1 h) in
        let e = eq-eqb o.past.number m.past.number same in
        let f = ne_eqb m.past.number 0 (λ z. let l = w.0 in omega arith) in
        kept_as call.Poll _ m o' _ m (sees_same o) refl refl w.1 (places, looks m o places here, λ i. poll_by (sym e i) (sym f i))
    poll_call (polling.New number) st st' o' w h =
        let x = w.1.0 in
        let came = w.1.1.0 in
        let back = w.1.1.1 in
        let eo = w.1.1.2 in
        let o0 : Observes P K = record { past = acknowledged back (took x came o.past); current = Some x; previous = o.current; items = o'.items } in
        let f = look_is_exact m.past o.past here.in_step met (o.past.number + 1) (Some x) came (Ack (o.past.number + 1) back ∷ [])
        (subst (λ (l : List (ObserverEvent P)). HasStateHistory m.past.first m.past.events l) (append_assoc o.past.events (SawNext (o.past.number + 1) (Some x) came ∷ []) (Ack (o.past.number + 1) back ∷ [])) (subst (λ (z : Observes P K). HasOrder m.past z.past) eo h)) in
        let e = ne_eqb o.past.number m.past.number (λ z. let y = f.0 in omega arith) in
        let brought : came ≡ items_going m.past o.past = f.1.1 ∙ ap (λ b. if b then [] else (mutated m.past.first m.past.events).items) (sym e) in
        kept_as call.Poll _ m o' (answer.Polled (polling.New m.past.number)) m o0 (ap (λ k. answer.Polled (polling.New k)) (w.0 ∙ f.0)) refl eo (
          moved_from (Take x) 0 places,
          takes m o places here x came back (Some x) o.current o'.items w.1.1.3 f.0 brought,
          (λ i. (
            answer.Polled (polling.New m.past.number),
            record q { number = f.0 i; current = Some (f.1.0 i); previous = o.current; places = moved_from (Take (f.1.0 i)) 0 places },
          )) ∙ (λ i. poll_by (sym e i) (m.past.number == 0)),
        )

module _ {P K : Type 0} (fits : K → ℕ → P → Type 0) (m : Mutates P K) (o : Observes P K) (places : List (Place P)) (here : AreAt places m o) (draft : InDraft fits m) where
  abbrev going : List (Option P)
  going = items_going m.past o.past

  abbrev coming : List (Option P)
  coming = items_coming m.past o.past

  abbrev Stays : QueueCall P → QueueAnswer P → Mutates P K → Observes P K → Type 0
  Stays c a m' o' = Kept m o places here c a m' o'

  attach_call : (slot : ℕ) (mono : Bool) (scale track : ℕ) (item : P) → slot < slots → is_out m.out slot ≡ false
      → Stays (call.Attach slot mono scale track item) answer.Done record m { draft = attached slot mono scale track m.draft; edited = true; pending = slice_set m.pending slot (Some item); out = slice_set m.out slot true } o
  attach_call slot mono scale track item lt free =
      let pl = place_at places slot in
      let nowhere : is_placed pl ≡ false = sym (out_is m o places here slot lt) ∙ free in (
        slice_set places slot (Pending item),
        record {
          in_step = here.in_step;
          whole = length-set places slot (Pending item) ∙ here.whole;
          out = map-set is_placed places slot (Pending item) ∙ ap (λ l. slice_set l slot true) here.out;
          each = subst (λ (l : List (Option P)). Each places m.pending going o.items coming m.returned (slice_set places slot (Pending item)) (slice_set m.pending slot (Some item)) l) (set-get_or m.returned slot None)
              (set_each places m.pending going o.items coming m.returned here.whole draft.lengths.0 draft.lengths.1 here.each slot lt (Pending item) (Some item) (at m.returned slot) (attach_at _ _ _ _ _ pl (here.each slot lt) nowhere item));
        },
        refl,
      )

  detach_call : (slot : ℕ) → slot < slots → carries m.draft slot ≡ true
      → Stays (call.Detach slot) answer.Done record m { draft = detached slot m.draft; edited = true; pending = slice_set m.pending slot None; returned = slice_set m.returned slot (at m.pending slot) } o
  detach_call slot lt on =
      let pl = place_at places slot in (
        slice_set places slot (let_go pl),
        record {
          in_step = here.in_step;
          whole = length-set places slot (let_go pl) ∙ here.whole;
          out = map-set_same is_placed places slot (let_go pl) Nowhere (is_placed-let_go pl) ∙ here.out;
          each = set_each places m.pending going o.items coming m.returned here.whole draft.lengths.0 draft.lengths.1 here.each slot lt (let_go pl) None (at m.pending slot)
              (detach_at _ _ _ _ _ pl (here.each slot lt) (none_back _ _ _ _ _ _ _ _ _ _ (draft.each slot lt) on));
        },
        refl,
      )

  take_call : (slot : ℕ) → slot < slots
      → Stays (call.TakeBack slot) (answer.TakenBack (at m.returned slot)) record m { returned = slice_set m.returned slot None; out = slice_set m.out slot (is_out m.out slot && not (is_some (at m.returned slot))) } o
  take_call slot lt =
      let pl = place_at places slot in
      let back : at m.returned slot ≡ returned_of pl = (here.each slot lt).returned in
      let rests : is_placed (left pl) ≡ (is_out m.out slot && not (is_some (at m.returned slot))) = is_placed-left pl ∙ (λ i. sym (out_is m o places here slot lt) i && not (is_some (sym back i))) in (
        slice_set places slot (left pl),
        record {
          in_step = here.in_step;
          whole = length-set places slot (left pl) ∙ here.whole;
          out = map-set is_placed places slot (left pl) ∙ (λ i. slice_set (here.out i) slot (rests i));
          each = subst (λ (l : List (Option P)). Each places m.pending going o.items coming m.returned (slice_set places slot (left pl)) l (slice_set m.returned slot None)) (set-get_or m.pending slot None)
              (set_each places m.pending going o.items coming m.returned here.whole draft.lengths.0 draft.lengths.1 here.each slot lt (left pl) (at m.pending slot) None (take_at _ _ _ _ _ pl (here.each slot lt)));
        },
        λ i. (answer.TakenBack (back i), record (plain_of m o places) { places = slice_set places slot (left pl) }),
      )

  module _ (met : HaveMet m.past o.past) where
    -- a call that is allowed
    made_call : (c : QueueCall P) (a : QueueAnswer P) (m' : Mutates P K) (o' : Observes P K) → Made c m o a m' o' → is_allowed (ready_of m o) c ≡ true → HasStateHistory m'.past.first m'.past.events o'.past.events → Stays c a m' o'
    made_call call.Begin a m' o' w on h = kept_as m o places here call.Begin a m' o' _ _ o w.0 w.1 w.2 (places, record { in_step = here.in_step; whole = here.whole; out = here.out; each = here.each }, refl)
    made_call (call.SetCommand c) a m' o' w on h = kept_as m o places here (call.SetCommand c) a m' o' _ _ o w.0 w.1 w.2 (places, record { in_step = here.in_step; whole = here.whole; out = here.out; each = here.each }, refl)
    made_call (call.Attach slot mono scale track item) a m' o' w on h =
        let free = and_one _ _ (and_one _ _ (and_one _ _ (and_one _ _ on).0).0).0 in
        kept_as m o places here (call.Attach slot mono scale track item) a m' o' _ _ o w.0 w.1 w.2 (attach_call slot mono scale track item (on_shelf slot (and_one _ _ free.0).1).1 (not_true _ free.1))
    made_call (call.Detach slot) a m' o' w on h =
        let active = and_one _ _ (and_one _ _ on).0 in
        kept_as m o places here (call.Detach slot) a m' o' _ _ o w.0 w.1 w.2 (detach_call slot (on_shelf slot (and_one _ _ active.0).1).1 active.1)
    made_call (call.End did_modify) a m' o' w on h = kept_as m o places here (call.End did_modify) a m' o' _ _ o w.0 w.1 w.2 (places, record { in_step = here.in_step; whole = here.whole; out = here.out; each = here.each }, refl)
    made_call call.Push a m' o' w on h = kept_as m o places here call.Push a m' o' _ m' o w.3 refl w.5
        (push_call m o places here met draft.begins w.0 w.1 w.2 m' w.4 (subst (λ (z : Observes P K). HasStateHistory m'.past.first m'.past.events z.past.events) w.5 h))
    made_call call.Acked a m' o' w on h = kept_as m o places here call.Acked a m' o' _ m' o w.1 refl w.3
        (acked_call m o places here met w.0 m' w.2 (subst (λ (z : Observes P K). HasStateHistory m'.past.first m'.past.events z.past.events) w.3 h))
    made_call (call.TakeBack slot) a m' o' w on h = kept_as m o places here (call.TakeBack slot) a m' o' _ _ o w.0 w.1 w.2 (take_call slot (on_shelf slot on).1)
    made_call call.Poll a m' o' w on h = kept_as m o places here call.Poll a m' o' _ m o' w.3 w.5 refl
        (poll_call m o places here met w.0 w.1 w.2 o' w.4 (subst (λ (z : Mutates P K). HasStateHistory z.past.first z.past.events o'.past.events) w.5 h))

    abbrev Answered : QueueState P → QueueCall P → QueueAnswer P → Mutates P K → Observes P K → Type 0
    Answered q c a m' o' = (a ≡ (step q c).0) × Agrees (step q c).1 m' o'

    abbrev step_by : QueueCall P → Bool → QueueAnswer P × QueueState P
    step_by c allowed = if allowed then allowed_step (plain_of m o places) c else (answer.NotAllowed c, plain_of m o places)

    ready_is : readiness (plain_of m o places) ≡ ready_of m o
    ready_is i = record { draft = m.draft; editing = m.editing; edited = m.edited; out = here.out i; pushed = m.past.number; number = o.past.number }

    answered : (c : QueueCall P) (a : QueueAnswer P) (m' : Mutates P K) (o' : Observes P K) (b : Bool) (after : List (Place P)) → is_allowed (ready_of m o) c ≡ b → AreAt after m' o' → (a, plain_of m' o' after) ≡ step_by c b → Answered (plain_of m o places) c a m' o'
    answered c a m' o' b after is at_after e =
        let all : (a, plain_of m' o' after) ≡ step (plain_of m o places) c = e ∙ ap (step_by c) (sym is) ∙ ap (λ r. step_by c (is_allowed r c)) (sym ready_is) in
        (ap (λ (t : QueueAnswer P × QueueState P). t.0) all, subst (λ (z : QueueState P). Agrees z m' o') (ap (λ (t : QueueAnswer P × QueueState P). t.1) all) (refl, at_after))

    pub tried_call : (c : QueueCall P) (a : QueueAnswer P) (m' : Mutates P K) (o' : Observes P K) → Tried c m o a m' o' → HasStateHistory m'.past.first m'.past.events o'.past.events → Answered (plain_of m o places) c a m' o'
    tried_call c a m' o' w h = both_ways (is_allowed (ready_of m o) c)
        (λ t. let k = made_call c a m' o' (w.made t) t h in answered c a m' o' true k.0 t k.1 k.2)
        (λ f. let r = w.refused f in answered c a m' o' false places f (subst (λ (z : Mutates P K × Observes P K). AreAt places z.0 z.1) (λ i. (sym r.1 i, sym r.2 i)) here) (λ i. (r.0 i, plain_of (r.1 i) (r.2 i) places)))

-- a call answers as the plain queue does, and leaves the ends as it says
pub call_answers : {P K : Type 0} (fits : K → ℕ → P → Type 0) (q : QueueState P) (c : QueueCall P) (m : Mutates P K) (o : Observes P K) (a : QueueAnswer P) (m' : Mutates P K) (o' : Observes P K)
    → Agrees q m o → InDraft fits m → HaveMet m.past o.past → Tried c m o a m' o' → HasStateHistory m'.past.first m'.past.events o'.past.events → (a ≡ (step q c).0) × Agrees (step q c).1 m' o'
call_answers {P = P} {K = K} fits queue c m o a m' o' agrees draft met tried h =
    subst (λ (z : QueueState P). (a ≡ (step z c).0) × Agrees (step z c).1 m' o') (sym agrees.0) (tried_call fits m o queue.places agrees.1 draft met c a m' o' tried h)

-- and a meeting leaves them so
pub meeting_agrees : {P K : Type 0} (q : QueueState P) (m : Mutates P K) (o : Observes P K) (m' : Mutates P K) (o' : Observes P K) (c d : ℕ) → Agrees q m o
    → m' ≡ record m { past = record m.past { events = m.past.events ++ mutator.Learn d ∷ [] } } → o' ≡ record o { past = record o.past { events = o.past.events ++ observer.Learn c ∷ [] } } → Agrees q m' o'
meeting_agrees {P = P} {K = K} queue m o m' o' c d agrees em eo = subst (λ (t : Mutates P K × Observes P K). Agrees queue t.0 t.1) (λ i. (sym em i, sym eo i)) (agrees.0, meets m o queue.places agrees.1 c d)
