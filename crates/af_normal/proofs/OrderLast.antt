-- A whole turn keeps the order.
use Rattle.std.proofs.Common.{◌≡◌, ℕ, zero, suc, ◌+◌, ◌<◌, ◌≤◌, ◌&&◌, Bool, true, false, MatchBool, nat_le, inl, inr, sym, refl, ap, subst, ◌∙◌, List, length, Some, arith}
use Rattle.af_normal.proofs.Common.{AreUpTo, Busy, Clean, HandSide, IsSmall, IsSmallTurn, IsStreamOf, Learnt, Links, Mutates, NormalKept, Push, Pushed, Report, SeesIt, ServerState, Setup, StreamNames, TrackKept, TrackSeen, WasPushed, asked, cases_lt, commands_exit, learnt, seen_at, served_to, shows, slice_get_within, track_at, turn_of, turn_small}
use Rattle.af_normal.specs.AllMixed.{HasTakes}
use Rattle.af_normal.specs.Mixing.{Mixing, MixesTo, stream_at}
use Rattle.af_normal.specs.Mutating.{Pushes}
use Rattle.af_normal.specs.Order.{HaveFewLooks, HaveHands, HasTurns, IsTied, IsInOrder}
use Rattle.af_normal.specs.State.{NormalState, setup_of, kept_of}
use Rattle.af_normal.specs.TurnMade.{mixing_of}
use Rattle.af_normal.proofs.LegalMade.{IsMade, going_l, done, mix, told, tells, outside, c, k, turns, p_tied, setup_of_p, setup_of_l, p_same, z_same, turn_kept}
use Rattle.af_normal.proofs.LegalGrows.{y_same, q_same, home_same}
use Rattle.af_normal.proofs.OrderDone.{tied_played}
use Rattle.af_normal.proofs.OrderServed.{long as served_long}
use Rattle.af_normal.proofs.OrderTurn.{few_looks, pushed_looks, seen_past}
use Rattle.af_normal.proofs.OwnLooks.{IsFew, mixed_few}

-- a push edits nothing
push_idle : (push : Push) (x y : NormalState) → Pushes push x y → y.mutator.editing ≡ x.mutator.editing
push_idle push x y w = by_answer push w.pushed
  where
    by_number : (n : ℕ) → x.mutator.past.number ≡ n
        → (x.mutator.past.number ≡ 0 → (y.mutator ≡ shows x.mutator) × (w.after ≡ w.before + 1))
        → (0 < x.mutator.past.number → (v : Mutates ServerState StreamNames) × SeesIt x.mutator v × (y.mutator ≡ shows v) × (w.after ≡ w.before + 2))
        → y.mutator.editing ≡ x.mutator.editing
    by_number zero is first later = ap (λ (m : Mutates ServerState StreamNames). m.editing) (first is).0
    by_number (suc n) is first later = let l = later (omega arith) in ap (λ (m : Mutates ServerState StreamNames). m.editing) l.2 ∙ ap (λ (m : Mutates ServerState StreamNames). m.editing) l.1.1

    by_answer : (p : Push) → WasPushed x.mutator p y.mutator w.before w.after → y.mutator.editing ≡ x.mutator.editing
    by_answer Clean d = ap (λ (m : Mutates ServerState StreamNames). m.editing) d.1
    by_answer (Pushed number) d = by_number x.mutator.past.number refl d.2 d.3
    by_answer (Busy seen expected) d = ap (λ (m : Mutates ServerState StreamNames). m.editing) d.3.2.2

module _ (links : Links) (t : ℕ) (x : NormalState) (ack : Bool) (report : Report) (room : ℕ) (push : Push) (y : NormalState) (made : IsMade links t x ack report room push y) where
  abbrev l : NormalState
  l = made.goes_on.rest.learnt

  abbrev s : NormalState
  s = made.goes_on.rest.served

  abbrev z : NormalState
  z = made.goes_on.rest.edited

  abbrev p : NormalState
  p = made.goes_on.rest.pushed

  abbrev q : NormalState
  q = made.goes_on.rest.played

  abbrev cs : Setup
  cs = c links t x ack report room push y made

  abbrev ks : Learnt
  ks = k links t x ack report room push y made

  abbrev ts : List TrackSeen
  ts = turns links t x ack report room push y made

  few_told : IsSmallTurn (told links t x ack report room push y made)
  few_told = record {
    looks = (λ i. elim (cases_lt i (length l.tracks)) as (λ d. length (seen_at ts i).looks ≤ 64) [
      | inl lt ↦ few_looks cs ks (seen_at ts i) (served_to cs ks ts l.tracks i) i ((done links t x ack report room push y made).parts i lt).legal
      | inr le ↦ let n : length (seen_at ts i).looks ≡ 0 = ap (λ (seen : TrackSeen). length seen.looks) (seen_past ts i (let m = (done links t x ack report room push y made).count in omega arith)) in omega arith
    ]);
    mixes = (let f = (mix links t x ack report room push y made).1.few in let n = (p_tied links t x ack report room push y made).sizes.few in omega arith);
  }

  setup_of_y : setup_of y ≡ setup_of x
  setup_of_y = ap setup_of (y_same links t x ack report room push y made) ∙ ap setup_of (q_same links t x ack report room push y made) ∙ setup_of_p links t x ack report room push y made ∙ setup_of_l links t x ack report room push y made

  tracks_y : y.tracks ≡ q.tracks
  tracks_y = ap (λ (w : NormalState). w.tracks) (y_same links t x ack report room push y made)

  -- the numbers are small after one turn more
  pub small_done : x.ended ≡ false → (commands_exit x.mutator.past.last && ack) ≡ false → IsSmall (t + 1) (setup_of y) (kept_of y)
  small_done lives no_exit = subst (λ (d : Setup × NormalKept). IsSmall (t + 1) d.0 d.1) (λ i. (sym setup_of_y i, sym (turn_kept links t x ack report room push y made lives no_exit) i))
      (turn_small (setup_of x) t (learnt (outside links t x ack report room push y made)) (turn_of y.entry) (kept_of x) made.going.small (subst IsSmallTurn (sym (tells links t x ack report room push y made)) few_told))

  -- and at most one look of each track was not told
  looks_done : HaveFewLooks q.tracks
  looks_done = by_room (nat_le (asked (setup_of p)) room) made.goes_on.rest.plays.mixes
    where
      few : (i : ℕ) → IsFew (track_at p.tracks i)
      few = pushed_looks links t l (going_l links t x ack report room push y made) report s made.goes_on.rest.serves made.own room z made.goes_on.rest.edits push p made.goes_on.rest.pushes

      by_room : (b : Bool) → MatchBool b (MixesTo (asked (setup_of p)) (length p.tracks) (mixing_of p) (mixing_of q)) (mixing_of q ≡ mixing_of p) → HaveFewLooks q.tracks
      by_room true mixes = mixed_few (asked (setup_of p)) (mixing_of p) few (λ i. ((p_tied links t x ack report room push y made).sound.slotted i).homely) (length p.tracks) (mixing_of q) mixes
      by_room false same = λ i. subst (λ (w : Mixing). AreUpTo 1 (track_at w.tracks i).own) (sym same) (few i).0

  turns_y : y.turns ≡ t + 1
  turns_y = ap (λ (w : NormalState). w.turns) (y_same links t x ack report room push y made) ∙ ap (λ (w : NormalState). w.turns) (q_same links t x ack report room push y made)
      ∙ ap (λ (w : NormalState). w.turns) (p_same links t x ack report room push y made) ∙ ap (λ (w : NormalState). w.turns) (z_same links t x ack report room push y made)
      ∙ ap (λ (w : NormalState). w.turns) made.goes_on.rest.serves.same ∙ ap (λ (w : NormalState). w.turns) made.goes_on.rest.learns.same ∙ ap (λ (w : NormalState). w.turns) (home_same links t x ack report room push y made) ∙ made.going.next

  hands_y : y.hands ≡ s.hands
  hands_y = ap (λ (w : NormalState). w.hands) (y_same links t x ack report room push y made) ∙ ap (λ (w : NormalState). w.hands) (q_same links t x ack report room push y made)
      ∙ ap (λ (w : NormalState). w.hands) (p_same links t x ack report room push y made) ∙ ap (λ (w : NormalState). w.hands) (z_same links t x ack report room push y made)

  idle_y : y.mutator.editing ≡ false
  idle_y = ap (λ (w : NormalState). w.mutator.editing) (y_same links t x ack report room push y made) ∙ ap (λ (w : NormalState). w.mutator.editing) (q_same links t x ack report room push y made)
      ∙ push_idle push z p made.goes_on.rest.pushes ∙ ap (λ (w : NormalState). w.mutator.editing) made.goes_on.rest.edits.leaves

  -- each track still has its hand
  hands_done : HaveHands links.streams.now (length s.tracks) s.hands
  hands_done = let n : length s.tracks ≡ length l.tracks = served_long links report l s (going_l links t x ack report room push y made).tied made.goes_on.rest.serves (done links t x ack report room push y made) made.own in record {
    whole = (done links t x ack report room push y made).long.2 ∙ (going_l links t x ack report room push y made).hands.whole ∙ sym n;
    flags_of = (λ i flag is. (made.own i (let w = slice_get_within s.hands i flag is in let h = (done links t x ack report room push y made).long.2 in let g = (going_l links t x ack report room push y made).hands.whole in omega arith)).flag_is flag is);
  }

  -- The turn keeps the order: the entry and the spare lists have their room, and the stream proxies are of their blocks
  pub order_done : x.ended ≡ false → (commands_exit x.mutator.past.last && ack) ≡ false
      → ((j : ℕ) (r : ServerState) → stream_at q.streams j ≡ Some r → IsStreamOf links.streams.now j r)
      → HasTurns (length y.tracks) y.entry.tracks y.spare_turns → HasTakes (asked (setup_of y)) (length y.tracks) y.entry.mixes y.spare_takes → IsInOrder links y
  order_done lives no_exit of turns_room takes_room = record {
    tied = subst (IsTied links) (sym (y_same links t x ack report room push y made)) (let w : IsTied links q = tied_played links t x ack report room push y made of in record { sound = w.sound; sizes = w.sizes; proxies = w.proxies; out = w.out; linked = w.linked });
    small = subst (λ (n : ℕ). IsSmall n (setup_of y) (kept_of y)) (sym turns_y) (small_done lives no_exit);
    looks = subst HaveFewLooks (sym tracks_y) looks_done;
    none_yet = (λ e. absurd (omega (arith, turns_y)));
    hands = (λ h. subst (λ (hs : List HandSide). HaveHands links.streams.now (length y.tracks) hs) (sym hands_y) (subst (λ (n : ℕ). HaveHands links.streams.now n s.hands) tracks_long hands_done));
    turns = turns_room;
    takes = takes_room;
    idle = idle_y;
  }
    where
      tracks_long : length s.tracks ≡ length y.tracks
      tracks_long =
          let a : length s.tracks ≡ length l.tracks = served_long links report l s (going_l links t x ack report room push y made).tied made.goes_on.rest.serves (done links t x ack report room push y made) made.own in
          let b : length l.settings ≡ length l.tracks = (going_l links t x ack report room push y made).tied.sizes.settings in
          let d : length q.settings ≡ length q.tracks = (tied_played links t x ack report room push y made of).sizes.settings in
          let f : length q.settings ≡ length l.settings = ap (λ (w : NormalState). length w.settings) (q_same links t x ack report room push y made) ∙ ap (λ (d : Setup). length d.settings) (setup_of_p links t x ack report room push y made) in
          let g : length y.tracks ≡ length q.tracks = ap (λ (ts : List TrackKept). length ts) tracks_y in omega arith
