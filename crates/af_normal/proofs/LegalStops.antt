-- A turn that has ended is a legal one, leaves what the definition says, and keeps the order.
use Rattle.std.proofs.Common.{◌≡◌, ℕ, ◌+◌, ◌&&◌, ◌||◌, Bool, true, false, if◌then◌else◌, true≢false, MatchBool, inr, sym, refl, ap, subst, ◌∙◌, List, [], ◌∷◌, ◌++◌, append-nil, length, Option, Some, arith}
use Rattle.af_normal.proofs.Common.{IsSmall, IsSmallTurn, LegalTurn, Links, Mutates, NormalKept, Outside, ServerState, Setup, StreamNames, Turn, WasAcked, asked, commands_exit, ended_turn, learnt, mutator_list, no_report, slice_get, some_same, turn_after, turn_small}
use Rattle.af_model.specs.declared.states.MutatorEvent.TheVariants as mutator
use Rattle.af_normal.specs.AllMixed.{HasTakes}
use Rattle.af_normal.specs.LegalTurned.{hand_events, Grows, IsLegal}
use Rattle.af_normal.specs.Mixing.{stream_at}
use Rattle.af_normal.specs.Order.{HaveFewLooks, HaveHands, HasTurns, IsTied, IsGoing, IsInOrder}
use Rattle.af_normal.specs.State.{NormalState, setup_of, kept_of}
use Rattle.af_normal.specs.TurnMade.{Stops}
use Rattle.af_normal.specs.Turning.{listed_at}

module _ (x y : NormalState) (stops : Stops x y) where
  abbrev Looks : Bool → Type 0
  Looks b = MatchBool b (stops.mutator ≡ x.mutator) (WasAcked x.mutator true stops.mutator × (commands_exit x.mutator.past.last ≡ true))

  -- the mixer that stops saw nothing but its own lists
  abbrev pub seen : Outside
  seen = record {
    report = no_report;
    streams = (λ i. listed_at (stream_at x.streams i));
    commands = (λ i. listed_at (slice_get x.commands i));
    stream_front = (λ i. 0);
    command_fronts = (λ i. []);
  }

  or_right : (a b : Bool) → b ≡ true → true ≡ (a || b)
  or_right true b e = refl
  or_right false b e = sym e

  or_left : (a b : Bool) → a ≡ true → true ≡ (a || b)
  or_left true b e = refl
  or_left false b e = absurd (true≢false (sym e))

  both : (a : Bool) → a ≡ true → (a && true) ≡ true
  both true e = refl
  both false e = absurd (true≢false (sym e))

  ends : true ≡ (x.ended || (commands_exit x.mutator.past.last && true))
  ends = by_ended x.ended refl stops.looks
    where
      by_ended : (b : Bool) → x.ended ≡ b → Looks b → true ≡ (x.ended || (commands_exit x.mutator.past.last && true))
      by_ended true e l = or_left x.ended (commands_exit x.mutator.past.last && true) e
      by_ended false e l = or_right x.ended (commands_exit x.mutator.past.last && true) (both (commands_exit x.mutator.past.last) l.1)

  kept_stopped : kept_of (record x { mutator = stops.mutator; ended = true; entry = y.entry }) ≡ record (kept_of x) { ended = true }
  kept_stopped = by_ended x.ended stops.looks
    where
      by_ended : (b : Bool) → Looks b → kept_of (record x { mutator = stops.mutator; ended = true; entry = y.entry }) ≡ record (kept_of x) { ended = true }
      by_ended true l = ap (λ (m : Mutates ServerState StreamNames). kept_of (record x { mutator = m; ended = true; entry = y.entry })) l
      by_ended false l = ap (λ (m : Mutates ServerState StreamNames). kept_of (record x { mutator = m; ended = true; entry = y.entry })) l.0.1

  after_ended : kept_of y ≡ turn_after (setup_of x) (learnt seen) (kept_of x) ended_turn
  unfolding turn_after
  after_ended = ap kept_of stops.leaves ∙ kept_stopped

  legal_ended : LegalTurn (setup_of x) seen (kept_of x) ended_turn
  legal_ended = record { ends = ends; still = (λ e. refl); goes_on = (λ e. absurd (true≢false e)) }

  mutator_stops : (back : List (Option ServerState)) × (y.mutator.past.events ≡ x.mutator.past.events ++ mutator_list (setup_of x) (learnt seen) (kept_of x) ended_turn back [] [])
  mutator_stops = by_ended x.ended stops.looks
    where
      by_ended : (b : Bool) → Looks b → (back : List (Option ServerState)) × (y.mutator.past.events ≡ x.mutator.past.events ++ (if b then [] else mutator.SawAck x.mutator.past.number back ∷ []))
      by_ended true l = ([], ap (λ (w : NormalState). w.mutator.past.events) stops.leaves ∙ ap (λ (m : Mutates ServerState StreamNames). m.past.events) l ∙ sym (append-nil x.mutator.past.events))
      by_ended false l = (l.0.0, ap (λ (w : NormalState). w.mutator.past.events) stops.leaves ∙ ap (λ (m : Mutates ServerState StreamNames). m.past.events) l.0.1)

  grows_ended : Grows (setup_of x) (kept_of x) seen ended_turn x y
  grows_ended = record {
    commands = (λ i s is. (
      s,
      ap (λ (w : NormalState). slice_get w.commands i) stops.leaves ∙ is,
      record { list = sym (append-nil s.pass.part.events); took = sym (append-nil s.pass.part.frames); shape = refl },
    ));
    whole = (λ i s t is is'. ap (λ (r : ServerState). r.pass.has_hand) (some_same t s (sym is' ∙ ap (λ (w : NormalState). slice_get w.commands i) stops.leaves ∙ is)));
    hands = (λ i. ap (λ (w : NormalState). hand_events w.hands i) stops.leaves ∙ sym (append-nil (hand_events x.hands i)));
    streams = (λ i t is. let there : stream_at x.streams i ≡ Some t = sym (ap (λ (w : NormalState). stream_at w.streams i) stops.leaves) ∙ is in (
      sym (append-nil t.pass.part.events) ∙ ap (λ (o : Option ServerState). (listed_at o).events ++ []) (sym there),
      ap (λ (o : Option ServerState). (listed_at o).shape) (sym there),
    ));
    reader = (0, ap (λ (w : NormalState). w.reader.events) stops.leaves ∙ sym (append-nil x.reader.events));
    pipe = (
      0,
      ap (λ (w : NormalState). w.pipe.pass.part.events) stops.leaves ∙ sym (append-nil x.pipe.pass.part.events),
      inr refl,
      ap (λ (w : NormalState). w.pipe.pass.part.frames) stops.leaves ∙ sym (append-nil x.pipe.pass.part.frames),
    );
    back = mutator_stops.0;
    again = [];
    sent = [];
    mutator = mutator_stops.1;
    recalled = (λ f. absurd (true≢false f));
    home = (λ f. absurd (true≢false f));
    lent = (λ f. absurd (true≢false f));
  }

  -- the turn was legal, left what the definition says, and the lists grew by it
  pub stopped_legally : IsLegal seen x y
  stopped_legally = record {
    commands = (λ i s is. ap listed_at is);
    setup = ap setup_of stops.leaves;
    legal = subst (λ (e : Turn). LegalTurn (setup_of x) seen (kept_of x) e) (sym stops.tells) legal_ended;
    leaves = after_ended ∙ ap (turn_after (setup_of x) (learnt seen) (kept_of x)) (sym stops.tells);
    lists = subst (λ (e : Turn). Grows (setup_of x) (kept_of x) seen e x y) (sym stops.tells) grows_ended;
  }

  few_ended : IsSmallTurn ended_turn
  few_ended = record { looks = (λ i. omega arith); mixes = omega arith }

  module _ (links : Links) (t : ℕ) (going : IsGoing links t x) where
    tied_with : (m : Mutates ServerState StreamNames) → IsTied links (record x { mutator = m }) → IsTied links (record x { mutator = m; ended = true; entry = y.entry })
    tied_with m h = record { sound = h.sound; sizes = h.sizes; proxies = h.proxies; out = h.out; linked = h.linked }

    tied_stopped : IsTied links y
    tied_stopped = subst (IsTied links) (sym stops.leaves) (by_ended x.ended stops.looks)
      where
        by_ended : (b : Bool) → Looks b → IsTied links (record x { mutator = stops.mutator; ended = true; entry = y.entry })
        by_ended true l = subst (λ (m : Mutates ServerState StreamNames). IsTied links (record x { mutator = m; ended = true; entry = y.entry })) (sym l) (record { sound = going.tied.sound; sizes = going.tied.sizes; proxies = going.tied.proxies; out = going.tied.out; linked = going.tied.linked })
        by_ended false l = subst (λ (m : Mutates ServerState StreamNames). IsTied links (record x { mutator = m; ended = true; entry = y.entry })) (sym l.0.1) (record { sound = going.tied.sound; sizes = going.tied.sizes; proxies = going.tied.proxies; out = going.tied.out; linked = going.tied.linked })

    idle_stopped : y.mutator.editing ≡ false
    idle_stopped = ap (λ (w : NormalState). w.mutator.editing) stops.leaves ∙ by_ended x.ended stops.looks ∙ going.idle
      where
        by_ended : (b : Bool) → Looks b → stops.mutator.editing ≡ x.mutator.editing
        by_ended true l = ap (λ (m : Mutates ServerState StreamNames). m.editing) l
        by_ended false l = ap (λ (m : Mutates ServerState StreamNames). m.editing) l.0.1

    small_stopped : IsSmall (t + 1) (setup_of y) (kept_of y)
    small_stopped = subst (λ (d : Setup × NormalKept). IsSmall (t + 1) d.0 d.1) (λ i. (sym (ap setup_of stops.leaves) i, sym after_ended i))
        (turn_small (setup_of x) t (learnt seen) ended_turn (kept_of x) going.small few_ended)

    turns_y : y.turns ≡ t + 1
    turns_y = ap (λ (w : NormalState). w.turns) stops.leaves ∙ going.next

    -- the order stays, if the lists of the entry and the spare ones have their room
    pub order_stopped : HasTurns (length y.tracks) y.entry.tracks y.spare_turns → HasTakes (asked (setup_of y)) (length y.tracks) y.entry.mixes y.spare_takes → IsInOrder links y
    order_stopped turns_room takes_room = record {
      tied = tied_stopped;
      small = subst (λ (n : ℕ). IsSmall n (setup_of y) (kept_of y)) (sym turns_y) small_stopped;
      looks = subst HaveFewLooks (sym (ap (λ (w : NormalState). w.tracks) stops.leaves)) going.looks;
      none_yet = (λ e. absurd (omega (arith, turns_y)));
      hands = (λ h. subst (λ (w : NormalState). HaveHands links.streams.now (length w.tracks) w.hands) (sym stops.leaves) going.hands);
      turns = turns_room;
      takes = takes_room;
      idle = idle_stopped;
    }
