-- What a turn does before it looks at the acknowledgement changes neither what is kept nor a list.
use Rattle.std.proofs.Common.{◌≡◌, ℕ, zero, suc, ◌+◌, ◌==◌, ◌&&◌, Bool, true, false, if◌then◌else◌, MatchBool, sym, refl, ap, subst, ◌∙◌, List, [], ◌∷◌, ◌++◌, length, Option, Some, arith}
use Rattle.af_normal.proofs.Common.{HandEvent, HandSide, LegalTurn, Load, NormalKept, Outside, ServerState, Setup, Turn, going, hand_events_of, is_returning, learnt, map, mutator_list, none-some, packed_word, pipe_size, put_by, releases_of, room_by, slice_get, slice_set, slot_number, track_at, turn_after, turn_of, zero_is}
use Rattle.std.specs.Prelude.{◌⊎◌}
use Rattle.af_base.specs.declared.event.ClientEvent.TheVariants as client
use Rattle.af_normal.specs.LegalTurned.{hand_events, in_hand, Grows, IsLegal}
use Rattle.af_normal.specs.Mixing.{stream_at}
use Rattle.af_normal.specs.State.{NormalState, setup_of, kept_of}
use Rattle.af_normal.specs.TurnMade.{Stops}
use Rattle.af_normal.specs.Turning.{Begins, HandsTo, HasHands, hand_of, without_hand, listed_at}
use Rattle.af_normal.proofs.LegalStops.{seen, stopped_legally}

-- a list of hands that have done nothing, with one more that has done nothing
hand_end : (hands : List HandSide) (h : HandSide) → h.part.events ≡ [] → ((i : ℕ) → hand_events hands i ≡ []) → (i : ℕ) → hand_events (hands ++ h ∷ []) i ≡ []
hand_end [] h none all zero = none
hand_end [] h none all (suc i) = refl
hand_end (g ∷ hands) h none all zero = all 0
hand_end (g ∷ hands) h none all (suc i) = hand_end hands h none (λ (j : ℕ). all (suc j)) i

-- a proxy without its hand has the same list
listed_set : (streams : List (Option ServerState)) (n : ℕ) (s : ServerState) → stream_at streams n ≡ Some s → (i : ℕ) → listed_at (stream_at (slice_set streams n (Some (without_hand s))) i) ≡ listed_at (stream_at streams i)
listed_set [] n s is i = refl
listed_set (o ∷ streams) zero s is zero = ap listed_at (sym is)
listed_set (o ∷ streams) zero s is (suc i) = refl
listed_set (o ∷ streams) (suc n) s is zero = refl
listed_set (o ∷ streams) (suc n) s is (suc i) = listed_set streams n s is i

-- hands that have done nothing, proxies with the lists that they had, and nothing else changes
record Silent (x y : NormalState) : Type 0 where
  same : y ≡ record x { streams = y.streams; hands = y.hands }
  none : (i : ℕ) → hand_events y.hands i ≡ []
  lists : (i : ℕ) → listed_at (stream_at y.streams i) ≡ listed_at (stream_at x.streams i)

all_silent : (n : ℕ) (x y : NormalState) → x.hands ≡ [] → HandsTo n x y → Silent x y
all_silent zero x y none h = record {
  same = subst (λ (w : NormalState). w ≡ record x { streams = w.streams; hands = w.hands }) (sym h) refl;
  none = (λ i. ap (λ (w : NormalState). hand_events w.hands i) h ∙ ap (λ (hands : List HandSide). hand_events hands i) none);
  lists = (λ i. ap (λ (w : NormalState). listed_at (stream_at w.streams i)) h);
}
all_silent (suc n) x y none (z, before, h) = let b : Silent x z = all_silent n x z none before in record {
  same = subst (λ (w : NormalState). w ≡ record x { streams = w.streams; hands = w.hands }) (sym h.leaves)
      (ap (λ (w : NormalState). record w { streams = slice_set z.streams n (Some (without_hand h.stream)); hands = z.hands ++ hand_of h.stream ∷ [] }) b.same);
  none = (λ i. ap (λ (w : NormalState). hand_events w.hands i) h.leaves ∙ hand_end z.hands (hand_of h.stream) refl b.none i);
  lists = (λ i. ap (λ (w : NormalState). listed_at (stream_at w.streams i)) h.leaves ∙ listed_set z.streams n h.stream h.is_home i ∙ b.lists i);
}

none_there : (hands : List HandSide) → (length hands == 0) ≡ true → hands ≡ []
none_there [] e = refl
none_there (h ∷ hands) e = let l : length (h ∷ hands) ≡ 0 = zero_is (length (h ∷ hands)) e in absurd (omega arith)

-- what a turn leaves before the acknowledgement: the kept value, the command proxies, the ends and all lists are as they were
pub record BegunBy (x y : NormalState) : Type 0 where
  pub same : y ≡ record x { entry = y.entry; spare_turns = y.spare_turns; spare_takes = y.spare_takes; turns = x.turns + 1; streams = y.streams; hands = y.hands }
  pub hands : (i : ℕ) → hand_events y.hands i ≡ hand_events x.hands i
  pub flags : (i : ℕ) (h : HandSide) → slice_get x.hands i ≡ Some h → slice_get y.hands i ≡ Some h
  pub lists : (i : ℕ) → listed_at (stream_at y.streams i) ≡ listed_at (stream_at x.streams i)

pub begun_by : (x b y : NormalState) → Begins x b → HasHands b y → BegunBy x y
begun_by x b y begins has = by_hands (length b.hands == 0) refl has
  where
    hands_b : (i : ℕ) → hand_events b.hands i ≡ hand_events x.hands i
    hands_b i = ap (λ (w : NormalState). hand_events w.hands i) begins.same

    streams_b : (i : ℕ) → listed_at (stream_at b.streams i) ≡ listed_at (stream_at x.streams i)
    streams_b i = ap (λ (w : NormalState). listed_at (stream_at w.streams i)) begins.same

    by_hands : (d : Bool) → (length b.hands == 0) ≡ d → MatchBool d (HandsTo (length b.tracks) b y) (y ≡ b) → BegunBy x y
    by_hands true e h = let none : b.hands ≡ [] = none_there b.hands e in let s : Silent b y = all_silent (length b.tracks) b y none h in record {
      same = subst (λ (w : NormalState). w ≡ record x { entry = w.entry; spare_turns = w.spare_turns; spare_takes = w.spare_takes; turns = x.turns + 1; streams = w.streams; hands = w.hands }) (sym s.same)
          (ap (λ (w : NormalState). record w { streams = y.streams; hands = y.hands }) begins.same);
      hands = (λ i. s.none i ∙ sym (ap (λ (hands : List HandSide). hand_events hands i) none) ∙ hands_b i);
      flags = (λ i h is. absurd (none-some h (sym (ap (λ (hands : List HandSide). slice_get hands i) (sym (ap (λ (w : NormalState). w.hands) begins.same) ∙ none)) ∙ is)));
      lists = (λ i. s.lists i ∙ streams_b i);
    }
    by_hands false e h = record {
      same = subst (λ (w : NormalState). w ≡ record x { entry = w.entry; spare_turns = w.spare_turns; spare_takes = w.spare_takes; turns = x.turns + 1; streams = w.streams; hands = w.hands }) (sym h)
          (subst (λ (w : NormalState). w ≡ record x { entry = w.entry; spare_turns = w.spare_turns; spare_takes = w.spare_takes; turns = x.turns + 1; streams = w.streams; hands = w.hands }) (sym begins.same) refl);
      hands = (λ i. ap (λ (w : NormalState). hand_events w.hands i) h ∙ hands_b i);
      flags = (λ i f is. ap (λ (w : NormalState). slice_get w.hands i) h ∙ ap (λ (w : NormalState). slice_get w.hands i) begins.same ∙ is);
      lists = (λ i. ap (λ (w : NormalState). listed_at (stream_at w.streams i)) h ∙ streams_b i);
    }

module _ (x y z : NormalState) (o : Outside) (b : BegunBy x y) where
  -- what was in hand, and what was home, is as it was
  same_home : (d : Bool) (i k : ℕ) (back : List (Option ServerState)) → listed_at (if d then in_hand back y.mutator.returned k else stream_at y.streams i) ≡ listed_at (if d then in_hand back x.mutator.returned k else stream_at x.streams i)
  same_home true i k back = ap (λ (w : NormalState). listed_at (in_hand back w.mutator.returned k)) b.same
  same_home false i k back = b.lists i

  begun_grows : (c : Setup) (m : NormalKept) (e : Turn) → Grows c m o e y z → Grows c m o e x z
  begun_grows c m e g = record {
    commands = (λ i s is. g.commands i s (ap (λ (w : NormalState). slice_get w.commands i) b.same ∙ is));
    whole = (λ i s t is. g.whole i s t (ap (λ (w : NormalState). slice_get w.commands i) b.same ∙ is));
    hands = (λ i. g.hands i ∙ ap (λ (es : List HandEvent). es ++ hand_events_of e i) (b.hands i));
    recalled = (λ f i h is. g.recalled f i h (b.flags i h is));
    streams = g.streams;
    reader = (g.reader.0, g.reader.1 ∙ ap (λ (w : NormalState). w.reader.events ++ going e (Load g.reader.0 o.report ∷ [])) b.same);
    pipe = (
      g.pipe.0,
      g.pipe.1 ∙ ap (λ (w : NormalState). w.pipe.pass.part.events ++ going e (client.SawFront g.pipe.0 ∷ releases_of w.pipe.pass.part.shape.cells (length w.pipe.pass.part.frames) (length (put_by c e.mixes)))) b.same,
      subst (λ (w : NormalState). (e.room ≡ room_by (pipe_size c) (length w.pipe.pass.part.frames) g.pipe.0) ⊎ (e.ended ≡ true)) b.same g.pipe.2,
      g.pipe.3 ∙ ap (λ (w : NormalState). w.pipe.pass.part.frames ++ map packed_word (put_by c e.mixes)) b.same,
    );
    back = g.back;
    again = g.again;
    sent = g.sent;
    mutator = g.mutator ∙ ap (λ (w : NormalState). w.mutator.past.events ++ mutator_list c (learnt o) m e g.back g.again g.sent) b.same;
    home = (λ f i. g.home f i ∙ same_home (e.ack && is_returning (track_at m.tracks i).holder) i (slot_number (track_at m.tracks i)) g.back);
    lent = g.lent;
  }

  -- a turn that is legal from there on is legal from the beginning
  pub begun_legally : IsLegal o y z → IsLegal o x z
  begun_legally l = record {
    commands = (λ i s is. l.commands i s (ap (λ (w : NormalState). slice_get w.commands i) b.same ∙ is));
    setup = l.setup ∙ ap setup_of b.same;
    legal = subst (λ (w : NormalState). LegalTurn (setup_of w) o (kept_of w) (turn_of z.entry)) b.same l.legal;
    leaves = l.leaves ∙ ap (λ (w : NormalState). turn_after (setup_of w) (learnt o) (kept_of w) (turn_of z.entry)) b.same;
    lists = begun_grows (setup_of x) (kept_of x) (turn_of z.entry) (subst (λ (w : NormalState). Grows (setup_of w) (kept_of w) o (turn_of z.entry) y z) b.same l.lists);
  }

-- ## The whole turn, from its beginning

module _ (x b h y : NormalState) (begins : Begins x b) (hands : HasHands b h) where
  pub ended_legally : Stops h y → (o : Outside) × IsLegal o x y
  ended_legally stops = (seen h y stops, begun_legally x h y (seen h y stops) (begun_by x b h begins hands) (stopped_legally h y stops))
