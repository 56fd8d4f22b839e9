-- The stages of a turn in a row: what each leaves, and that its numbers stay small.
use Rattle.std.proofs.Common.{◌≡◌, inl, inr, ℕ, zero, suc, ◌*◌, ◌<◌, ◌≤◌, ◌^◌, not, Bool, true, false, true≢false, is_some, MatchBool, sym, refl, ap, subst, ◌∙◌, List, [], ◌∷◌, length, map, All, Option, Some, None, arith}
use Rattle.af_normal.proofs.Common.{All-from_get_or, AreUpTo, CommandLook, IsServed, IsSmall, Learnt, LegalTrack, Links, Mutates, NormalKept, Push, Pushes as Past, Report, ServerState, Setup, StreamNames, TrackKept, TrackSeen, acked, acked_len, are_due, both_first, cases_lt, due_len, heard, invalid, kept, known_by, listed, most_looks, most_tracks, mutated, new_track, not_true, nothing_seen, plays, ready, seen_at, served_to, slot_for, slot_of, some_at, some_same, track_at, track_seen}
use Rattle.af_normal.specs.AllMixed.{AreHome, HasTakes}
use Rattle.af_normal.specs.Mixing.{stream_at}
use Rattle.af_normal.specs.Mutating.{EditsAll, Pushes, begun}
use Rattle.af_normal.specs.Order.{HaveFewLooks, HaveHands, HasTurns, IsTied, IsOpen, IsGoing}
use Rattle.af_normal.specs.Ready.{AreOwn, serving_of}
use Rattle.af_normal.specs.Serving.{StreamAdds}
use Rattle.af_normal.specs.State.{NormalState, setup_of, kept_of}
use Rattle.af_normal.specs.TurnMade.{ServesAll}
use Rattle.af_normal.specs.Turning.{SeesAck, Learns, learnt_by, listed_at}
use Rattle.af_normal.proofs.LegalEdits.{edits_are, edits_same, Mutated}
use Rattle.af_normal.proofs.LegalFlags.{told_still, known_still}
use Rattle.af_normal.proofs.LegalServed.{ServedTo, served_all}
use Rattle.af_normal.proofs.OrderServed.{tied_served}
use Rattle.af_normal.proofs.OwnLooks.{IsFew, acked_few, all_few, mutated_few}
use Rattle.af_normal.proofs.OrderStages.{acked_kept, tied_acked, acked_same, tied_learnt, opened, tied_edited, tied_pushed}

-- ## No more looks than are due

module _ (c : Setup) (k : Learnt) (seen : TrackSeen) (tracks : List TrackKept) (i : ℕ) where
  pub few_looks : LegalTrack c k seen tracks i → length seen.looks ≤ 64
  few_looks legal = by_ended (track_at tracks i).life.ended legal
    where
      by_wait : (b : Bool) → MatchBool b (seen.looks ≡ []) (are_due most_looks (slot_for c tracks i) (heard k i (track_at tracks i)).flush_seen seen.looks (ready k i (track_at tracks i)) ≡ true) → length seen.looks ≤ 64
      by_wait true e = let l : length seen.looks ≡ 0 = ap (λ (ls : List CommandLook). length ls) e in omega arith
      by_wait false e = due_len (slot_for c tracks i) (heard k i (track_at tracks i)).flush_seen 64 seen.looks (ready k i (track_at tracks i)) e

      by_ended : (b : Bool) → MatchBool b (seen ≡ nothing_seen) (IsServed (slot_for c tracks i) (heard k i (track_at tracks i)) seen (ready k i (track_at tracks i))) → length seen.looks ≤ 64
      by_ended true e = let l : length seen.looks ≡ 0 = ap (λ (s : TrackSeen). length s.looks) e in omega arith
      by_ended false h = by_wait (is_some (ready k i (track_at tracks i)).awaits) h.looks

pub seen_past : (turns : List TrackSeen) (i : ℕ) → length turns ≤ i → seen_at turns i ≡ nothing_seen
seen_past [] i le = refl
seen_past (s ∷ turns) zero le = absurd (omega arith)
seen_past (s ∷ turns) (suc i) le = seen_past turns i (omega arith)

-- ## The acknowledgement and what is learnt

module _ (links : Links) (t : ℕ) (x : NormalState) (going : IsGoing links t x) where
  pub going_acked : (ack : Bool) (y : NormalState) → SeesAck ack x y → IsGoing links t y
  going_acked ack y sees =
      let same = (acked_same links ack x y going.tied sees).0 in
      let kept = acked_kept links ack x y going.tied sees in
      let long : length y.tracks ≡ length x.tracks = ap (λ (m : NormalKept). length m.tracks) kept ∙ acked_len ack (kept_of x) in record {
        tied = tied_acked links ack x y going.tied sees;
        small = subst (λ (p : Setup × NormalKept). IsSmall t p.0 p.1) (λ d. (sym (ap setup_of same) d, sym kept d)) (acked (setup_of x) t ack (kept_of x) going.small);
        looks = subst HaveFewLooks (sym (ap (λ (m : NormalKept). m.tracks) kept)) (acked_few ack (kept_of x) going.looks);
        hands = subst (λ (w : NormalState). HaveHands links.streams.now (length y.tracks) w.hands) (sym same) (subst (λ (n : ℕ). HaveHands links.streams.now n x.hands) (sym long) going.hands);
        turns_room = subst (λ (w : NormalState). HasTurns (length y.tracks) w.entry.tracks w.spare_turns) (sym same) (subst (λ (n : ℕ). HasTurns n x.entry.tracks x.spare_turns) (sym long) going.turns_room);
        takes_room = subst (λ (w : NormalState). HasTakes (w.normal * w.frames) (length y.tracks) w.entry.mixes w.spare_takes) (sym same) (subst (λ (n : ℕ). HasTakes (x.normal * x.frames) n x.entry.mixes x.spare_takes) (sym long) going.takes_room);
        none = (ap (λ (w : NormalState). w.entry.tracks.items) same ∙ going.none.0, ap (λ (w : NormalState). w.entry.mixes.items) same ∙ going.none.1);
        idle = (acked_same links ack x y going.tied sees).1 ∙ going.idle;
        next = ap (λ (w : NormalState). w.turns) same ∙ going.next;
      }

  pub going_learnt : (report : Report) (room : ℕ) (y : NormalState) → Learns report room x y → IsGoing links t y
  going_learnt report room y l =
      let tied : IsTied links y = tied_learnt links report room x y going.tied l in
      subst (IsGoing links t) (sym l.same) (record {
        tied = subst (IsTied links) l.same tied;
        small = going.small;
        looks = going.looks;
        hands = going.hands;
        turns_room = going.turns_room;
        takes_room = going.takes_room;
        none = going.none;
        idle = going.idle;
        next = going.next;
      })

-- ## The tracks are served

module _ (links : Links) (t : ℕ) (x : NormalState) (going : IsGoing links t x) (report : Report) (y : NormalState) (serves : ServesAll report x y) where
  pub served_done : ServedTo (setup_of x) (learnt_by report x.streams) (length x.tracks) (serving_of x) (serving_of y) (length x.tracks)
  served_done = served_all (setup_of x) (learnt_by report x.streams) (length x.tracks) (serving_of x)
      (record {
        streams = (let l = going.tied.sizes.streams_are in omega arith);
        commands = (λ j lt. some_at x.commands j (let l = going.tied.sizes.commands_are in omega arith));
        hands = (λ j lt. some_at x.hands j (let l = going.hands.whole in omega arith));
      })
      (ap (map track_seen) going.none.0) (length x.tracks) (omega arith) (serving_of y) serves.tracks

  -- what the mutator has is as it was
  pub served_mutator : y.mutator ≡ x.mutator
  served_mutator = ap (λ (w : NormalState). w.mutator) serves.same

  abbrev Tells : Option ServerState → ServerState → Type 0
  Tells o q = ((listed q).shape ≡ (listed_at o).shape) × (kept (listed q) ≡ kept (listed_at o))

  -- a stream proxy that is home still shows the shape and the kept values that it showed before
  pub told_served : (i : ℕ) (s : ServerState) → stream_at y.streams i ≡ Some s → ((listed s).shape ≡ (listed_at (stream_at x.streams i)).shape) × (kept (listed s) ≡ kept (listed_at (stream_at x.streams i)))
  told_served i s is = elim (cases_lt i (length x.tracks)) as (λ p. Tells (stream_at x.streams i) s) [
    | inl lt ↦ by_stream (stream_at x.streams i) (stream_at y.streams i) is (served_done.parts i lt).streamed
    | inr le ↦ subst (λ (o : Option ServerState). Tells o s) (sym is ∙ (served_done.rest i le).stream) (refl, refl)
  ]
    where
      by_stream : (o p : Option ServerState) → p ≡ Some s → StreamAdds o (invalid (learnt_by report x.streams) (seen_at (serving_of y).turns i) (served_to (setup_of x) (learnt_by report x.streams) (serving_of y).turns x.tracks i) i) p → Tells o s
      by_stream None p e a = absurd (true≢false (ap is_some (sym e ∙ a)))
      by_stream (Some r) p e (q, adds, is_q) = subst (Tells (Some r)) (some_same q s (sym is_q ∙ e))
          (told_still (learnt_by report x.streams) (seen_at (serving_of y).turns i) (served_to (setup_of x) (learnt_by report x.streams) (serving_of y).turns x.tracks i) i r q adds)

  -- a proxy that stays at home knows the same
  pub own_still : (i : ℕ) (s : ServerState) → stream_at y.streams i ≡ Some s → known_by (listed_at (stream_at x.streams i)) ≡ known_by (listed s)
  own_still i s is = let told = told_served i s is in sym (known_still (listed_at (stream_at x.streams i)) (listed s) told.0 told.1)

  module _ (own : (i : ℕ) → i < length y.tracks → AreOwn links y.streams y.commands y.hands i) where
    pub served_tied : IsTied links y
    served_tied = tied_served links report x y going.tied serves served_done own

    -- the mutation may begin
    pub served_open : IsOpen links (most_tracks * t) (record y { mutator = begun y.mutator })
    served_open = opened links (most_tracks * t) y served_tied
        (λ k. let g : (slot_of x.mutator.draft k).generation ≤ most_tracks * t = going.small.draft.generations k in
        let e : (slot_of y.mutator.draft k).generation ≡ (slot_of x.mutator.draft k).generation = ap (λ (m : Mutates ServerState StreamNames). (slot_of m.draft k).generation) served_mutator in omega arith)
        (let g = going.small.draft.changes in let e = ap (λ (m : Mutates ServerState StreamNames). m.draft.tracks_gen) served_mutator in omega arith)

    -- ## The draft is edited

    abbrev c : Setup
    c = setup_of x

    abbrev k : Learnt
    k = learnt_by report x.streams

    abbrev turns : List TrackSeen
    turns = (serving_of y).turns

    -- the tracks are those that the definition leaves
    pub served_kept : kept_of y ≡ record (kept_of x) { tracks = served_to c k turns x.tracks (length x.tracks) }
    served_kept = ap kept_of serves.same ∙ ap (λ (ts : List TrackKept). record (kept_of x) { tracks = ts }) served_done.tracks

    module _ (room : ℕ) (z : NormalState) (edits : EditsAll room y z) where
      pub edited_kept : kept_of z ≡ mutated c k room (record (kept_of x) { tracks = served_to c k turns x.tracks (length x.tracks) })
      edited_kept = edits_are c k room y z (sym (ap setup_of serves.same)) own_still edits ∙ ap (mutated c k room) served_kept

      pub edited_mutated : Mutated c k room y z (sym (ap setup_of serves.same)) own_still
      edited_mutated = edits_same c k room y z (sym (ap setup_of serves.same)) own_still edits

      pub edited_tied : IsTied links z
      edited_tied = tied_edited links (most_tracks * t) room y z served_tied served_open.generations served_open.changes edits

      -- no more states were pushed than there were turns
      pub edited_number : z.mutator.past.number ≤ t
      edited_number = let g = going.small.pushed in
          let e : z.mutator.past.number ≡ x.mutator.past.number = ap (λ (p : Past ServerState StreamNames). p.number) edited_mutated.past ∙ ap (λ (m : Mutates ServerState StreamNames). m.past.number) served_mutator in omega arith

      edited_looks : (i : ℕ) → IsFew (track_at (kept_of z).tracks i)
      edited_looks i = subst (λ (m : NormalKept). IsFew (track_at m.tracks i)) (sym edited_kept)
          (mutated_few c k room (record (kept_of x) { tracks = served_to c k turns x.tracks (length x.tracks) }) (all_few c k turns x.tracks going.looks) i)

      module _ (push : Push) (p : NormalState) (pushes : Pushes push z p) where
        pub pushed_tied : IsTied links p
        pushed_tied = tied_pushed links push z p edited_tied pushes

        -- the looks that count are few
        pub pushed_looks : (i : ℕ) → IsFew (track_at p.tracks i)
        pushed_looks i = subst (λ (ts : List TrackKept). IsFew (track_at ts i)) (sym (ap (λ (w : NormalState). w.tracks) pushes.same)) (edited_looks i)

        pub pushed_few : All (λ (s : TrackKept). AreUpTo (2 ^ 31) s.own) p.tracks
        pushed_few = All-from_get_or (λ (s : TrackKept). AreUpTo (2 ^ 31) s.own) p.tracks new_track (λ i lt. let few = (pushed_looks i).0 in (omega (arith, few.0), omega (arith, few.1), omega (arith, few.2)))

-- a track that is mixed here has its proxy at home
pub mixed_home : (links : Links) (x : NormalState) → IsTied links x → AreHome x.tracks x.streams
mixed_home links x tied i lt mixed = tied.proxies.there i lt ∙ (tied.sound.slotted i).homely (not_true (is_some (track_at x.tracks i).slot) (both_first (not (is_some (track_at x.tracks i).slot)) (plays (track_at x.tracks i).life) mixed))
