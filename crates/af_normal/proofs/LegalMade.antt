-- A turn that goes on is a legal one, and leaves what the definition says.
use Rattle.std.proofs.Common.{◌≡◌, ℕ, ◌<◌, ◌≤◌, ◌&&◌, ◌||◌, Bool, true, false, if◌then◌else◌, true≢false, is_some, MatchBool, sym, refl, ap, subst, ◌∙◌, List, [], ◌∷◌, length, map, Option, Some, None, ⊎_elim, arith}
use Rattle.af_normal.proofs.Common.{AllByRecursion, GoesOn, Learnt, LegalLooks, LegalPush, LegalTake, LegalTrack, LegalTurn, Links, LooksBy, Mutates, NormalKept, NormalTake, Outside, Push, Report, Roomy, ServerState, Setup, StreamNames, TakeSeen, TrackKept, TrackSeen, TrackTurn, Turn, TurnEntry, WasAcked, acked_len, after_ack, after_edits, after_push, after_take, after_takes, after_tracks, asked, filter, fold, commands_exit, is_mixed_here, learnt, listed, mutated, nat_le, range_with_len, seen_at, served_to, slice_get, take_seen, takes_from, track_at, track_seen, tracks_due, turn_after, turn_of}
use Rattle.af_normal.specs.Mixing.{stream_at, Mixing, MixesTo}
use Rattle.af_normal.specs.Order.{IsTied, IsGoing}
use Rattle.af_normal.specs.Ready.{AreOwn, serving_of}
use Rattle.af_normal.specs.State.{NormalState, setup_of, kept_of}
use Rattle.af_normal.specs.TurnMade.{PlaysAll, GoesOnBy, mixing_of}
use Rattle.af_normal.specs.Turning.{learnt_by, listed_at}
use Rattle.af_normal.proofs.LegalEdits.{push_legal}
use Rattle.af_normal.proofs.LegalFlags.{looks_still}
use Rattle.af_normal.proofs.LegalPlays.{StreamTakes, words_of, LegalBy, mix_of, PlayedTo, played_all, stays}
use Rattle.af_normal.proofs.LegalServed.{ServedTo}
use Rattle.af_normal.proofs.OrderStages.{acked_kept, acked_same}
use Rattle.af_normal.proofs.OrderTurn.{going_acked, going_learnt, served_done, told_served, edited_kept, edited_mutated, pushed_tied}

-- ## The buffer

module _ (room : ℕ) (x y : NormalState) (plays : PlaysAll room x y) where
  -- what was mixed, by these fronts
  pub record PlaysBy (fronts : ℕ → ℕ) : Type 0 where
    pub tracks : y.tracks ≡ fold (after_take (asked (setup_of x))) x.tracks (mixing_of y).takes
    pub due : map (λ (t : TakeSeen). t.track) (mixing_of y).takes ≡ tracks_due (setup_of x) room x.tracks
    pub legal : AllByRecursion (LegalBy (asked (setup_of x)) (mixing_of x) fronts) (mixing_of y).takes
    pub streams : (j : ℕ) → StreamTakes (stream_at x.streams j) (mix_of (asked (setup_of x)) (mixing_of x) fronts (mixing_of y).takes j) (words_of (takes_from (mixing_of y).takes j)) (stream_at y.streams j)
    pub unmixed : (j : ℕ) → is_mixed_here (track_at x.tracks j) ≡ false → takes_from (mixing_of y).takes j ≡ []
    pub few : length (mixing_of y).takes ≤ length x.tracks
    pub long : (length y.streams ≡ length x.streams)

  pub plays_by : x.entry.mixes.items ≡ [] → length x.tracks ≤ length x.streams → (fronts : ℕ → ℕ) × PlaysBy fronts
  plays_by none wide = by_room (nat_le (asked (setup_of x)) room) refl plays.mixes
    where
      due_is : (b : Bool) → nat_le (asked (setup_of x)) room ≡ b → tracks_due (setup_of x) room x.tracks ≡ (if b then filter (λ i. is_mixed_here (track_at x.tracks i)) (range_with_len 0 (length x.tracks)) else [])
      due_is b e = ap (λ (d : Bool). if d then filter (λ i. is_mixed_here (track_at x.tracks i)) (range_with_len 0 (length x.tracks)) else []) e

      takes_none : (mixing_of x).takes ≡ []
      takes_none = ap (map take_seen) none

      by_room : (b : Bool) → nat_le (asked (setup_of x)) room ≡ b → MatchBool b (MixesTo (asked (setup_of x)) (length x.tracks) (mixing_of x) (mixing_of y)) (mixing_of y ≡ mixing_of x) → (fronts : ℕ → ℕ) × PlaysBy fronts
      by_room true e m = let all : PlayedTo (asked (setup_of x)) (mixing_of x) (mixing_of y) (length x.tracks) = played_all (asked (setup_of x)) (mixing_of x) takes_none (length x.tracks) wide (mixing_of y) m in (
        all.fronts,
        record { tracks = all.tracks; due = all.due ∙ sym (due_is true e); legal = all.legal; streams = all.streams; unmixed = all.unmixed; few = all.few; long = all.long },
      )
      by_room false e same = let none_here : (mixing_of y).takes ≡ [] = ap (λ (w : Mixing). w.takes) same ∙ takes_none in (
        (λ j. 0),
        record {
          tracks = ap (λ (w : Mixing). w.tracks) same ∙ sym (ap (fold (after_take (asked (setup_of x))) x.tracks) none_here);
          due = ap (map (λ (t : TakeSeen). t.track)) none_here ∙ sym (due_is false e);
          legal = subst (AllByRecursion (LegalBy (asked (setup_of x)) (mixing_of x) (λ j. 0))) (sym none_here) tt;
          streams = (λ j. subst (StreamTakes (stream_at x.streams j) (mix_of (asked (setup_of x)) (mixing_of x) (λ i. 0) (mixing_of y).takes j) (words_of (takes_from (mixing_of y).takes j))) (sym (ap (λ (w : Mixing). stream_at w.streams j) same))
              (stays (asked (setup_of x)) (mixing_of x) (stream_at x.streams j) _ _ (ap (λ (ts : List TakeSeen). mix_of (asked (setup_of x)) (mixing_of x) (λ i. 0) ts j) none_here) (ap (λ (ts : List TakeSeen). words_of (takes_from ts j)) none_here)));
          unmixed = (λ j off. ap (λ (ts : List TakeSeen). takes_from ts j) none_here);
          few = (let l : length (mixing_of y).takes ≡ 0 = ap (λ (ts : List TakeSeen). length ts) none_here in omega arith);
          long = ap (λ (w : Mixing). length w.streams) same;
        },
      )

-- ## The whole turn

pub record IsMade (links : Links) (t : ℕ) (x : NormalState) (ack : Bool) (report : Report) (room : ℕ) (push : Push) (y : NormalState) : Type 0 where
  pub going : IsGoing links t x
  pub goes_on : GoesOnBy ack report room push x y
  pub own : (i : ℕ) → i < length goes_on.rest.served.tracks → AreOwn links goes_on.rest.served.streams goes_on.rest.served.commands goes_on.rest.served.hands i

module _ (links : Links) (t : ℕ) (x : NormalState) (ack : Bool) (report : Report) (room : ℕ) (push : Push) (y : NormalState) (made : IsMade links t x ack report room push y) where
  abbrev home : NormalState
  home = made.goes_on.home

  abbrev l : NormalState
  l = made.goes_on.rest.learnt

  abbrev s : NormalState
  s = made.goes_on.rest.served

  abbrev z : NormalState
  z = made.goes_on.rest.edited

  abbrev p : NormalState
  p = made.goes_on.rest.pushed

  abbrev q : NormalState
  q = made.goes_on.rest.played

  pub going_home : IsGoing links t home
  going_home = going_acked links t x made.going ack home made.goes_on.sees

  pub going_l : IsGoing links t l
  going_l = going_learnt links t home going_home report room l made.goes_on.rest.learns

  pub done : ServedTo (setup_of l) (learnt_by report l.streams) (length l.tracks) (serving_of l) (serving_of s) (length l.tracks)
  done = served_done links t l going_l report s made.goes_on.rest.serves

  -- ## What stays as it is

  pub z_same : z ≡ record s { tracks = z.tracks; streams = z.streams; mutator = z.mutator }
  z_same = (edited_mutated links t l going_l report s made.goes_on.rest.serves made.own room z made.goes_on.rest.edits).same

  pub p_same : p ≡ record z { mutator = p.mutator }
  p_same = made.goes_on.rest.pushes.same

  pub entry_of_p : p.entry ≡ s.entry
  entry_of_p = ap (λ (w : NormalState). w.entry) p_same ∙ ap (λ (w : NormalState). w.entry) z_same

  pub setup_of_p : setup_of p ≡ setup_of l
  setup_of_p = ap setup_of p_same ∙ ap setup_of z_same ∙ ap setup_of made.goes_on.rest.serves.same

  pub setup_of_l : setup_of l ≡ setup_of x
  setup_of_l = ap setup_of made.goes_on.rest.learns.same ∙ ap setup_of (acked_same links ack x home made.going.tied made.goes_on.sees).0

  none_mixed : p.entry.mixes.items ≡ []
  none_mixed = ap (λ (e : TurnEntry). e.mixes.items) entry_of_p ∙ ap (λ (r : Roomy NormalTake). r.items) made.goes_on.rest.serves.mixes ∙ going_l.none.1

  pub p_tied : IsTied links p
  p_tied = pushed_tied links t l going_l report s made.goes_on.rest.serves made.own room z made.goes_on.rest.edits push p made.goes_on.rest.pushes

  pub mix : (fronts : ℕ → ℕ) × PlaysBy room p q made.goes_on.rest.plays fronts
  mix = plays_by room p q made.goes_on.rest.plays none_mixed (let w = p_tied.sizes.streams_are in omega arith)

  -- ## What the turn saw, and its entry

  abbrev pub c : Setup
  c = setup_of l

  abbrev pub k : Learnt
  k = learnt_by report l.streams

  abbrev pub turns : List TrackSeen
  turns = (serving_of s).turns

  abbrev pub outside : Outside
  outside = record {
    report = report;
    streams = (λ i. listed_at (stream_at l.streams i));
    commands = (λ i. listed_at (slice_get l.commands i));
    stream_front = mix.0;
    command_fronts = done.fronts;
  }

  -- the entry
  abbrev pub told : Turn
  told = record { ended = false; room = room; ack = ack; cycle = report.cycle; tracks = turns; push = push; mixes = (mixing_of q).takes }

  pub tells : turn_of y.entry ≡ told
  tells = made.goes_on.rest.tells ∙ ap (λ (ts : List TrackSeen). record told { tracks = ts }) (ap (λ (r : Roomy TrackTurn). map track_seen r.items) made.goes_on.rest.plays.tracks ∙ ap (λ (e : TurnEntry). map track_seen e.tracks.items) entry_of_p)

  -- ## What it leaves

  pub kept_l : kept_of l ≡ after_ack ack (kept_of x)
  kept_l = ap kept_of made.goes_on.rest.learns.same ∙ acked_kept links ack x home made.going.tied made.goes_on.sees

  pub kept_z : kept_of z ≡ after_edits c k told (kept_of x)
  kept_z = edited_kept links t l going_l report s made.goes_on.rest.serves made.own room z made.goes_on.rest.edits ∙ ap (λ (m : NormalKept). mutated c k room (after_tracks c k told m)) kept_l

  pushed_is : LegalPush (kept_of z) push × (kept_of p ≡ after_push push (kept_of z))
  pushed_is = push_legal push z p made.goes_on.rest.pushes

  kept_q : kept_of q ≡ after_takes c (mixing_of q).takes (kept_of p)
  kept_q = ap kept_of made.goes_on.rest.plays.same ∙ ap (λ (ts : List TrackKept). record (kept_of p) { tracks = ts }) (mix.1.tracks ∙ ap (λ (d : Setup). fold (after_take (asked d)) p.tracks (mixing_of q).takes) setup_of_p)

  pub leaves : kept_of y ≡ after_takes c told.mixes (after_push push (after_edits c k told (kept_of x)))
  leaves = ap kept_of made.goes_on.rest.leaves ∙ kept_q ∙ ap (after_takes c (mixing_of q).takes) (pushed_is.1 ∙ ap (after_push push) kept_z)

  -- ## It is legal

  acked_before : (b : Bool) (m m' : Mutates ServerState StreamNames) → WasAcked m b m' → b ≡ false → 0 < m.past.number
  acked_before true m m' w e = absurd (true≢false e)
  acked_before false m m' w e = w.1.0

  -- a take answers by what was seen before the tracks were served
  take_legal : (take : TakeSeen) → LegalBy (asked (setup_of p)) (mixing_of p) mix.0 take → LegalTake c outside take
  take_legal take b = record {
    looks = subst (λ (d : Setup). LooksBy (asked d) (listed_at (stream_at l.streams take.track)) take.slot (mix.0 take.track)) setup_of_p (by_stream (stream_at p.streams take.track) refl b.there b.looks);
    frames = b.frames;
    place = b.place;
  }
    where
      by_stream : (o : Option ServerState) → stream_at p.streams take.track ≡ o → is_some o ≡ true → LooksBy (asked (setup_of p)) (listed_at o) take.slot (mix.0 take.track) → LooksBy (asked (setup_of p)) (listed_at (stream_at l.streams take.track)) take.slot (mix.0 take.track)
      by_stream None is some looks = absurd (true≢false (sym some))
      by_stream (Some r) is some looks = let there : stream_at z.streams take.track ≡ Some r = sym (ap (λ (w : NormalState). stream_at w.streams take.track) p_same) ∙ is in
          ⊎_elim
          (λ (e : stream_at z.streams take.track ≡ stream_at s.streams take.track). let tells = told_served links t l going_l report s made.goes_on.rest.serves take.track r (sym e ∙ there) in
          looks_still (listed_at (stream_at l.streams take.track)) (listed r) tells.0 tells.1 (asked (setup_of p)) take.slot (mix.0 take.track) looks)
          (λ (e : stream_at z.streams take.track ≡ None). absurd (true≢false (ap is_some (sym there ∙ e))))
          ((edited_mutated links t l going_l report s made.goes_on.rest.serves made.own room z made.goes_on.rest.edits).streams take.track)

  all_legal : (takes : List TakeSeen) → AllByRecursion (LegalBy (asked (setup_of p)) (mixing_of p) mix.0) takes → AllByRecursion (LegalTake c outside) takes
  all_legal [] all = tt
  all_legal (take ∷ takes) all = (take_legal take all.0, all_legal takes all.1)

  pub long : length l.tracks ≡ length x.tracks
  long = ap (λ (m : NormalKept). length m.tracks) kept_l ∙ acked_len ack (kept_of x)

  pub goes_on_legally : GoesOn c outside (kept_of x) told
  goes_on_legally = record {
    ack = acked_before ack x.mutator made.goes_on.sees.mutator made.goes_on.sees.acked;
    report = refl;
    room = (let r = made.goes_on.rest.learns.room_is.0 in let f = going_l.tied.sizes.pipe_is in omega arith);
    whole = done.count ∙ long;
    tracks = (λ i lt. subst (λ (ts : List TrackKept). LegalTrack c k (seen_at turns i) (served_to c k turns ts i) i) (ap (λ (m : NormalKept). m.tracks) kept_l) (done.parts i (let n = long in omega arith)).legal);
    looks = (λ i lt. let part = done.parts i (let n = long in omega arith) in subst (λ (o : Option ServerState). LegalLooks (listed_at o) (seen_at turns i).looks (done.fronts i)) (sym part.has_command) part.looks);
    push = subst (λ (m : NormalKept). LegalPush m push) kept_z pushed_is.0;
    due = mix.1.due ∙ ap (λ (d : Setup). tracks_due d room p.tracks) setup_of_p ∙ ap (λ (ts : List TrackKept). tracks_due c room ts) (ap (λ (w : NormalState). w.tracks) p_same ∙ ap (λ (m : NormalKept). m.tracks) kept_z);
    takes = all_legal (mixing_of q).takes mix.1.legal;
  }

  neither : (a b : Bool) → a ≡ false → b ≡ false → false ≡ (a || b)
  neither true b e f = absurd (true≢false e)
  neither false b e f = sym f

  module _ (lives : x.ended ≡ false) (no_exit : (commands_exit x.mutator.past.last && ack) ≡ false) where
    pub legal_told : LegalTurn c outside (kept_of x) told
    legal_told = record {
      ends = neither x.ended (commands_exit x.mutator.past.last && ack) lives no_exit;
      still = (λ e. absurd (true≢false (sym e)));
      goes_on = (λ e. goes_on_legally);
    }

    pub turn_legal : LegalTurn (setup_of x) outside (kept_of x) (turn_of y.entry)
    turn_legal = subst (λ (d : Setup × Turn). LegalTurn d.0 outside (kept_of x) d.1) (λ i. (setup_of_l i, sym tells i)) legal_told

    after_told : kept_of y ≡ turn_after c k (kept_of x) told
    unfolding turn_after
    after_told = leaves

    pub turn_kept : kept_of y ≡ turn_after (setup_of x) (learnt outside) (kept_of x) (turn_of y.entry)
    turn_kept = after_told ∙ ap (λ (d : Setup). turn_after d k (kept_of x) told) setup_of_l ∙ ap (turn_after (setup_of x) k (kept_of x)) (sym tells)
