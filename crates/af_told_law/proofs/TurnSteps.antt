-- The steps of a turn that goes on, without asking that the proxies are of their blocks: what is learnt and kept, and which proxy each step leaves at home.
use Rattle.std.proofs.Common.{◌≡◌, ℕ, zero, suc, ◌<◌, ◌≤◌, inl, inr, Bool, false, refl, sym, ap, subst, ◌∙◌, List, [], ◌∷◌, ◌++◌, append-nil, length, map, fold, Option, Some, None, ⊎_elim, arith}
use Rattle.af_told_law.proofs.Common.{GoesOnBy, IsOut, IsSound, IsTied, Learnt, Links, Mutates, NormalKept, NormalState, Push, Report, ServerState, StaysPut, StreamAdds, StreamNames, StreamTakes, TakeSeen, TrackKept, TrackSeen, Turn, acked_kept, acked_len, acked_list, acked_same, after_ack, after_edits, after_take, after_tracks, asked, at_set, cases_lt, look_counted, home_stream, invalid, kept, kept_of, known_by, learnt_by, listed_at, mix_of, mixing_of, none-some, out_put, same_Some, seen_at, served_len, served_to, setup_of, slice_get, stay_put, stream_at, takes_from, tied_acked, tied_learnt, track_at, track_seen, turn_of, words_of}
use Rattle.af_base.specs.declared.turn.NormalTake.{NormalTake}
use Rattle.af_base.specs.declared.turn.TrackTurn.{TrackTurn}
use Rattle.af_base.specs.declared.turn.TurnEntry.{TurnEntry}
use Rattle.af_base.specs.Roomy.{Roomy}
use Rattle.af_server.specs.Slot.{listed}
use Rattle.af_life.specs.Edits.{mutated}
use Rattle.af_normal.specs.Ready.{serving_of}
use Rattle.af_normal.proofs.LegalEdits.{Mutated, edits_are, edits_same}
use Rattle.af_normal.proofs.LegalFlags.{told_still, known_still}
use Rattle.af_normal.proofs.LegalMade.{PlaysBy, plays_by}
use Rattle.af_normal.proofs.LegalServed.{ServedTo, served_all}
use Rattle.af_life.proofs.SoundSlots.{sound_served}

-- the first n of a list are there
there_are : {X : Type 0} (xs : List X) (n : ℕ) → n ≤ length xs → (j : ℕ) → j < n → (s : X) × (slice_get xs j ≡ Some s)
there_are [] n le j lt = absurd (omega arith)
there_are (s ∷ xs) n le zero lt = (s, refl)
there_are (s ∷ xs) zero le (suc j) lt = absurd (omega arith)
there_are (s ∷ xs) (suc n) le (suc j) lt = there_are xs n (omega arith) j (omega arith)

-- a track is where it was, in its slot
abbrev Same : TrackKept → TrackKept → Type 0
Same s t = (t.holder ≡ s.holder) × (t.slot ≡ s.slot)

-- a take moves no track
pub takes_put : (many : ℕ) (takes : List TakeSeen) (tracks : List TrackKept) (j : ℕ) → ((track_at (fold (after_take many) tracks takes) j).holder ≡ (track_at tracks j).holder) × ((track_at (fold (after_take many) tracks takes) j).slot ≡ (track_at tracks j).slot)
takes_put many [] tracks j = (refl, refl)
takes_put many (take ∷ takes) tracks j = let rest = takes_put many takes (after_take many tracks take) j in (rest.0 ∙ (one_put tracks take).0, rest.1 ∙ (one_put tracks take).1)
  where
    one_put : (tracks : List TrackKept) (take : TakeSeen) → Same (track_at tracks j) (track_at (after_take many tracks take) j)
    one_put tracks take = elim (at_set tracks take.track (record (track_at tracks take.track) { own = look_counted many take.slot.seen (track_at tracks take.track).own }) j) as (λ p. Same (track_at tracks j) (track_at (after_take many tracks take) j)) [
      | inl p ↦ subst (Same (track_at tracks j)) (sym p.1) (subst (λ (n : ℕ). Same (track_at tracks j) (track_at tracks n)) p.0 (refl, refl))
      | inr q ↦ subst (Same (track_at tracks j)) (sym q) (refl, refl)
    ]

module _ (links : Links) (x : NormalState) (tied : IsTied links x) (enough : length x.hands ≡ length x.tracks) (empty : (x.entry.tracks.items ≡ []) × (x.entry.mixes.items ≡ []))
    (ack : Bool) (report : Report) (room : ℕ) (push : Push) (y : NormalState) (by : GoesOnBy ack report room push x y) where
  abbrev home : NormalState
  home = by.home

  abbrev l : NormalState
  l = by.rest.learnt

  abbrev s : NormalState
  s = by.rest.served

  abbrev z : NormalState
  z = by.rest.edited

  abbrev p : NormalState
  p = by.rest.pushed

  abbrev q : NormalState
  q = by.rest.played

  -- ## The acknowledgement, and what is learnt

  pub home_same : home ≡ record x { tracks = home.tracks; streams = home.streams; mutator = home.mutator }
  home_same = (acked_same links ack x home tied by.sees).0

  pub tied_l : IsTied links l
  tied_l = tied_learnt links report room home l (tied_acked links ack x home tied by.sees) by.rest.learns

  pub kept_l : kept_of l ≡ after_ack ack (kept_of x)
  kept_l = ap kept_of by.rest.learns.same ∙ acked_kept links ack x home tied by.sees

  pub long_l : length l.tracks ≡ length x.tracks
  long_l = ap (λ (m : NormalKept). length m.tracks) kept_l ∙ acked_len ack (kept_of x)

  pub setup_l : setup_of l ≡ setup_of x
  setup_l = ap setup_of by.rest.learns.same ∙ ap setup_of home_same

  -- the items that came by the look
  abbrev pub back : List (Option ServerState)
  back = (acked_list links ack x home tied by.sees).0

  pub streams_l : (i : ℕ) → stream_at l.streams i ≡ home_stream ack (kept_of x) back x i
  streams_l i = ap (λ (w : NormalState). stream_at w.streams i) by.rest.learns.same ∙ (acked_list links ack x home tied by.sees).3 i

  -- ## The tracks are served

  abbrev pub k : Learnt
  k = learnt_by report l.streams

  abbrev pub turns : List TrackSeen
  turns = (serving_of s).turns

  pub done : ServedTo (setup_of l) (learnt_by report l.streams) (length l.tracks) (serving_of l) (serving_of s) (length l.tracks)
  done = served_all (setup_of l) (learnt_by report l.streams) (length l.tracks) (serving_of l)
      (record {
        streams = (let w = tied_l.sizes.streams_are in omega arith);
        commands = there_are l.commands (length l.tracks) (let w = tied_l.sizes.commands_are in omega arith);
        hands = there_are l.hands (length l.tracks) (let w = hands_l in let n = long_l in omega arith);
      })
      (ap (map track_seen) none_l) (length l.tracks) (omega arith) (serving_of s) by.rest.serves.tracks
    where
      hands_l : length l.hands ≡ length x.tracks
      hands_l = ap (λ (w : NormalState). length w.hands) by.rest.learns.same ∙ ap (λ (w : NormalState). length w.hands) home_same ∙ enough

      none_l : l.entry.tracks.items ≡ []
      none_l = ap (λ (w : NormalState). w.entry.tracks.items) by.rest.learns.same ∙ ap (λ (w : NormalState). w.entry.tracks.items) home_same ∙ empty.0

  pub mutator_s : s.mutator ≡ l.mutator
  mutator_s = ap (λ (w : NormalState). w.mutator) by.rest.serves.same

  pub mutator_l : l.mutator ≡ home.mutator
  mutator_l = ap (λ (w : NormalState). w.mutator) by.rest.learns.same

  pub setup_s : setup_of s ≡ setup_of l
  setup_s = ap setup_of by.rest.serves.same

  pub put_s : (j : ℕ) → StaysPut (track_at l.tracks j) (track_at s.tracks j)
  put_s j = subst (λ (ts : List TrackKept). StaysPut (track_at l.tracks j) (track_at ts j)) (sym done.tracks) (stay_put (setup_of l) k turns l.mutator.draft l.tracks tied_l.sound (length l.tracks) j)

  pub sound_s : IsSound s.tracks s.mutator.draft
  sound_s = subst (λ (m : Mutates ServerState StreamNames). IsSound s.tracks m.draft) (sym mutator_s)
      (subst (λ (ts : List TrackKept). IsSound ts l.mutator.draft) (sym done.tracks) (sound_served (setup_of l) k turns l.mutator.draft l.tracks (length l.tracks) tied_l.sound))

  pub out_s : IsOut s.tracks s.mutator.out
  out_s = subst (λ (m : Mutates ServerState StreamNames). IsOut s.tracks m.out) (sym mutator_s)
      (out_put l.tracks s.tracks l.mutator.out (ap (λ (ts : List TrackKept). length ts) done.tracks ∙ served_len (setup_of l) k turns l.tracks (length l.tracks)) put_s tied_l.out)

  -- a proxy that is home was home, has the same frames and tells the same
  pub record Still (o : Option ServerState) (t : ServerState) : Type 0 where
    pub before : ServerState
    pub was : o ≡ Some before
    pub frames : t.pass.part.frames ≡ before.pass.part.frames
    pub told : ((listed t).shape ≡ (listed_at o).shape) × (kept (listed t) ≡ kept (listed_at o))

  pub still_s : (i : ℕ) (t : ServerState) → stream_at s.streams i ≡ Some t → Still (stream_at l.streams i) t
  still_s i t is = ⊎_elim
      (λ (lt : i < length l.tracks). by_stream (stream_at l.streams i) (stream_at s.streams i) is (done.parts i lt).streamed)
      (λ (le : length l.tracks ≤ i). subst (λ (o : Option ServerState). Still o t) (sym is ∙ (done.rest i le).stream) (record { before = t; was = refl; frames = refl; told = (refl, refl) }))
      (cases_lt i (length l.tracks))
    where
      by_stream : (o u : Option ServerState) → u ≡ Some t → StreamAdds o (invalid k (seen_at turns i) (served_to (setup_of l) k turns l.tracks i) i) u → Still o t
      by_stream None u e a = absurd (none-some _ (sym a ∙ e))
      by_stream (Some r) u e (v, adds, is_v) = subst (Still (Some r)) (same_Some _ _ (sym is_v ∙ e)) (record {
        before = r;
        was = refl;
        frames = adds.took ∙ append-nil r.pass.part.frames;
        told = told_still k (seen_at turns i) (served_to (setup_of l) k turns l.tracks i) i r v adds;
      })

  pub own_still : (i : ℕ) (t : ServerState) → stream_at s.streams i ≡ Some t → known_by (listed_at (stream_at l.streams i)) ≡ known_by (listed t)
  own_still i t is = let told = (still_s i t is).told in sym (known_still (listed_at (stream_at l.streams i)) (listed t) told.0 told.1)

  -- ## The draft is edited

  pub mutated_z : Mutated (setup_of l) (learnt_by report l.streams) room s z (sym setup_s) own_still
  mutated_z = edits_same (setup_of l) k room s z (sym setup_s) own_still by.rest.edits

  served_kept : kept_of s ≡ record (kept_of l) { tracks = served_to (setup_of l) k turns l.tracks (length l.tracks) }
  served_kept = ap kept_of by.rest.serves.same ∙ ap (λ (ts : List TrackKept). record (kept_of l) { tracks = ts }) done.tracks

  -- ## The entry

  abbrev pub told : Turn
  told = record { ended = false; room = room; ack = ack; cycle = report.cycle; tracks = turns; push = push; mixes = (mixing_of q).takes }

  p_same : p ≡ record z { mutator = p.mutator }
  p_same = by.rest.pushes.same

  entry_p : p.entry ≡ s.entry
  entry_p = ap (λ (w : NormalState). w.entry) p_same ∙ ap (λ (w : NormalState). w.entry) mutated_z.same

  pub tells : turn_of y.entry ≡ told
  tells = by.rest.tells ∙ ap (λ (ts : List TrackSeen). record told { tracks = ts }) (ap (λ (r : Roomy TrackTurn). map track_seen r.items) by.rest.plays.tracks ∙ ap (λ (e : TurnEntry). map track_seen e.tracks.items) entry_p)

  pub kept_z : kept_of z ≡ after_edits (setup_of l) (learnt_by report l.streams) told (kept_of x)
  kept_z = edits_are (setup_of l) k room s z (sym setup_s) own_still by.rest.edits ∙ ap (mutated (setup_of l) k room) served_kept ∙ ap (λ (m : NormalKept). mutated (setup_of l) k room (after_tracks (setup_of l) k told m)) kept_l

  -- ## The buffer

  none_mixed : p.entry.mixes.items ≡ []
  none_mixed = ap (λ (e : TurnEntry). e.mixes.items) entry_p ∙ ap (λ (r : Roomy NormalTake). r.items) by.rest.serves.mixes
      ∙ ap (λ (w : NormalState). w.entry.mixes.items) by.rest.learns.same ∙ ap (λ (w : NormalState). w.entry.mixes.items) home_same ∙ empty.1

  module _ (wide : length p.tracks ≤ length p.streams) where
    pub mix : (fronts : ℕ → ℕ) × PlaysBy room p q by.rest.plays fronts
    mix = plays_by room p q by.rest.plays none_mixed wide

    -- the holder and the slot of each track stay
    pub put_y : (j : ℕ) → ((track_at y.tracks j).holder ≡ (track_at p.tracks j).holder) × ((track_at y.tracks j).slot ≡ (track_at p.tracks j).slot)
    put_y j = subst (λ (ts : List TrackKept). ((track_at ts j).holder ≡ (track_at p.tracks j).holder) × ((track_at ts j).slot ≡ (track_at p.tracks j).slot))
        (sym (ap (λ (w : NormalState). w.tracks) by.rest.leaves ∙ mix.1.tracks)) (takes_put (asked (setup_of p)) (mixing_of q).takes p.tracks j)

    -- a proxy that is home after the turn came home or was home, and took what was taken of it
    pub home_takes : (i : ℕ) (t : ServerState) → stream_at y.streams i ≡ Some t
        → (r : ServerState) × (home_stream ack (kept_of x) back x i ≡ Some r) × (t.pass.part.frames ≡ r.pass.part.frames ++ words_of (takes_from (mixing_of q).takes i))
    home_takes i t is = from_played (stream_at p.streams i) refl (mix.1.streams i)
      where
        there : stream_at q.streams i ≡ Some t
        there = sym (ap (λ (w : NormalState). stream_at w.streams i) by.rest.leaves) ∙ is

        from_served : (r : ServerState) → stream_at s.streams i ≡ Some r → t.pass.part.frames ≡ r.pass.part.frames ++ words_of (takes_from (mixing_of q).takes i)
            → (r : ServerState) × (home_stream ack (kept_of x) back x i ≡ Some r) × (t.pass.part.frames ≡ r.pass.part.frames ++ words_of (takes_from (mixing_of q).takes i))
        from_served r served took = let b = still_s i r served in
            (b.before, sym (streams_l i) ∙ b.was, took ∙ ap (λ (ws : List ℕ). ws ++ words_of (takes_from (mixing_of q).takes i)) b.frames)

        from_played : (o : Option ServerState) → stream_at p.streams i ≡ o → StreamTakes o (mix_of (asked (setup_of p)) (mixing_of p) mix.0 (mixing_of q).takes i) (words_of (takes_from (mixing_of q).takes i)) (stream_at q.streams i)
            → (r : ServerState) × (home_stream ack (kept_of x) back x i ≡ Some r) × (t.pass.part.frames ≡ r.pass.part.frames ++ words_of (takes_from (mixing_of q).takes i))
        from_played None pushed a = absurd (none-some _ (sym a ∙ there))
        from_played (Some r) pushed (w, adds, is_w) =
            let edited : stream_at z.streams i ≡ Some r = sym (ap (λ (n : NormalState). stream_at n.streams i) p_same) ∙ pushed in
            ⊎_elim
            (λ (f : stream_at z.streams i ≡ stream_at s.streams i). from_served r (sym f ∙ edited) (ap (λ (v : ServerState). v.pass.part.frames) (same_Some _ _ (sym there ∙ is_w)) ∙ adds.took))
            (λ (f : stream_at z.streams i ≡ None). absurd (none-some _ (sym f ∙ edited)))
            (mutated_z.streams i)
