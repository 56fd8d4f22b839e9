-- The list of each party grows by what the entry of a turn says.
use Rattle.std.proofs.Common.{◌≡◌, ◌≢◌, ℕ, zero, suc, ◌<◌, ◌≤◌, Bool, true, false, if◌then◌else◌, true≢false, is_some, inl, inr, sym, refl, ap, subst, ◌∙◌, List, [], ◌∷◌, ◌++◌, append_assoc, append-nil, length, Option, Some, None, ⊎_elim, arith}
use Rattle.af_normal.proofs.Common.{HandEvent, HandSide, Learnt, Links, Listed, NormalKept, Outside, Push, Report, ServerEvent, ServerState, Setup, StartsWith, TakeSeen, TrackKept, TrackSeen, Turn, all_command_events, asked, cases_lt, command_list, cycle_events, flat_map, hand_events_of, invalid, is_home, kept, listed, mix_events, seen_at, served_to, slice_get, slice_get_within, some_same, status_events, stream_list, takes_from, track_at, track_in, tracks_at, words_taken}
use Rattle.af_normal.specs.LegalTurned.{hand_events, GoesOnFrom}
use Rattle.af_normal.specs.Mixing.{stream_at}
use Rattle.af_normal.specs.Serving.{Adds, StreamAdds, disabled_events}
use Rattle.af_normal.specs.State.{NormalState, setup_of, kept_of}
use Rattle.af_normal.specs.TurnMade.{mixing_of}
use Rattle.af_normal.specs.Turning.{listed_at}
use Rattle.af_normal.proofs.LegalFlags.{events_still}
use Rattle.af_normal.proofs.LegalMade.{IsMade, going_l, done, mix, told, outside, c, k, turns, setup_of_p, p_same, z_same, kept_l, long}
use Rattle.af_normal.proofs.LegalPlays.{StreamTakes, mix_of, words_of}
use Rattle.af_normal.proofs.OrderServed.{stay_put}
use Rattle.af_normal.proofs.OrderStages.{acked_same}
use Rattle.af_normal.proofs.OrderTurn.{told_served, edited_mutated, seen_past}

-- past the end of the list there is no proxy
beyond : (streams : List (Option ServerState)) (i : ℕ) → length streams ≤ i → stream_at streams i ≡ None
beyond [] i le = refl
beyond (f ∷ streams) zero le = absurd (omega arith)
beyond (f ∷ streams) (suc i) le = beyond streams i (omega arith)

module _ {X Y : Type 0} (f g : X → List Y) (same : (x : X) → f x ≡ g x) where
  flat_same : (xs : List X) → flat_map f xs ≡ flat_map g xs
  flat_same [] = refl
  flat_same (x ∷ xs) = ap (λ (ys : List Y). ys ++ flat_map f xs) (same x) ∙ ap (λ (ys : List Y). g x ++ ys) (flat_same xs)

module _ (links : Links) (t : ℕ) (x : NormalState) (ack : Bool) (report : Report) (room : ℕ) (push : Push) (y : NormalState) (made : IsMade links t x ack report room push y) where
  abbrev home : NormalState
  home = made.goes_on.home

  abbrev l : NormalState
  l = made.goes_on.rest.learnt

  abbrev s : NormalState
  s = made.goes_on.rest.served

  abbrev z : NormalState
  z = made.goes_on.rest.edited

  abbrev p : NormalState
  p = made.goes_on.rest.pushed

  abbrev q : NormalState
  q = made.goes_on.rest.played

  abbrev cs : Setup
  cs = c links t x ack report room push y made

  abbrev ks : Learnt
  ks = k links t x ack report room push y made

  abbrev ts : List TrackSeen
  ts = turns links t x ack report room push y made

  abbrev o : Outside
  o = outside links t x ack report room push y made

  abbrev e : Turn
  e = told links t x ack report room push y made

  pub y_same : y ≡ record q { entry = y.entry }
  y_same = made.goes_on.rest.leaves

  pub q_same : q ≡ record p { tracks = q.tracks; streams = q.streams; pipe = q.pipe; entry = q.entry; spare_takes = q.spare_takes }
  q_same = made.goes_on.rest.plays.same

  pub home_same : home ≡ record x { tracks = home.tracks; streams = home.streams; mutator = home.mutator }
  home_same = (acked_same links ack x home made.going.tied made.goes_on.sees).0

  -- the tracks when the track i is served
  at_is : (i : ℕ) → served_to cs ks ts l.tracks i ≡ tracks_at cs ks (kept_of x) e i
  at_is i = ap (λ (m : NormalKept). served_to cs ks ts m.tracks i) (kept_l links t x ack report room push y made)

  -- ## Commands and hands

  pub commands_l : l.commands ≡ x.commands
  commands_l = ap (λ (w : NormalState). w.commands) made.goes_on.rest.learns.same ∙ ap (λ (w : NormalState). w.commands) home_same

  commands_y : y.commands ≡ s.commands
  commands_y = ap (λ (w : NormalState). w.commands) y_same ∙ ap (λ (w : NormalState). w.commands) q_same ∙ ap (λ (w : NormalState). w.commands) (p_same links t x ack report room push y made) ∙ ap (λ (w : NormalState). w.commands) (z_same links t x ack report room push y made)

  hands_l : l.hands ≡ x.hands
  hands_l = ap (λ (w : NormalState). w.hands) made.goes_on.rest.learns.same ∙ ap (λ (w : NormalState). w.hands) home_same

  hands_y : y.hands ≡ s.hands
  hands_y = ap (λ (w : NormalState). w.hands) y_same ∙ ap (λ (w : NormalState). w.hands) q_same ∙ ap (λ (w : NormalState). w.hands) (p_same links t x ack report room push y made) ∙ ap (λ (w : NormalState). w.hands) (z_same links t x ack report room push y made)

  pub commands_grow : (i : ℕ) (r : ServerState) → slice_get x.commands i ≡ Some r
      → (v : ServerState) × (slice_get y.commands i ≡ Some v) × Adds r (command_list cs o e (tracks_at cs ks (kept_of x) e i) i) (words_taken (track_in e i).looks) v
  commands_grow i r is =
      let there : slice_get l.commands i ≡ Some r = ap (λ (rs : List ServerState). slice_get rs i) commands_l ∙ is in
      let lt : i < length l.tracks = (let w = slice_get_within l.commands i r there in let n = (going_l links t x ack report room push y made).tied.sizes.commands_are in omega arith) in
      let part = (done links t x ack report room push y made).parts i lt in
      let same : part.command ≡ r = some_same part.command r (sym part.has_command ∙ there) in (
        part.command',
        ap (λ (rs : List ServerState). slice_get rs i) commands_y ∙ part.has_command',
        subst (λ (d : ServerState × Listed × List TrackKept). Adds d.0 (all_command_events d.1 (seen_at ts i).looks ((done links t x ack report room push y made).fronts i) ++ invalid ks (seen_at ts i) d.2 i ++ status_events (seen_at ts i).status) (words_taken (seen_at ts i).looks) part.command')
            (λ j. (same j, sym (ap listed_at part.has_command) j, at_is i j)) part.commanded,
      )

  pub commands_whole : (i : ℕ) (r v : ServerState) → slice_get x.commands i ≡ Some r → slice_get y.commands i ≡ Some v → v.pass.has_hand ≡ r.pass.has_hand
  commands_whole i r v is is' =
      let there : slice_get l.commands i ≡ Some r = ap (λ (rs : List ServerState). slice_get rs i) commands_l ∙ is in
      let lt : i < length l.tracks = (let w = slice_get_within l.commands i r there in let n = (going_l links t x ack report room push y made).tied.sizes.commands_are in omega arith) in
      let part = (done links t x ack report room push y made).parts i lt in
      let same : part.command ≡ r = some_same part.command r (sym part.has_command ∙ there) in
      let same' : part.command' ≡ v = some_same part.command' v (sym (ap (λ (rs : List ServerState). slice_get rs i) commands_y ∙ part.has_command') ∙ is') in
      subst (λ (d : ServerState × ServerState). d.1.pass.has_hand ≡ d.0.pass.has_hand) (λ j. (same j, same' j)) part.whole

  abbrev Events : Option HandSide → List HandEvent
  Events h = elim h as (λ w. List HandEvent) [ None ↦ [] | Some f ↦ f.part.events ]

  pub hands_grow : (i : ℕ) → hand_events y.hands i ≡ hand_events x.hands i ++ hand_events_of e i
  hands_grow i = ap (λ (hs : List HandSide). hand_events hs i) hands_y ∙ here ∙ ap (λ (hs : List HandSide). hand_events hs i ++ hand_events_of e i) hands_l
    where
      here : hand_events s.hands i ≡ hand_events l.hands i ++ hand_events_of e i
      here = elim (cases_lt i (length l.tracks)) as (λ d. hand_events s.hands i ≡ hand_events l.hands i ++ hand_events_of e i) [
        | inl lt ↦ let part = (done links t x ack report room push y made).parts i lt in
            ap Events part.has_flag' ∙ part.disabled.list ∙ ap (λ (h : Option HandSide). Events h ++ disabled_events (seen_at ts i).disabled) (sym part.has_flag)
        | inr le ↦ ap Events ((done links t x ack report room push y made).rest i le).flag ∙ sym (append-nil (hand_events l.hands i))
            ∙ ap (λ (seen : TrackSeen). hand_events l.hands i ++ disabled_events seen.disabled) (sym (seen_past ts i (let n = (done links t x ack report room push y made).count in omega arith)))
      ]

  -- ## The streams

  -- INVALID in the list of a proxy that is home, if its track was found shut
  abbrev pub Invalid : ℕ → List ServerEvent
  Invalid i = if is_home (track_at (tracks_at cs ks (kept_of x) e i) i).holder then invalid ks (seen_at ts i) (tracks_at cs ks (kept_of x) e i) i else []

  -- the events of the mix by the list that the serving left
  abbrev Mixes : ℕ → List ServerEvent
  Mixes i = mix_of (asked (setup_of p)) (mixing_of p) (mix links t x ack report room push y made).0 (mixing_of q).takes i

  taken_if : (b : Bool) (es : List ServerEvent) → b ≡ true → es ≡ (if b then es else [])
  taken_if true es e = refl
  taken_if false es e = absurd (true≢false (sym e))

  -- a track whose proxy is there is one of the list
  some_inside : (streams : List (Option ServerState)) (n i : ℕ) (r : ServerState) → length streams ≡ n → stream_at streams i ≡ Some r → i < n
  some_inside streams n i r long is = elim (cases_lt i n) as (λ d. i < n) [
    | inl lt ↦ lt
    | inr le ↦ absurd (true≢false (sym (ap is_some is) ∙ ap is_some (beyond streams i (omega arith))))
  ]

  -- what serving a track did to its stream proxy
  pub served_grow : (i : ℕ) (r : ServerState) → stream_at s.streams i ≡ Some r → GoesOnFrom (o.streams i) (Invalid i) r
  served_grow i r served = by_learnt (stream_at l.streams i) refl
      (subst (StreamAdds (stream_at l.streams i) (invalid ks (seen_at ts i) (served_to cs ks ts l.tracks i) i)) served ((done links t x ack report room push y made).parts i inside).streamed)
    where
      inside : i < length l.tracks
      inside = some_inside s.streams (length l.tracks) i r ((done links t x ack report room push y made).long.0 ∙ (going_l links t x ack report room push y made).tied.sizes.streams_are) served

      -- before its part the proxy of the track was home
      home_is : is_some (stream_at l.streams i) ≡ true → is_home (track_at (tracks_at cs ks (kept_of x) e i) i).holder ≡ true
      home_is some = ap (λ (tracks : List TrackKept). is_home (track_at tracks i).holder) (sym (at_is i))
          ∙ ap is_home (stay_put cs ks ts l.mutator.draft l.tracks (going_l links t x ack report room push y made).tied.sound i i).0
          ∙ sym ((going_l links t x ack report room push y made).tied.proxies.there i inside) ∙ some

      by_learnt : (f : Option ServerState) → stream_at l.streams i ≡ f → StreamAdds f (invalid ks (seen_at ts i) (served_to cs ks ts l.tracks i) i) (Some r) → GoesOnFrom (listed_at (stream_at l.streams i)) (Invalid i) r
      by_learnt None e a = absurd (true≢false (ap is_some a))
      by_learnt (Some r0) was (r1, a, is_r) = let same : r1 ≡ r = some_same r1 r (sym is_r) in (
        ap (λ (w : ServerState). w.pass.part.events) (sym same) ∙ a.list
            ∙ ap (λ (tracks : List TrackKept). r0.pass.part.events ++ invalid ks (seen_at ts i) tracks i) (at_is i)
            ∙ ap (λ (es : List ServerEvent). r0.pass.part.events ++ es) (taken_if (is_home (track_at (tracks_at cs ks (kept_of x) e i) i).holder) (invalid ks (seen_at ts i) (tracks_at cs ks (kept_of x) e i) i) (home_is (ap is_some was)))
            ∙ ap (λ (f : Option ServerState). (listed_at f).events ++ Invalid i) (sym was),
        ap (λ (w : ServerState). w.pass.part.shape) (sym same) ∙ a.shape ∙ ap (λ (f : Option ServerState). (listed_at f).shape) (sym was),
      )

  -- before INVALID is set the list of the stream proxy goes on from what the hand knew of it
  pub recalls : (i : ℕ) (h : HandSide) → slice_get x.hands i ≡ Some h → is_home (track_at (tracks_at cs ks (kept_of x) e i) i).holder ≡ true → invalid ks (seen_at ts i) (tracks_at cs ks (kept_of x) e i) i ≢ [] → StartsWith (o.streams i).events h.known
  recalls i h is at_home some = by_stream (stream_at l.streams i) refl
    where
      there : slice_get l.hands i ≡ Some h
      there = ap (λ (hs : List HandSide). slice_get hs i) hands_l ∙ is

      inside : i < length l.tracks
      inside = (let w = slice_get_within x.hands i h is in let n = made.going.hands.whole in let m = long links t x ack report room push y made in omega arith)

      by_stream : (f : Option ServerState) → stream_at l.streams i ≡ f → StartsWith (o.streams i).events h.known
      by_stream None none = absurd (true≢false (sym at_home ∙ ap (λ (tracks : List TrackKept). is_home (track_at tracks i).holder) (sym (at_is i))
          ∙ ap is_home (stay_put cs ks ts l.mutator.draft l.tracks (going_l links t x ack report room push y made).tied.sound i i).0
          ∙ sym ((going_l links t x ack report room push y made).tied.proxies.there i inside) ∙ ap is_some none))
      by_stream (Some r) was =
          let part = (done links t x ack report room push y made).parts i inside in
          let same : part.flag ≡ h = some_same part.flag h (sym part.has_flag ∙ there) in
          subst (λ (d : Option ServerState × HandSide). StartsWith (listed_at d.0).events d.1.known) (λ j. (sym was j, same j))
          (part.recalled r was (λ none. some (ap (λ (tracks : List TrackKept). invalid ks (seen_at ts i) tracks i) (sym (at_is i)) ∙ none)))

  -- what the mix did to the proxy of a track
  mixes_are : (i : ℕ) (r : ServerState) → stream_at s.streams i ≡ Some r → stream_at p.streams i ≡ Some r → Mixes i ≡ mix_events cs o (mixing_of q).takes i
  mixes_are i r served pushed = flat_same
      (λ (take : TakeSeen). cycle_events (asked (setup_of p)) (listed_at (stream_at p.streams i)) take.slot ((mix links t x ack report room push y made).0 i))
      (λ (take : TakeSeen). cycle_events (asked cs) (listed_at (stream_at l.streams i)) take.slot ((mix links t x ack report room push y made).0 i))
      (λ take. ap (λ (f : Option ServerState). cycle_events (asked (setup_of p)) (listed_at f) take.slot ((mix links t x ack report room push y made).0 i)) pushed
      ∙ events_still (listed_at (stream_at l.streams i)) (listed r) told_is.0 told_is.1 (asked (setup_of p)) take.slot ((mix links t x ack report room push y made).0 i)
      ∙ ap (λ (d : Setup). cycle_events (asked d) (listed_at (stream_at l.streams i)) take.slot ((mix links t x ack report room push y made).0 i)) (setup_of_p links t x ack report room push y made))
      (takes_from (mixing_of q).takes i)
    where
      told_is : ((listed r).shape ≡ (listed_at (stream_at l.streams i)).shape) × (kept (listed r) ≡ kept (listed_at (stream_at l.streams i)))
      told_is = told_served links t l (going_l links t x ack report room push y made) report s made.goes_on.rest.serves i r served

  pub streams_grow : (i : ℕ) (v : ServerState) → stream_at y.streams i ≡ Some v → GoesOnFrom (o.streams i) (stream_list cs o e (tracks_at cs ks (kept_of x) e i) i) v
  streams_grow i v is = from_played (stream_at p.streams i) refl ((mix links t x ack report room push y made).1.streams i)
    where
      there : stream_at q.streams i ≡ Some v
      there = sym (ap (λ (w : NormalState). stream_at w.streams i) y_same) ∙ is

      from_served : (r : ServerState) → stream_at s.streams i ≡ Some r → stream_at p.streams i ≡ Some r → Adds r (Mixes i) (words_of (takes_from (mixing_of q).takes i)) v → GoesOnFrom (o.streams i) (stream_list cs o e (tracks_at cs ks (kept_of x) e i) i) v
      from_served r served pushed adds = let before = served_grow i r served in (
        adds.list ∙ ap (λ (es : List ServerEvent). r.pass.part.events ++ es) (mixes_are i r served pushed)
            ∙ ap (λ (es : List ServerEvent). es ++ mix_events cs o (mixing_of q).takes i) before.0
            ∙ append_assoc (o.streams i).events (Invalid i) (mix_events cs o (mixing_of q).takes i),
        adds.shape ∙ before.1,
      )

      from_played : (f : Option ServerState) → stream_at p.streams i ≡ f → StreamTakes f (Mixes i) (words_of (takes_from (mixing_of q).takes i)) (stream_at q.streams i) → GoesOnFrom (o.streams i) (stream_list cs o e (tracks_at cs ks (kept_of x) e i) i) v
      from_played None e a = absurd (true≢false (ap is_some (sym there ∙ a)))
      from_played (Some r) pushed (w, adds, is_w) =
          let same : w ≡ v = some_same w v (sym is_w ∙ there) in
          let edited : stream_at z.streams i ≡ Some r = sym (ap (λ (n : NormalState). stream_at n.streams i) (p_same links t x ack report room push y made)) ∙ pushed in
          ⊎_elim
          (λ (f : stream_at z.streams i ≡ stream_at s.streams i). from_served r (sym f ∙ edited) pushed (subst (Adds r (Mixes i) (words_of (takes_from (mixing_of q).takes i))) same adds))
          (λ (f : stream_at z.streams i ≡ None). absurd (true≢false (ap is_some (sym edited ∙ f))))
          ((edited_mutated links t l (going_l links t x ack report room push y made) report s made.goes_on.rest.serves made.own room z made.goes_on.rest.edits).streams i)
