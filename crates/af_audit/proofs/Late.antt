-- Entries that follow without the state that a turn pushes show no more of a track than they do with it.
use Rattle.std.proofs.Common.{◌≡◌, ◌⊎◌, inl, inr, ℕ, ◌<◌, ◌≤◌, ◌==◌, ◌&&◌, Bool, true, ◌++◌, length, Option, Some, None, refl, sym, ap, ◌∙◌, subst, eqb-true, eq-eqb, arith}
use Rattle.af_audit.proofs.Common.{BlockTold, CarriesApart, EntrySeen, FastState, FastTrack, Listed, Run, Session, TrackTold, both as both-true, carries, cycle_events, cycle_frames, entry_slot, front_of, is_shown, listed, mixed_track, played, shows_slot, plays_track, slot_playing, slot_of, slots, state_for, told_at, told_each, with_cycle, with_mix, with_poll}
use Rattle.af_audit.proofs.Growing.{grows_cycle, run_told}
use Rattle.af_audit.proofs.TrackStands.{server-server}
use Rattle.af_audit.proofs.Measure.{Measure, of_run, of_server}
use Rattle.af_audit.proofs.FirstFound.{found_at, none_found}

-- ## The slot that plays a track

pub record PlaysAt (x : FastState) (e : EntrySeen) (n j : ℕ) : Type 0 where
  pub low : j < slots
  pub carried : carries x j ≡ true
  pub shown : is_shown (entry_slot e.entry j).seen ≡ true
  pub track : (slot_of x j).track ≡ n

pub plays_at : (x : FastState) (e : EntrySeen) (n j : ℕ) → slot_playing x e.entry n ≡ Some j → PlaysAt x e n j
plays_at x e n j found =
    let at = found_at (plays_track x e.entry n) 0 slots j found in
    let here = both-true (shows_slot x e.entry j) ((slot_of x j).track == n) at.holds in
    let both = both-true (carries x j) (is_shown (entry_slot e.entry j).seen) here.0 in
    record { low = (let h = at.high in omega (arith, h)); carried = both.0; shown = both.1; track = eqb-true (slot_of x j).track n here.1 }

pub plays_none : (x : FastState) (e : EntrySeen) (n j : ℕ) → slot_playing x e.entry n ≡ None → PlaysAt x e n j → ⊥
plays_none x e n j none p =
    let same : ((slot_of x j).track == n) ≡ true = eq-eqb (slot_of x j).track n p.track in
    none_found (plays_track x e.entry n) 0 slots j none (omega arith) (let l = p.low in omega (arith, l)) (ap (λ (b : Bool × Bool × Bool). (b.0 && b.1) && b.2) (λ i. (p.carried i, p.shown i, same i)))

-- ## One server

abbrev pub played_listed : ℕ → EntrySeen → ℕ → Listed → Listed
played_listed asked e i l = let slot = entry_slot e.entry i in record { shape = l.shape; events = l.events ++ cycle_events asked l slot (front_of asked l slot) }

pub listed_played : (asked : ℕ) (e : EntrySeen) (i : ℕ) (b : BlockTold) → listed (played asked e i b) ≡ played_listed asked e i (listed b)
listed_played asked e i b = let slot = entry_slot e.entry i in
    ap (λ es. record { shape = b.shape; events = es }) (server-server b.told (cycle_events asked (listed b) slot (front_of asked (listed b) slot)))

module _ (measure : Measure) where
  module _ (s : Session) (n : ℕ) (x y : FastState) (same : (j : ℕ) → j < slots → carries x j ≡ true → carries y j ≡ true → slot_of y j ≡ slot_of x j) (apart : CarriesApart y) where
    -- the first state has the track in no slot that the second carries
    abbrev Never : Type 0
    Never = (j : ℕ) → j < slots → carries x j ≡ true → (slot_of x j).track ≡ n → carries y j ≡ true → ⊥

    -- a track's server is the same in both runs, or the first run never plays the track and shows no more of it
    pub record Behind (a b : Run) : Type 0 where
      pub there : n < length a.tracks
      pub also : n < length b.tracks
      pub behind : (listed (told_at a n).stream ≡ listed (told_at b n).stream) ⊎ (Never × (of_run measure a n ≤ of_run measure b n))

    pub behind_told : (a b : Run) → Behind a b → of_run measure a n ≤ of_run measure b n
    behind_told a b h = by h.behind
      where
        by : (listed (told_at a n).stream ≡ listed (told_at b n).stream) ⊎ (Never × (of_run measure a n ≤ of_run measure b n)) → of_run measure a n ≤ of_run measure b n
        by (inl e) = let c = ap (λ (l : Listed). of_server measure l) e in omega (arith, c)
        by (inr p) = p.1

    module _ (e : EntrySeen) (shows : (j : ℕ) → j < slots → carries x j ≡ true → is_shown (entry_slot e.entry j).seen ≡ true → carries y j ≡ true) where
      -- what the first state plays the second plays too
      also_plays : (j : ℕ) → PlaysAt x e n j → PlaysAt y e n j
      also_plays j p = let c = shows j p.low p.carried p.shown in
          record { low = p.low; carried = c; shown = p.shown; track = ap (λ (t : FastTrack). t.track) (same j p.low p.carried c) ∙ p.track }

      one_slot : (j k : ℕ) → PlaysAt y e n j → PlaysAt y e n k → j ≡ k
      one_slot j k p q = apart j k p.low q.low p.carried q.carried (p.track ∙ sym q.track)

      streams_step : (asked : ℕ) (t u : TrackTold) (o p : Option ℕ) → slot_playing x e.entry n ≡ o → slot_playing y e.entry n ≡ p
          → (listed t.stream ≡ listed u.stream) ⊎ (Never × (of_server measure (listed t.stream) ≤ of_server measure (listed u.stream)))
          → (let v : TrackTold = elim p as (λ o. TrackTold) [ None ↦ u | Some i ↦ record u { stream = played asked e i u.stream } ] in of_server measure (listed u.stream) ≤ of_server measure (listed v.stream))
          → (let w : TrackTold = elim o as (λ o. TrackTold) [ None ↦ t | Some i ↦ record t { stream = played asked e i t.stream } ] in
          let v : TrackTold = elim p as (λ o. TrackTold) [ None ↦ u | Some i ↦ record u { stream = played asked e i u.stream } ] in
          (listed w.stream ≡ listed v.stream) ⊎ (Never × (of_server measure (listed w.stream) ≤ of_server measure (listed v.stream))))
      streams_step asked t u (Some i) (Some k) f g (inl h) grows =
          let at = plays_at x e n i f in
          let is : i ≡ k = one_slot i k (also_plays i at) (plays_at y e n k g) in
          inl (listed_played asked e i t.stream ∙ (λ z. played_listed asked e (is z) (h z)) ∙ sym (listed_played asked e k u.stream))
      streams_step asked t u (Some i) None f g (inl h) grows = absurd (plays_none y e n i g (also_plays i (plays_at x e n i f)))
      streams_step asked t u (Some i) p f g (inr h) grows = let at = plays_at x e n i f in absurd (h.0 i at.low at.carried at.track (shows i at.low at.carried at.shown))
      streams_step asked t u None None f g (inl h) grows = inl h
      streams_step asked t u None (Some k) f g (inl h) grows =
          let q = plays_at y e n k g in
          let never : Never = λ j low carried track also.
          let slot = same j low carried also in
          let is : j ≡ k = apart j k low q.low also q.carried (ap (λ (t : FastTrack). t.track) slot ∙ track ∙ sym q.track) in
          plays_none x e n j f (record { low = low; carried = carried; shown = subst (λ (z : ℕ). is_shown (entry_slot e.entry z).seen ≡ true) (sym is) q.shown; track = track }) in
          inr (never, (let c = ap (λ (l : Listed). of_server measure l) h in omega (arith, c, grows)))
      streams_step asked t u None p f g (inr h) grows = inr (h.0, (let c = h.1 in omega (arith, c, grows)))

      cycle_track : (run : Run) (z : FastState) → n < length run.tracks → state_for s (with_poll s e.entry.state run) e.entry.state ≡ z → told_at (with_cycle s run e) n ≡ mixed_track s z e n (told_at run n)
      unfolding with_mix with_poll
      cycle_track run z low is = let r : Run = with_poll s e.entry.state run in
          told_each (mixed_track s (state_for s r e.entry.state) e) r n low ∙ ap (λ (q : FastState). mixed_track s q e n (told_at run n)) is

      -- an entry keeps the first run behind the second
      pub behind_cycle : (a b : Run) → state_for s (with_poll s e.entry.state a) e.entry.state ≡ x → state_for s (with_poll s e.entry.state b) e.entry.state ≡ y → Behind a b → Behind (with_cycle s a e) (with_cycle s b e)
      behind_cycle a b xs ys h =
          let one = cycle_track a x h.there xs in
          let two = cycle_track b y h.also ys in
          let grows = run_told measure b (with_cycle s b e) (grows_cycle s e b) n in
          record {
            there = (let m = (grows_cycle s e a).many in let t = h.there in omega (arith, m, t));
            also = (let m = (grows_cycle s e b).many in let t = h.also in omega (arith, m, t));
            behind = subst (λ (w : TrackTold × TrackTold). (listed w.0.stream ≡ listed w.1.stream) ⊎ (Never × (of_server measure (listed w.0.stream) ≤ of_server measure (listed w.1.stream)))) (λ z. (sym one z, sym two z))
                (streams_step (cycle_frames s) (told_at a n) (told_at b n) (slot_playing x e.entry n) (slot_playing y e.entry n) refl refl h.behind
                (subst (λ (v : TrackTold). of_run measure b n ≤ of_server measure (listed v.stream)) two grows));
          }
