-- The order after a whole turn.
use Rattle.std.proofs.Common.{◌≡◌, ℕ, ◌≤◌, Bool, is_some, inl, inr, sym, refl, ap, subst, ◌∙◌, List, [], ◌∷◌, length, Option, Some, None, arith}
use Rattle.af_normal.proofs.Common.{IsSound, IsStreamOf, Links, Made, Push, Report, ServerEvent, ServerState, TakeSeen, TrackKept, after_take, asked, at_set, look_counted, fold, is_home, slice_set, takes_len, track_at}
use Rattle.af_normal.specs.Mixing.{stream_at}
use Rattle.af_normal.specs.Order.{AreThere, IsTied}
use Rattle.af_normal.specs.State.{NormalState, setup_of}
use Rattle.af_normal.specs.TurnMade.{mixing_of}
use Rattle.af_normal.proofs.LegalMade.{IsMade, PlaysBy, mix, p_tied}
use Rattle.af_normal.proofs.LegalPlays.{StreamTakes}
use Rattle.af_normal.proofs.OrderServed.{StaysPut, out_put}
use Rattle.af_life.proofs.SoundTurns.{sound_takes}

-- ## The looks that count

module _ (asked : ℕ) where
  stays_one : (tracks : List TrackKept) (take : TakeSeen) (j : ℕ) → StaysPut (track_at tracks j) (track_at (after_take asked tracks take) j)
  stays_one tracks take j =
      let i : ℕ = take.track in
      let s : TrackKept = track_at tracks i in
      let t : TrackKept = record s { own = look_counted asked take.slot.seen s.own } in
      elim (at_set tracks i t j) as (λ p. StaysPut (track_at tracks j) (track_at (slice_set tracks i t) j)) [
        | inl p ↦ subst (StaysPut (track_at tracks j)) (sym p.1) (subst (λ (n : ℕ). StaysPut (track_at tracks n) t) (sym p.0) (refl, λ a. refl))
        | inr e ↦ subst (StaysPut (track_at tracks j)) (sym e) (refl, λ a. refl)
      ]

  pub stays_all : (takes : List TakeSeen) (tracks : List TrackKept) (j : ℕ) → StaysPut (track_at tracks j) (track_at (fold (after_take asked) tracks takes) j)
  stays_all [] tracks j = (refl, λ a. refl)
  stays_all (take ∷ takes) tracks j = let one = stays_one tracks take j in let more = stays_all takes (after_take asked tracks take) j in
      (more.0 ∙ one.0, λ a. more.1 (ap is_home one.0 ∙ a) ∙ one.1 a)

takes_some : (o : Option ServerState) (events : List ServerEvent) (words : List ℕ) (p : Option ServerState) → StreamTakes o events words p → is_some p ≡ is_some o
takes_some None events words p e = ap is_some e
takes_some (Some s) events words p e = ap is_some e.2

-- ## A turn that went on

module _ (links : Links) (t : ℕ) (x : NormalState) (ack : Bool) (report : Report) (room : ℕ) (push : Push) (y : NormalState) (made : IsMade links t x ack report room push y) where
  abbrev p : NormalState
  p = made.goes_on.rest.pushed

  abbrev q : NormalState
  q = made.goes_on.rest.played

  tied : IsTied links p
  tied = p_tied links t x ack report room push y made

  by : PlaysBy room p q made.goes_on.rest.plays (mix links t x ack report room push y made).0
  by = (mix links t x ack report room push y made).1

  tracks_long : length q.tracks ≡ length p.tracks
  tracks_long = ap (λ (ts : List TrackKept). length ts) by.tracks ∙ takes_len (asked (setup_of p)) (mixing_of q).takes p.tracks

  put : (j : ℕ) → StaysPut (track_at p.tracks j) (track_at q.tracks j)
  put j = subst (λ (ts : List TrackKept). StaysPut (track_at p.tracks j) (track_at ts j)) (sym by.tracks) (stays_all (asked (setup_of p)) (mixing_of q).takes p.tracks j)

  there : AreThere q.tracks q.streams
  there j lt = takes_some (stream_at p.streams j) _ _ (stream_at q.streams j) (by.streams j) ∙ tied.proxies.there j (let l = tracks_long in omega arith) ∙ sym (ap is_home (put j).0)

  -- if the stream proxies are of their blocks afterwards, all is tied
  pub tied_played : ((j : ℕ) (s : ServerState) → stream_at q.streams j ≡ Some s → IsStreamOf links.streams.now j s) → IsTied links q
  tied_played of = subst (IsTied links) (sym made.goes_on.rest.plays.same) (record {
    sound = subst (λ (ts : List TrackKept). IsSound ts p.mutator.draft) (sym by.tracks) (sound_takes (asked (setup_of p)) p.mutator.draft (mixing_of q).takes p.tracks tied.sound);
    sizes = record {
      frames = tied.sizes.frames;
      normal = tied.sizes.normal;
      few = (let l = tracks_long in let f = tied.sizes.few in omega arith);
      settings = tied.sizes.settings ∙ sym tracks_long;
      streams_are = by.long ∙ tied.sizes.streams_are ∙ sym tracks_long;
      commands_are = tied.sizes.commands_are ∙ sym tracks_long;
      blocks = subst (λ (n : ℕ). (n ≤ length links.streams.now) × (n ≤ length links.commands.now)) (sym tracks_long) tied.sizes.blocks;
      scales = tied.sizes.scales;
      pipe_is = ap (λ (m : Made). m.shape.frames) made.goes_on.rest.plays.made ∙ tied.sizes.pipe_is;
    };
    proxies = record { there = there; streams_of = of; commands_of = tied.proxies.commands_of };
    out = out_put p.tracks q.tracks p.mutator.out tracks_long put tied.out;
    linked = record { names = tied.linked.names; queue_is = tied.linked.queue_is; report_is = tied.linked.report_is; pipe_is = made.goes_on.rest.plays.made ∙ tied.linked.pipe_is };
  })
