-- Serving the tracks keeps the order.
use Rattle.std.proofs.Common.{◌≡◌, ℕ, zero, suc, ◌<◌, ◌≤◌, Bool, false, true≢false, is_some, sym, refl, ap, subst, ◌∙◌, inl, inr, List, length, Option, Some, None, arith}
use Rattle.af_normal.proofs.Common.{FastState, IsSound, Learnt, Links, Report, ServerEvent, ServerState, Setup, TrackKept, TrackSeen, at_set, is_home, is_out, number_of, seen_at, served, served_len, served_to, slice_get_within, slice_set, slot_for, track_at}
use Rattle.af_normal.specs.Mixing.{stream_at}
use Rattle.af_normal.specs.Order.{AreThere, IsOut, IsTied}
use Rattle.af_normal.specs.Ready.{AreOwn, serving_of}
use Rattle.af_normal.specs.Serving.{StreamAdds}
use Rattle.af_normal.specs.State.{NormalState, setup_of}
use Rattle.af_normal.specs.TurnMade.{ServesAll}
use Rattle.af_normal.specs.Turning.{learnt_by}
use Rattle.af_life.proofs.SoundLives.{Goes, goes_served}
use Rattle.af_life.proofs.SoundSlots.{sound_served}
use Rattle.af_normal.proofs.LegalServed.{ServedTo}
use Rattle.af_normal.proofs.Basics.{within}

-- a proxy is where it was, and one that is away keeps its slot
abbrev pub StaysPut : TrackKept → TrackKept → Type 0
StaysPut s t = (t.holder ≡ s.holder) × (is_home s.holder ≡ false → t.slot ≡ s.slot)

module _ (c : Setup) (k : Learnt) (seen : List TrackSeen) (draft : FastState) (tracks : List TrackKept) (sound : IsSound tracks draft) where
  abbrev T : ℕ → List TrackKept
  T n = served_to c k seen tracks n

  abbrev now : ℕ → TrackKept
  now n = served c k (seen_at seen n).looks (served_to c k seen tracks n) n

  goes : (n : ℕ) → Goes (slot_for c (served_to c k seen tracks n) n) (track_at (served_to c k seen tracks n) n) (served c k (seen_at seen n).looks (served_to c k seen tracks n) n)
  goes n = goes_served c k (seen_at seen n).looks (served_to c k seen tracks n) n ((sound_served c k seen draft tracks n sound).slotted n).unopened

  here : (n : ℕ) → StaysPut (track_at tracks n) (track_at (served_to c k seen tracks n) n) → StaysPut (track_at tracks n) (served c k (seen_at seen n).looks (served_to c k seen tracks n) n)
  here n before = (
    (goes n).holder ∙ before.0,
    λ away. let was : is_home (track_at (served_to c k seen tracks n) n).holder ≡ false = ap is_home before.0 ∙ away in
        elim (goes n).slot as (λ p. (now n).slot ≡ (track_at tracks n).slot) [
          | inl e ↦ e ∙ before.1 away
          | inr g ↦ absurd (true≢false (sym (((sound_served c k seen draft tracks n sound).slotted n).homely g.0) ∙ was))
        ],
  )

  pub stay_put : (n j : ℕ) → StaysPut (track_at tracks j) (track_at (served_to c k seen tracks n) j)
  stay_put zero j = (refl, λ away. refl)
  stay_put (suc n) j = elim (at_set (T n) n (now n) j) as (λ p. StaysPut (track_at tracks j) (track_at (slice_set (served_to c k seen tracks n) n (served c k (seen_at seen n).looks (served_to c k seen tracks n) n)) j)) [
    | inl p ↦ subst (StaysPut (track_at tracks j)) (sym p.1) (subst (λ (i : ℕ). StaysPut (track_at tracks i) (now n)) (sym p.0) (here n (stay_put n n)))
    | inr q ↦ subst (StaysPut (track_at tracks j)) (sym q) (stay_put n j)
  ]

-- what is out stays out
pub out_put : (tracks now : List TrackKept) (out : List Bool) → length now ≡ length tracks → ((j : ℕ) → StaysPut (track_at tracks j) (track_at now j)) → IsOut tracks out → IsOut now out
out_put tracks now out long put h = record {
  at_slot = (λ q low high on. let old = h.at_slot q low high on in (
    old.0,
    (let l = old.1 in omega arith),
    ap number_of ((put old.0).1 old.3) ∙ old.2,
    ap is_home (put old.0).0 ∙ old.3,
  ));
  whole = h.whole;
  of_track = (λ j away. let was : is_home (track_at tracks j).holder ≡ false = sym (ap is_home (put j).0) ∙ away in ap (λ (o : Option ℕ). is_out out (number_of o)) ((put j).1 was) ∙ h.of_track j was);
}

still_some : (o : Option ServerState) (events : List ServerEvent) (p : Option ServerState) → StreamAdds o events p → is_some p ≡ is_some o
still_some None events p e = ap is_some e
still_some (Some s) events p e = ap is_some e.2

module _ (links : Links) (report : Report) (x y : NormalState) (tied : IsTied links x) (serves : ServesAll report x y)
    (done : ServedTo (setup_of x) (learnt_by report x.streams) (length x.tracks) (serving_of x) (serving_of y) (length x.tracks))
    (own : (i : ℕ) → i < length y.tracks → AreOwn links y.streams y.commands y.hands i) where
  abbrev k : Learnt
  k = learnt_by report x.streams

  abbrev turns : List TrackSeen
  turns = (serving_of y).turns

  pub long : length y.tracks ≡ length x.tracks
  long = ap (λ (ts : List TrackKept). length ts) done.tracks ∙ served_len (setup_of x) k turns x.tracks (length x.tracks)

  put : (j : ℕ) → StaysPut (track_at x.tracks j) (track_at y.tracks j)
  put j = subst (λ (ts : List TrackKept). StaysPut (track_at x.tracks j) (track_at ts j)) (sym done.tracks) (stay_put (setup_of x) k turns x.mutator.draft x.tracks tied.sound (length x.tracks) j)

  there : AreThere y.tracks y.streams
  there j lt = let inside : j < length x.tracks = (let l = long in omega arith) in
      still_some (stream_at x.streams j) _ (stream_at y.streams j) (done.parts j inside).streamed ∙ tied.proxies.there j inside ∙ sym (ap is_home (put j).0)

  pub tied_served : IsTied links y
  tied_served = subst (IsTied links) (sym serves.same) (record {
    sound = subst (λ (ts : List TrackKept). IsSound ts x.mutator.draft) (sym done.tracks) (sound_served (setup_of x) k turns x.mutator.draft x.tracks (length x.tracks) tied.sound);
    sizes = record {
      frames = tied.sizes.frames;
      normal = tied.sizes.normal;
      few = (let l = long in let f = tied.sizes.few in omega arith);
      settings = tied.sizes.settings ∙ sym long;
      streams_are = done.long.0 ∙ tied.sizes.streams_are ∙ sym long;
      commands_are = done.long.1 ∙ tied.sizes.commands_are ∙ sym long;
      blocks = subst (λ (n : ℕ). (n ≤ length links.streams.now) × (n ≤ length links.commands.now)) (sym long) tied.sizes.blocks;
      scales = tied.sizes.scales;
      pipe_is = tied.sizes.pipe_is;
    };
    proxies = record {
      there = there;
      streams_of = (λ j s e. (own j (let l = within y.streams j s e in let a = done.long.0 in let b = tied.sizes.streams_are in let d = long in omega arith)).stream_is s e);
      commands_of = (λ j s e. (own j (let l = slice_get_within y.commands j s e in let a = done.long.1 in let b = tied.sizes.commands_are in let d = long in omega arith)).command_is s e);
    };
    out = out_put x.tracks y.tracks x.mutator.out long put tied.out;
    linked = tied.linked;
  })
