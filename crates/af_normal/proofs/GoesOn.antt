-- What each step of a turn that goes on asks for, by the steps before it.
use Rattle.std.proofs.Common.{◌≡◌, ℕ, ◌+◌, ◌*◌, ◌^◌, ◌<◌, ◌≤◌, All, false, List, [], length, Option, Some, sym, ap, subst, ◌∙◌, arith}
use Rattle.af_normal.proofs.Common.{AreUpTo, IsStreamOf, Links, Made, Push, Report, ServerState, Setup, TrackKept, asked, most_tracks}
use Rattle.af_normal.proofs.Basics.{within}
use Rattle.af_normal.specs.Mixing.{stream_at}
use Rattle.af_normal.specs.AllMixed.{AreHome, AreServersOf, HasTakes}
use Rattle.af_normal.specs.Mutating.{EditsAll, Pushes, begun}
use Rattle.af_normal.specs.Order.{IsGoing, IsOpen, IsTied, most_turns}
use Rattle.af_normal.specs.Ready.{AreOwn}
use Rattle.af_normal.specs.State.{NormalState, setup_of}
use Rattle.af_normal.specs.TurnMade.{ServesAll}
use Rattle.af_normal.specs.Turning.{Learns}
use Rattle.af_normal.proofs.Edited.{all_only}
use Rattle.af_normal.proofs.Homes.{servers_of, streams_of}
use Rattle.af_normal.proofs.OrderTurn.{going_learnt, served_mutator, served_tied, served_open, edited_tied, edited_number, pushed_tied, pushed_few, mixed_home}

-- a buffer has frames
pub some_asked : (frames normal : ℕ) → 1 ≤ frames → 1 ≤ normal → 1 ≤ normal * frames
some_asked frames normal f n = grind arith

-- the proxies that are home are of their blocks, each by its number
pub all_streams_of : (blocks : List Made) (streams : List (Option ServerState)) → length streams ≤ length blocks → AreServersOf blocks streams → (i : ℕ) (s : ServerState) → stream_at streams i ≡ Some s → IsStreamOf blocks i s
all_streams_of blocks streams few h i s e = streams_of blocks streams few h i (within streams i s e) s e

module _ (links : Links) (t : ℕ) (x : NormalState) (going : IsGoing links t x) (few : t < most_turns)
    (report : Report) (room : ℕ) (y : NormalState) (learns : Learns report room x y)
    (s : NormalState) (serves : ServesAll report y s) (own : (i : ℕ) → i < length s.tracks → AreOwn links s.streams s.commands s.hands i) where
  pub after : IsGoing links t y
  after = going_learnt links t x going report room y learns

  tied : IsTied links s
  tied = served_tied links t y after report s serves own

  -- ## The mutation

  pub may_mutate : (edits : ℕ) × (edits + 32 < 2 ^ 62) × IsOpen links edits (record s { mutator = begun s.mutator })
  may_mutate = (most_tracks * t, omega arith, served_open links t y after report s serves own)

  same_mutator : s.mutator ≡ y.mutator
  same_mutator = served_mutator links t y after report s serves

  pub is_idle : s.mutator.editing ≡ false
  is_idle = ap (λ m. m.editing) same_mutator ∙ after.idle

  pub few_colds : s.mutator.draft.cold_gen < 2 ^ 62
  few_colds = let e = ap (λ m. m.draft.cold_gen) same_mutator in let l = after.small.draft.colds in omega arith

  pub small_sizes : (s.frames ≤ 1024) × (s.normal ≤ 16)
  small_sizes = (tied.sizes.frames.1, tied.sizes.normal.1)

  -- ## The push

  module _ (z : NormalState) (edits : EditsAll room s z) where
    tied_z : IsTied links z
    tied_z = edited_tied links t y after report s serves own room z edits

    pub push_idle : z.mutator.editing ≡ false
    push_idle = ap (λ (m : NormalState). m.mutator.editing) edits.leaves

    pub push_together : z.mutator.past.queue ≡ links.queue.now
    push_together = tied_z.linked.queue_is

    pub push_room : z.mutator.past.number < 2 ^ 62
    push_room = let n = edited_number links t y after report s serves own room z edits in omega arith

    -- ## The buffer

    module _ (push : Push) (p : NormalState) (pushes : Pushes push z p) where
      pub tied_p : IsTied links p
      tied_p = pushed_tied links t y after report s serves own room z edits push p pushes

      -- what is as it was when the turn had learnt
      pub record Still : Type 0 where
        pub setup : setup_of p ≡ setup_of y
        pub mixes : p.entry.mixes ≡ y.entry.mixes
        pub spare : p.spare_takes ≡ y.spare_takes
        pub pipe : p.pipe ≡ y.pipe
        pub tracks : p.entry.tracks ≡ s.entry.tracks
        pub turns : p.turns ≡ y.turns
        pub hands : p.hands ≡ s.hands
        pub spare_turns : p.spare_turns ≡ s.spare_turns

      pub still : Still
      still = let a = serves.same in let b = all_only room s z edits in let d = pushes.same in record {
        setup = ap setup_of d ∙ ap setup_of b ∙ ap setup_of a;
        mixes = ap (λ (m : NormalState). m.entry.mixes) d ∙ ap (λ (m : NormalState). m.entry.mixes) b ∙ serves.mixes;
        spare = ap (λ (m : NormalState). m.spare_takes) d ∙ ap (λ (m : NormalState). m.spare_takes) b ∙ ap (λ (m : NormalState). m.spare_takes) a;
        pipe = ap (λ (m : NormalState). m.pipe) d ∙ ap (λ (m : NormalState). m.pipe) b ∙ ap (λ (m : NormalState). m.pipe) a;
        tracks = ap (λ (m : NormalState). m.entry.tracks) d ∙ ap (λ (m : NormalState). m.entry.tracks) b;
        turns = ap (λ (m : NormalState). m.turns) d ∙ ap (λ (m : NormalState). m.turns) b ∙ ap (λ (m : NormalState). m.turns) a;
        hands = ap (λ (m : NormalState). m.hands) d ∙ ap (λ (m : NormalState). m.hands) b;
        spare_turns = ap (λ (m : NormalState). m.spare_turns) d ∙ ap (λ (m : NormalState). m.spare_turns) b;
      }

      pub same_tracks : length p.tracks ≡ length y.tracks
      same_tracks = sym tied_p.sizes.settings ∙ ap (λ (c : Setup). length c.settings) still.setup ∙ after.tied.sizes.settings

      pub play_blocks : length p.tracks ≤ length links.streams.now
      play_blocks = tied_p.sizes.blocks.0

      pub play_ready : AreServersOf links.streams.now p.streams
      play_ready = servers_of links.streams.now p.streams (let e = tied_p.sizes.streams_are in let b = tied_p.sizes.blocks.0 in omega arith) (λ i lt. tied_p.proxies.streams_of i)

      pub play_takes : HasTakes (asked (setup_of p)) (length p.tracks) p.entry.mixes p.spare_takes
      play_takes =
          let at : HasTakes (asked (setup_of y)) (length p.tracks) y.entry.mixes y.spare_takes = subst (λ (n : ℕ). HasTakes (asked (setup_of y)) n y.entry.mixes y.spare_takes) (sym same_tracks) after.takes_room in
          let setup : HasTakes (asked (setup_of p)) (length p.tracks) y.entry.mixes y.spare_takes = subst (λ (c : Setup). HasTakes (asked c) (length p.tracks) y.entry.mixes y.spare_takes) (sym still.setup) at in
          subst (λ m. HasTakes (asked (setup_of p)) (length p.tracks) m p.spare_takes) (sym still.mixes) (subst (λ m. HasTakes (asked (setup_of p)) (length p.tracks) y.entry.mixes m) (sym still.spare) setup)

      pub play_none : p.entry.mixes.items ≡ []
      play_none = ap (λ m. m.items) still.mixes ∙ after.none.1

      pub play_few : All (λ (track : TrackKept). AreUpTo (2 ^ 31) track.own) p.tracks
      play_few = pushed_few links t y after report s serves own room z edits push p pushes

      pub play_home : AreHome p.tracks p.streams
      play_home = mixed_home links p tied_p

      pub play_sizes : (1 ≤ asked (setup_of p)) × (p.frames ≤ 1024) × (p.normal ≤ 16)
      play_sizes = (some_asked p.frames p.normal tied_p.sizes.frames.0 tied_p.sizes.normal.0, tied_p.sizes.frames.1, tied_p.sizes.normal.1)

      pub play_room : p.pipe.room ≡ room
      play_room = ap (λ m. m.room) still.pipe ∙ learns.room_is.1
