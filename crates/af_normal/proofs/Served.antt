-- What one track's part of a turn changes, and what it leaves.
use Rattle.std.proofs.Common.{◌≡◌, ◌≢◌, ℕ, ◌+◌, [], ◌∷◌, ◌++◌, length, length-append, slice_get, Option, Some, None, refl, sym, ap, subst, ◌∙◌, get_or-set_other, length-set, arith}
use Rattle.af_normal.proofs.Common.{All-push, Learnt, Links, Roomy, ServerState, Setup, TrackTurn, by_bool, get_set_other, known_by, most_looks, new_track, track_at}
use Rattle.af_normal.specs.Mixing.{stream_at}
use Rattle.af_normal.specs.Order.{HasTurns}
use Rattle.af_normal.specs.Ready.{AreOwn, HaveRoom}
use Rattle.af_normal.specs.Turning.{listed_at}
use Rattle.af_normal.specs.Serving.{known_at, Serving, ServesOne, ServesTrack}

-- nothing but what belongs to the track i is another, and the lists keep their lengths
pub record OnlyAt (i : ℕ) (x y : Serving) : Type 0 where
  pub tracks_long : length y.tracks ≡ length x.tracks
  pub streams_long : length y.streams ≡ length x.streams
  pub commands_long : length y.commands ≡ length x.commands
  pub hands_long : length y.hands ≡ length x.hands
  pub tracks : (k : ℕ) → k ≢ i → track_at y.tracks k ≡ track_at x.tracks k
  pub streams : (k : ℕ) → k ≢ i → stream_at y.streams k ≡ stream_at x.streams k
  pub commands : (k : ℕ) → k ≢ i → slice_get y.commands k ≡ slice_get x.commands k
  pub hands : (k : ℕ) → k ≢ i → slice_get y.hands k ≡ slice_get x.hands k

module _ (c : Setup) (k : Learnt) (i : ℕ) (x y : Serving) where
  one_only : ServesOne c k i x y → OnlyAt i x y
  one_only s = record {
    tracks_long = ap (λ (z : Serving). length z.tracks) s.leaves ∙ length-set x.tracks i _;
    streams_long = ap (λ (z : Serving). length z.streams) s.leaves ∙ length-set x.streams i _;
    commands_long = ap (λ (z : Serving). length z.commands) s.leaves ∙ length-set x.commands i _;
    hands_long = ap (λ (z : Serving). length z.hands) s.leaves ∙ length-set x.hands i _;
    tracks = λ n ne. ap (λ (z : Serving). track_at z.tracks n) s.leaves ∙ get_or-set_other x.tracks i n _ new_track ne;
    streams = λ n ne. ap (λ (z : Serving). stream_at z.streams n) s.leaves ∙ get_or-set_other x.streams i n _ None ne;
    commands = λ n ne. ap (λ (z : Serving). slice_get z.commands n) s.leaves ∙ get_set_other x.commands i n _ ne;
    hands = λ n ne. ap (λ (z : Serving). slice_get z.hands n) s.leaves ∙ get_set_other x.hands i n _ ne;
  }

  none_only : (turns : _) → y ≡ record x { turns = turns } → OnlyAt i x y
  none_only turns e = record {
    tracks_long = ap (λ (z : Serving). length z.tracks) e;
    streams_long = ap (λ (z : Serving). length z.streams) e;
    commands_long = ap (λ (z : Serving). length z.commands) e;
    hands_long = ap (λ (z : Serving). length z.hands) e;
    tracks = λ n ne. ap (λ (z : Serving). track_at z.tracks n) e;
    streams = λ n ne. ap (λ (z : Serving). stream_at z.streams n) e;
    commands = λ n ne. ap (λ (z : Serving). slice_get z.commands n) e;
    hands = λ n ne. ap (λ (z : Serving). slice_get z.hands n) e;
  }

  pub only_at : ServesTrack c k i x y → OnlyAt i x y
  only_at s = by_bool (track_at x.tracks i).life.ended _ _ (OnlyAt i x y) (none_only _) one_only s

-- what belongs to another track is of its blocks still
pub other_own : (links : Links) (i k : ℕ) (x y : Serving) → OnlyAt i x y → k ≢ i → AreOwn links x.streams x.commands x.hands k → AreOwn links y.streams y.commands y.hands k
other_own links i k x y only ne own = record {
  blocks = own.blocks;
  there = (omega (arith, only.commands_long, own.there.0), omega (arith, only.hands_long, own.there.1));
  command_is = λ s e. own.command_is s (sym (only.commands k ne) ∙ e);
  flag_is = λ h e. own.flag_is h (sym (only.hands k ne) ∙ e);
  stream_is = λ s e. own.stream_is s (sym (only.streams k ne) ∙ e);
}

-- what a proxy knows by its list is what it knows
pub known_here : (o : Option ServerState) → known_by (listed_at o) ≡ known_at o
known_here None = refl
known_here (Some s) = refl

-- the turns with one record more
pub turns_more : (n : ℕ) (turns spare turns' spare' : Roomy TrackTurn) (turn : TrackTurn) → HasTurns n turns spare → turns' ≡ record turns { items = turns.items ++ turn ∷ [] } → turn.looks.room ≡ most_looks
    → length spare'.items + 1 ≡ length spare.items → HaveRoom spare'.items → spare'.room ≡ spare.room → HasTurns n turns' spare'
turns_more n turns spare turns' spare' turn h e room short left same = record {
  together = (let l : length turns'.items ≡ length turns.items + 1 = ap (λ (r : Roomy TrackTurn). length r.items) e ∙ length-append turns.items (turn ∷ []) in omega (arith, h.together));
  turns_room = (let l = ap (λ (r : Roomy TrackTurn). r.room) e in omega (arith, h.turns_room));
  spare_room = omega (arith, h.spare_room);
  seen = subst (λ (r : Roomy TrackTurn). HaveRoom r.items) (sym e) (All-push (λ (t : TrackTurn). t.looks.room ≡ most_looks) turns.items turn h.seen room);
  left = left;
}
