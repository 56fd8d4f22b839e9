-- A new mixer is in order.
use Rattle.std.proofs.Common.{◌≡◌, ℕ, zero, suc, ◌-◌, ◌*◌, ◌<◌, ◌≤◌, Bool, true, false, true≢false, is_some, sym, refl, ap, subst, ◌∙◌, List, [], ◌∷◌, length, replicate, All, Option, Some, None, arith}
use Rattle.af_normal.proofs.Common.{All-get_or, All-nil, AreUpTo, FastState, HandSide, InSide, IsSmall, Links, Mutates, NormalTake, ReaderSide, Roomy, ServerState, Setting, StreamNames, TrackKept, TrackTurn, Turn, TurnEntry, at_new, ended_turn, initial, is_home, is_out, length-map, length-replicate, most_looks, new_normal, new_small, new_track, nil_from_length, no, slice_get, slice_get_within, slots, take_seen, track_seen, turn_of}
use Rattle.af_life.proofs.SoundTurns.{new_sound}
use Rattle.af_normal.specs.Making.{TrackList, IsMade, AreNew}
use Rattle.af_normal.specs.Mixing.{stream_at}
use Rattle.af_normal.specs.AllMixed.{HasFrames, HasTakes}
use Rattle.af_normal.specs.Order.{AreThere, HasTurns, IsTied, IsInOrder}
use Rattle.af_normal.specs.Ready.{HaveRoom}
use Rattle.af_normal.specs.State.{NormalState, kept_of}
use Rattle.af_normal.proofs.Basics.{some_there}

none_out : (n k : ℕ) → is_out (replicate n false) k ≡ false
none_out zero k = refl
none_out (suc n) zero = refl
none_out (suc n) (suc k) = none_out n k

module _ (links : Links) (frames normal : ℕ) (tracks : TrackList) (mutator : Mutates ServerState StreamNames) (reader : ReaderSide) (pipe : InSide) (m : NormalState)
    (new : AreNew links frames normal tracks mutator reader pipe) (made : IsMade frames normal tracks mutator reader pipe m)
    (some : 1 ≤ length tracks.settings) (few : length tracks.settings ≤ 32) (sizes : (1 ≤ frames) × (frames ≤ 1024) × (1 ≤ normal) × (normal ≤ 16)) (scales : All (λ (s : Setting). s.scale ≤ 4096) tracks.settings)
    (whole : (length tracks.streams ≡ length tracks.settings) × (length tracks.commands ≡ length tracks.settings)) (all : All (λ (s : Option ServerState). is_some s ≡ true) tracks.streams) where
  abbrev n : ℕ
  n = length tracks.settings

  abbrev fresh : NormalState
  fresh = record {
    frames = frames;
    normal = normal;
    settings = tracks.settings;
    tracks = replicate (length tracks.settings) new_track;
    streams = tracks.streams;
    commands = tracks.commands;
    hands = [];
    mutator = mutator;
    reader = reader;
    pipe = pipe;
    entry = m.entry;
    spare_turns = m.spare_turns;
    spare_takes = m.spare_takes;
    ended = false;
    turns = 0;
  }

  there_at : (xs : List ServerState) (i : ℕ) → i < length xs → (s : ServerState) × (slice_get xs i ≡ Some s)
  there_at [] i lt = absurd (omega arith)
  there_at (s ∷ xs) zero lt = (s, refl)
  there_at (s ∷ xs) (suc i) lt = there_at xs i (omega arith)

  -- the last track has its two blocks, so each has
  blocks : (length tracks.settings ≤ length links.streams.now) × (length tracks.settings ≤ length links.commands.now)
  blocks =
      let i : ℕ = length tracks.settings - 1 in
      let stream = some_there (stream_at tracks.streams i) (All-get_or (λ (s : Option ServerState). is_some s ≡ true) tracks.streams i None (let w = whole.0 in omega arith) all) in
      let command = there_at tracks.commands i (let w = whole.1 in omega arith) in
      let a : i < length links.streams.now = slice_get_within links.streams.now i _ (new.streams_of i stream.0 stream.1).made in
      let b : i < length links.commands.now = slice_get_within links.commands.now i _ (new.commands_of i command.0 command.1).made in (omega arith, omega arith)

  long : length (replicate (length tracks.settings) new_track) ≡ length tracks.settings
  long = length-replicate (length tracks.settings) new_track

  there : AreThere (replicate (length tracks.settings) new_track) tracks.streams
  there i lt = All-get_or (λ (s : Option ServerState). is_some s ≡ true) tracks.streams i None (let l = long in let w = whole.0 in omega arith) all ∙ sym (ap (λ (t : TrackKept). is_home t.holder) (at_new (length tracks.settings) i))

  kept_new : kept_of fresh ≡ new_normal (record { frames = frames; normal = normal; settings = tracks.settings })
  kept_new = ap (λ (d : FastState). record (kept_of fresh) { draft = d }) new.mutator_is.begins.2
      ∙ ap (λ (d : FastState). record (kept_of fresh) { draft = initial frames; last = d }) new.mutator_is.begins.1
      ∙ ap (λ (b : Bool). record (kept_of fresh) { draft = initial frames; last = initial frames; dirty = b }) new.mutator_is.idle.0
      ∙ ap (λ (k : ℕ). record (kept_of fresh) { draft = initial frames; last = initial frames; dirty = false; pushed = k }) new.mutator_is.silent.0

  tied : IsTied links fresh
  tied = record {
    sound = new_sound (length tracks.settings) frames mutator.draft new.mutator_is.begins.2;
    sizes = record {
      frames = (sizes.0, sizes.1);
      normal = (sizes.2, sizes.3);
      few = (let l = long in omega arith);
      settings = sym long;
      streams_are = whole.0 ∙ sym long;
      commands_are = whole.1 ∙ sym long;
      blocks = ((let l = long in let b = blocks.0 in omega arith), (let l = long in let b = blocks.1 in omega arith));
      scales = scales;
      pipe_is = new.pipe_is;
    };
    proxies = record { there = there; streams_of = new.streams_of; commands_of = new.commands_of };
    out = record {
      at_slot = (λ k low high on. no (sym (ap (λ (out : List Bool). is_out out k) new.mutator_is.empty.2 ∙ none_out slots k) ∙ on));
      whole = ap (λ (out : List Bool). length out) new.mutator_is.empty.2 ∙ length-replicate slots false;
      of_track = (λ i away. absurd (true≢false (sym (ap (λ (t : TrackKept). is_home t.holder) (at_new (length tracks.settings) i)) ∙ away)));
    };
    linked = new.linked;
  }

  -- the mixer may make its first turn
  pub made_order : IsInOrder links m
  made_order = subst (IsInOrder links) (sym made.is) (record {
    tied = tied;
    small = subst (IsSmall 0 (record { frames = frames; normal = normal; settings = tracks.settings })) (sym kept_new) (new_small (record { frames = frames; normal = normal; settings = tracks.settings }) sizes.1 sizes.3 few);
    looks = (λ i. subst (λ (s : TrackKept). AreUpTo 1 s.own) (sym (at_new (length tracks.settings) i)) (omega arith, omega arith, omega arith));
    none_yet = (λ e. record { none = refl; home = (λ i. ap (λ (t : TrackKept). is_home t.holder) (at_new (length tracks.settings) i)); whole = new.hands_of });
    hands = (λ h. absurd (omega arith));
    turns = subst (λ (k : ℕ). HasTurns k m.entry.tracks m.spare_turns) (sym long) made.turns;
    takes = subst (λ (k : ℕ). HasTakes (normal * frames) k m.entry.mixes m.spare_takes) (sym long) made.takes;
    idle = new.mutator_is.idle.1;
  })

-- ## A mixer of parts that were just made

module _ (n asked : ℕ) (entry : TurnEntry) (turns : Roomy TrackTurn) (takes : Roomy NormalTake) (ended : turn_of entry ≡ ended_turn) (rooms : (entry.tracks.room ≡ n) × (entry.mixes.room ≡ n)) where
  no_tracks : entry.tracks.items ≡ []
  no_tracks = nil_from_length entry.tracks.items (sym (length-map entry.tracks.items track_seen) ∙ ap (λ (t : Turn). length t.tracks) ended)

  no_mixes : entry.mixes.items ≡ []
  no_mixes = nil_from_length entry.mixes.items (sym (length-map entry.mixes.items take_seen) ∙ ap (λ (t : Turn). length t.mixes) ended)

  pub new_turns : (length turns.items ≡ n) × (turns.room ≡ n) × HaveRoom turns.items → HasTurns n entry.tracks turns
  new_turns t = record {
    together = (let l : length entry.tracks.items ≡ 0 = ap (λ (ts : List TrackTurn). length ts) no_tracks in let m = t.0 in omega arith);
    turns_room = (let r = rooms.0 in omega arith);
    spare_room = (let r = t.1 in omega arith);
    seen = subst HaveRoom (sym no_tracks) (All-nil (λ (r : TrackTurn). r.looks.room ≡ most_looks));
    left = t.2;
  }

  pub new_takes : (length takes.items ≡ n) × (takes.room ≡ n) × All (HasFrames asked) takes.items → HasTakes asked n entry.mixes takes
  new_takes t = record {
    together = (let l : length entry.mixes.items ≡ 0 = ap (λ (ts : List NormalTake). length ts) no_mixes in let m = t.0 in omega arith);
    mixes_room = (let r = rooms.1 in omega arith);
    spare_room = (let r = t.1 in omega arith);
    mixed = subst (All (HasFrames asked)) (sym no_mixes) (All-nil (HasFrames asked));
    left = t.2;
  }

pub made_is : (frames normal : ℕ) (tracks : TrackList) (mutator : Mutates ServerState StreamNames) (reader : ReaderSide) (pipe : InSide) (entry : TurnEntry) (turns : Roomy TrackTurn) (takes : Roomy NormalTake)
    (settings : List Setting) (streams : List (Option ServerState)) (commands : List ServerState) (kept : List TrackKept) (hands : List HandSide) (mutates : Mutates ServerState StreamNames)
    → settings ≡ tracks.settings → streams ≡ tracks.streams → commands ≡ tracks.commands → kept ≡ replicate (length tracks.settings) new_track → hands ≡ [] → mutates ≡ mutator
    → turn_of entry ≡ ended_turn → (entry.tracks.room ≡ length tracks.settings) × (entry.mixes.room ≡ length tracks.settings)
    → (length turns.items ≡ length tracks.settings) × (turns.room ≡ length tracks.settings) × HaveRoom turns.items
    → (length takes.items ≡ length tracks.settings) × (takes.room ≡ length tracks.settings) × All (HasFrames (normal * frames)) takes.items
    → IsMade frames normal tracks mutator reader pipe record {
      frames = frames;
      normal = normal;
      settings = settings;
      tracks = kept;
      streams = streams;
      commands = commands;
      hands = hands;
      mutator = mutates;
      reader = reader;
      pipe = pipe;
      entry = entry;
      spare_turns = turns;
      spare_takes = takes;
      ended = false;
      turns = 0;
    }
made_is frames normal tracks mutator reader pipe entry turns takes settings streams commands kept hands mutates a b d e f g ended rooms t u = record {
  is = λ i. record {
    frames = frames;
    normal = normal;
    settings = a i;
    tracks = e i;
    streams = b i;
    commands = d i;
    hands = f i;
    mutator = g i;
    reader = reader;
    pipe = pipe;
    entry = entry;
    spare_turns = turns;
    spare_takes = takes;
    ended = false;
    turns = 0;
  };
  entry = ended;
  turns = new_turns (length tracks.settings) (normal * frames) entry turns takes ended rooms t;
  takes = new_takes (length tracks.settings) (normal * frames) entry turns takes ended rooms u;
}
