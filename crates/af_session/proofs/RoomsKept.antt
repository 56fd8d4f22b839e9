-- What stays in a room over two steps, and what the cycles of a turn leave of it.
use Rattle.std.proofs.Common.{◌≡◌, ℕ, ◌+◌, ◌*◌, ◌<◌, ◌≤◌, ◌++◌, List, [], length, refl, sym, ap, subst, ◌∙◌, append-nil, arith}
use Rattle.af_session.proofs.Common.{Cycle, Follows, HasAdded, HasNotedOn, HasPlaces, HasRoom, KeepsRoom, KeepsSizes, Logged, MixerState, Room, Roomy, Tallied, length-append, written}
use Rattle.af_session.proofs.FastChains.{long_written, put_behind, room_on}

-- ## Two steps

-- a tally follows a mixer that did nothing
pub noted_so_far : (m : MixerState) (t : Tallied) → HasNotedOn m m t t
noted_so_far m t = record { follows = (λ first tracks rounds is. is); places = (λ n tracks has. has) }

-- a tally that followed each of two steps followed both
noted_on : (m m' m'' : MixerState) (a b c : Tallied) → HasNotedOn m m' a b → HasNotedOn m' m'' b c → HasNotedOn m m'' a c
noted_on m m' m'' a b c one two = record { follows = (λ first tracks rounds is. two.follows first tracks rounds (one.follows first tracks rounds is)); places = (λ n tracks has. two.places n tracks (one.places n tracks has)) }

-- a tally that follows a mixer from a later state with the same log, and the shown, follows it from the earlier one
pub noted_from : (m p m' : MixerState) (a b : Tallied) → p.log ≡ m.log → Follows m m' a b → HasNotedOn p m' a b → HasNotedOn m m' a b
noted_from m p m' a b log follows noted =
    record {
      follows = follows;
      places = (λ n tracks has. noted.places n tracks (subst (λ (l : Logged). HasPlaces n tracks (length l.entries) a) (sym log) has));
    }

-- a room keeps its own sizes
pub keeps_itself : (room : Room) → KeepsRoom room room
keeps_itself room = record { buffer = refl; bytes = refl; released = refl }

-- sizes that were kept by each of two steps were kept by both
pub kept_on : (a b c : Room) → KeepsRoom a b → KeepsRoom b c → KeepsRoom a c
kept_on a b c one two = record { buffer = two.buffer ∙ one.buffer; bytes = two.bytes ∙ one.bytes; released = two.released ∙ one.released }

-- a mixer with the log and the frames of another has the room of the other
pub room_same : (m p : MixerState) (room : Room) → p.log ≡ m.log → p.frames ≡ m.frames → HasRoom 1 m room → HasRoom 1 p room
room_same m p room log frames has = let held = has.places in record {
  buffer = has.buffer ∙ sym frames;
  bytes = (let fits = has.bytes in omega (arith, frames, fits));
  places = (held.0, held.1, held.2, subst (λ (l : Logged). HasPlaces held.0 held.1 (length l.entries) room.tally) (sym log) held.3);
}

-- ## The cycles of a turn

-- After i cycles that wrote `front` the mixer and the room have their sizes, the tally follows, and the bytes stand behind those before, no more than fit
pub record InRoom (first now : MixerState) (i : ℕ) (front : List ℕ) (room room' : Room) : Type 0 where
  pub sizes : KeepsSizes first now
  pub noted : HasNotedOn first now room.tally room'.tally
  pub kept : KeepsRoom room room'
  pub bytes : HasAdded room front room'
  pub few : length front ≤ 4 * (i * first.frames)

-- before the first cycle nothing was written
pub in_room_first : (m : MixerState) (room : Room) → InRoom m m 0 [] room room
in_room_first m room = let bytes : Roomy ℕ = room.bytes in record {
  sizes = (refl, refl);
  noted = noted_so_far m room.tally;
  kept = keeps_itself room;
  bytes = ap (λ (l : List ℕ). record bytes { items = l }) (sym (append-nil bytes.items));
  few = omega arith;
}

module _ (first now : MixerState) (i : ℕ) (front : List ℕ) (room room' : Room) (so_far : InRoom first now i front room room') where
  -- after fewer than all cycles there is room for one more
  pub in_room_fits : (count : ℕ) → HasRoom count first room → i < count → HasRoom 1 now room'
  in_room_fits count has lt = let held = has.places in record {
    buffer = so_far.kept.buffer ∙ has.buffer ∙ sym so_far.sizes.0;
    bytes = room_on room.bytes room'.bytes front count i first.frames now.frames so_far.bytes so_far.few lt so_far.sizes.0 has.bytes;
    places = (held.0, held.1, held.2, so_far.noted.places held.0 held.1 held.3);
  }

  -- one cycle more
  pub in_room_more : (next : MixerState) (room'' : Room) (answer : Cycle) → length room.buffer.items ≡ first.frames → KeepsSizes now next
      → HasNotedOn now next room'.tally room''.tally → KeepsRoom room' room''
      → HasAdded room' (written answer room''.buffer.items) room'' → InRoom first next (i + 1) (front ++ written answer room''.buffer.items) room room''
  in_room_more next room'' answer wide sizes noted kept bytes =
      let all = kept_on room room' room'' so_far.kept kept in
      let buffer = all.buffer in
      let few = so_far.few in
      let long = length-append front (written answer room''.buffer.items) in
      record {
        sizes = (sizes.0 ∙ so_far.sizes.0, sizes.1 ∙ so_far.sizes.1);
        noted = noted_on first now next room.tally room'.tally room''.tally so_far.noted noted;
        kept = all;
        bytes = put_behind room.bytes room'.bytes room''.bytes front (written answer room''.buffer.items) so_far.bytes bytes;
        few = omega (arith, wide, buffer, few, long, long_written answer room''.buffer.items);
      }
