-- The rule of the table. If the client has not poked, there is one legal order of the parties' events, and the words stand for its last point.
use Rattle.std.specs.Prelude.{◌≡◌, ◌≢◌, Bool, ℕ, ◌+◌, ◌-◌, ◌%◌, ◌^◌, ◌<◌, ◌≤◌, true, false, List, [], ◌∷◌, ◌++◌, length, take, drop, slice_index}
use mathlib.Core.Option.{some}
use lib.ListN.{get_elem?}
use Rattle.atomic_table.specs.Table.{State}
use Rattle.af_base.specs.declared.event.ServerEvent.{ServerEvent}
use Rattle.af_model.specs.declared.point.TrackPoint.{TrackPoint}
use Rattle.af_model.specs.Point.{wrapped, flush_number, flush_word}
use Rattle.af_model.specs.History.{taken_of, is_lawful, HasHistory, point, client_of, met_in}
use Rattle.af_model.specs.declared.shape.Shape.{Shape}
use Rattle.af_cblk.specs.declared.view.ClientPart.{ClientPart}
use Rattle.af_cblk.specs.declared.view.ServerPart.{ServerPart}
use Rattle.af_cblk.specs.declared.view.HandPart.{HandPart}
use Rattle.af_cblk.specs.declared.view.View.{View}
use Rattle.af_cblk.specs.Parts.{Has, word_at}

-- the words that stand for a point. Of `tally`, the sum that the server adds to, only the low 32 bits count
abbrev pub words_of : TrackPoint → ℕ → List ℕ → List ℕ
words_of p tally cells =
    wrapped p.consumed ∷ wrapped p.released ∷ flush_word p ∷ tally ∷ p.flags ∷ p.gains ∷ p.status ∷ cells

-- the numbers that a word holds whole fit it
pub record Small (flush flags gains status : ℕ) : Type 0 where
  pub flush_fits : flush < 2 ^ 32
  pub flags_fit : flags < 2 ^ 32
  pub gains_fit : gains < 2 ^ 32
  pub status_fit : status < 2 ^ 32

-- What the client knows. `known` is the position of the front that it last saw, and all that it released or stored has room from there on.
-- A cell that it stored past the released frames holds the word of its frame, and the cell of each position that waits holds the frame released there
pub record ClientKnows (k : Shape) (consumed released : ℕ) (frames cells : List ℕ) (stored : List (ℕ × ℕ)) (front : ℕ) : Type 0 where
  pub known : ℕ
  pub known_is : wrapped known ≡ front
  pub known_low : known ≤ consumed
  pub known_room : released ≤ known + k.frames
  pub stored_room : (x : ℕ) → Has stored x → k.base + x < known + k.frames
  pub cells_are : length cells ≡ k.cells
  pub small : (j : ℕ) → slice_index cells j < 2 ^ 32
  pub pending : (x : ℕ) → length frames ≤ x → Has stored x → slice_index cells ((k.base + x) % k.cells) ≡ word_at stored x
  pub live : (q : ℕ) → consumed ≤ q → q < released → slice_index cells (q % k.cells) ≡ slice_index frames (q - k.base)

-- what the server knows: the words of the rear and front that it saw, and that the cells it loaded have the frames released at their positions
pub record ServerKnows (base consumed rear_seen : ℕ) (frames : List ℕ) (rear front : ℕ) (loaded : List ℕ) : Type 0 where
  pub rear_is : rear ≡ wrapped rear_seen
  pub front_is : front ≡ wrapped consumed
  pub loaded_is : (n : ℕ) → n ≤ length loaded → consumed + n ≤ rear_seen → take n loaded ≡ take n (drop (consumed - base) frames)

-- What the server knows of flushes on a positional block, if it loaded the flush word at `mark`: since then it stored front at most once. A flush that it has not seen lies past the mark, and one that it noticed at most a room before what is consumed.
-- A rear that it loaded after the flush word lies past the flush that it saw, and past what is consumed
pub record KnowsFlush (k : Shape) (consumed rear_seen flushes flush_seen flush_at drop_to flush : ℕ) (noticed flush_fresh rear_fresh : Bool) : Type 0 where
  pub flush_is : flush ≡ flush_number k.wrap flush_seen drop_to
  pub few : flush_seen ≤ flushes
  pub mark : ℕ
  pub mark_low : mark ≤ consumed
  pub mark_near : consumed ≤ mark + k.frames
  pub mark_now : flush_fresh ≡ true → mark ≡ consumed
  pub later : flushes ≢ flush_seen → mark ≤ flush_at
  pub same : flushes ≡ flush_seen → flush_at ≡ drop_to
  pub near : noticed ≡ true → consumed ≤ drop_to + k.frames
  pub shows : rear_fresh ≡ true → (drop_to ≤ rear_seen) × (consumed ≤ rear_seen) × (flush_fresh ≡ true)

-- what a server's part knows of flushes at a point
abbrev pub FlushKnown : Shape → TrackPoint → ServerPart → Type 0
FlushKnown k p s = KnowsFlush k p.consumed p.rear_seen p.flushes p.flush_seen p.flush_at p.drop_to s.flush s.noticed s.flush_fresh s.rear_fresh

-- the events begin with these first ones
abbrev pub StartsWith : List ServerEvent → List ServerEvent → Type 0
StartsWith events first = (rest : List ServerEvent) × (first ++ rest ≡ events)

-- the three lists have a history, and the words stand for its last point
pub record Stands (k : Shape) (words : List ℕ) (c : ClientPart) (s : ServerPart) (h : HandPart) : Type 0 where
  pub history : HasHistory k c.events c.frames s.events s.frames h.events
  pub settled : (more : List ℕ) → taken_of (c.frames ++ more) k history.order ≡ taken_of c.frames k history.order
  pub tally : ℕ
  pub cells : List ℕ
  pub words_are : words ≡ words_of (point history) tally cells
  pub tally_is : wrapped tally ≡ (point history).underruns
  pub small : Small (flush_word (point history)) (point history).flags (point history).gains (point history).status
  pub learnt : StartsWith s.events c.learnt
  pub mets : met_in history.order ≤ length (client_of history.order)
  pub flushed : (point history).flush_at ≡ c.flush_at
  pub flush_known : k.wrap ≢ 0 → FlushKnown k (point history) s
  pub client_knows : ClientKnows k (point history).consumed (point history).released c.frames cells c.stored c.front
  pub server_knows : ServerKnows k.base (point history).consumed (point history).rear_seen c.frames s.rear s.front s.loaded

-- what the parties have done, what the hand knows of the server's list, and the seat of each
pub record Parties : Type 0 where
  pub client : ClientPart
  pub server : ServerPart
  pub hand : HandPart
  pub known : List ServerEvent
  pub client_seat : ℕ
  pub server_seat : ℕ
  pub hand_seat : ℕ

-- the view of a seat has the parts that it says it has, and no other seat has them
pub record Sits (a : Parties) (by : ℕ) (v : View) : Type 0 where
  pub client : v.is_client ≡ true → (by ≡ a.client_seat) × (v.client ≡ a.client)
  pub server : v.is_server ≡ true → (by ≡ a.server_seat) × (v.server ≡ a.server)
  pub hand : v.is_hand ≡ true → (by ≡ a.hand_seat) × (v.hand ≡ a.hand) × (v.known ≡ a.known)

-- the server's list goes on from what the hand knows of it
abbrev pub HandKnows : Parties → Type 0
HandKnows a = StartsWith a.server.events a.known

-- the rule: each seat has the parts that it says it has, the server's list goes on from what the hand knows, and if the client has not poked the words stand for a history of the three lists
pub record Holds (k : Shape) (t : State (Unit {0}) View) : Type 0 where
  pub parties : Parties
  pub seats : (by : ℕ) (v : View) → get_elem? t.views by ≡ some v → Sits parties by v
  pub stands : is_lawful parties.client.events ≡ true → Stands k t.words parties.client parties.server parties.hand
  pub knows : HandKnows parties

-- ## Views

-- a party that has done nothing
abbrev pub new_client : Shape → ClientPart
new_client k = record { shape = k; events = []; frames = []; stored = []; front = k.base; flush_at = 0; learnt = [] }

abbrev pub new_server : Shape → ServerPart
new_server k =
    record {
      shape = k;
      events = [];
      frames = [];
      flush = 0;
      noticed = false;
      rear = k.base;
      rear_after = false;
      front = k.base;
      fresh = false;
      flush_fresh = false;
      rear_fresh = false;
      loaded = [];
    }

abbrev pub new_hand : Shape → HandPart
new_hand k = record { shape = k; events = [] }

-- the first seat has every part
abbrev pub newcomer : Shape → View
newcomer k =
    record {
      is_client = true;
      client = new_client k;
      is_server = true;
      server = new_server k;
      is_hand = true;
      hand = new_hand k;
      known = [];
    }

-- a seat with no part
abbrev pub nobody : View
nobody =
    let k : Shape = record { frames = 0; cells = 0; base = 0; wrap = 0 } in
    record {
      is_client = false;
      client = new_client k;
      is_server = false;
      server = new_server k;
      is_hand = false;
      hand = new_hand k;
      known = [];
    }

-- the view without one part, and with that part alone
abbrev pub without_client : View → View
without_client v = record v { is_client = false }

abbrev pub client_alone : View → View
client_alone v = record v { is_server = false; is_hand = false }

abbrev pub without_hand : View → View
without_hand v = record v { is_hand = false }

abbrev pub hand_alone : View → View
hand_alone v = record v { is_client = false; is_server = false }

-- the view with one part of another
abbrev pub and_client : View → View → View
and_client v w = record v { is_client = true; client = w.client }

abbrev pub and_hand : View → View → View
and_hand v w = record v { is_hand = true; hand = w.hand; known = w.known }
