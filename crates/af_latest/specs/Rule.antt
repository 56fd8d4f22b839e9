-- The rule of a newest-value cell, and what each step tells.
use Rattle.std.specs.Prelude.{◌≡◌, ◌≢◌, ℕ, ◌+◌, ◌%◌, ◌<◌, ◌≤◌, Bool, true, false, if◌then◌else◌, List, [], ◌∷◌, ◌++◌, length, Option, Some, None}
use mathlib.Core.Option.{some}
use mathlib.Core.Option as maybe
use lib.ListN.{get_elem?}
use Rattle.atomic_table.specs.Table.{State, Me, Step}
use Rattle.af_latest.specs.declared.view.View.{View}
use Rattle.af_latest.specs.declared.view.Writing.{Writing}
use Rattle.af_latest.specs.declared.view.Reading.{Reading}
use Rattle.af_model.specs.declared.newest.WriterEvent.TheVariants.{Store}
use Rattle.af_model.specs.declared.newest.WriterEvent.TheVariants as writes
use Rattle.af_model.specs.declared.newest.ReaderEvent.TheVariants.{Load}
use Rattle.af_model.specs.declared.newest.ReaderEvent.TheVariants as reads
use Rattle.af_model.specs.Parties.{AreHeld, Stands}
use Rattle.af_latest.specs.Ends.{last_number}
use Rattle.af_model.specs.NewestValue.{CellPoint, start_value, legal_value, next_value, HasValueHistory}

-- the word that names the slot k
abbrev pub code : ℕ → Bool → ℕ
code k fresh = if fresh then k + 4 else k

module _ {T : Type 0} where
  abbrev pub starting : T → View T
  starting x = record { writes = true; writing = record { first = Some x; events = []; slot = 0; out = false }; reads = true; reading = record { events = []; slot = 1; out = false; value = Some x; fresh = false } }

  -- a seat with no part
  abbrev pub spent : View T
  spent = record { writes = false; writing = record { first = None; events = []; slot = 0; out = false }; reads = false; reading = record { events = []; slot = 0; out = false; value = None; fresh = false } }

  abbrev pub has_writing : View T → Bool
  has_writing v = v.writes

  abbrev pub writing : View T → Writing T
  writing v = v.writing

  abbrev pub has_reading : View T → Bool
  has_reading v = v.reads

  abbrev pub reading : View T → Reading T
  reading v = v.reading

-- the slots of the writer, of the reader and in the middle are three
pub record Apart (a b c : ℕ) : Type 0 where
  pub small_a : a < 3
  pub small_b : b < 3
  pub small_c : c < 3
  pub ab : a ≢ b
  pub ac : a ≢ c
  pub bc : b ≢ c

-- which slots the parties have, what the reader has loaded, and what the last store left
pub record KnownCell (T : Type 0) : Type 0 where
  pub w_slot : ℕ
  pub w_out : Bool
  pub r_slot : ℕ
  pub r_out : Bool
  pub own : Option T
  pub saw_fresh : Bool
  pub loaded : ℕ
  pub number : ℕ
  pub value : T

abbrev pub known_by : {T : Type 0} → Writing T → Reading T → CellPoint T → KnownCell T
known_by w r p = record { w_slot = w.slot; w_out = w.out; r_slot = r.slot; r_out = r.out; own = r.value; saw_fresh = r.fresh; loaded = last_number 0 r.events; number = p.number; value = p.value }

-- what lies at home, and whether the value in the middle or the reader's own is the newest
pub record AreLaid {T : Type 0} (k : KnownCell T) (middle : ℕ) (fresh : Bool) (homes : List (maybe.Option T)) : Type 0 where
  pub slots : Apart k.w_slot k.r_slot middle
  pub three : length homes ≡ 3
  pub shown : T
  pub middle_home : get_elem? homes middle ≡ some (some shown)
  pub writer_home : k.w_out ≡ false → (x : T) × (get_elem? homes k.w_slot ≡ some (some x))
  pub reader_home : k.r_out ≡ false → (x : T) × (k.own ≡ Some x) × (get_elem? homes k.r_slot ≡ some (some x))
  pub newest : fresh ≡ true → (shown ≡ k.value) × (k.loaded < k.number)
  pub old : fresh ≡ false → (k.own ≡ Some k.value) × (k.loaded ≡ k.number)
  pub seen : k.saw_fresh ≡ true → fresh ≡ true

-- the rule: each part is with one seat, the events stand in an order, the word names the middle slot, and the slots lie where they are by that
pub record Kept {T : Type 0} (first : T) (s : State T (View T)) : Type 0 where
  pub writer : Writing T
  pub reader : Reading T
  pub seats : AreHeld has_writing writing has_reading reading s.views writer reader
  pub first_is : writer.first ≡ Some first
  pub stands : Stands legal_value next_value (start_value first) writer.events reader.events
  pub counts : (stands.point.writes ≡ length writer.events) × (stands.point.reads ≡ length reader.events)
  pub middle : ℕ
  pub fresh : Bool
  pub word_is : s.words ≡ code middle fresh ∷ []
  pub laid : AreLaid (known_by writer reader stands.point) middle fresh s.homes

abbrev pub Seated : Type 0 → Type 0
Seated T = Me T (View T)

module _ {T : Type 0} where
  -- the first seat of the writer takes its slot
  abbrev pub sat_writer : Step T → Seated T → ℕ → Seated T → Type 0
  sat_writer st m r m' = m.0.writes ≡ true → m.0.writing.out ≡ false → (x : T) × (m' ≡ (record m.0 { writing = record m.0.writing { out = true } }, (m.0.writing.slot, x) ∷ m.1))

  abbrev pub sat_reader : Step T → Seated T → ℕ → Seated T → Type 0
  sat_reader st m r m' = m.0.reads ≡ true → m.0.reading.out ≡ false → (x : T) × (m.0.reading.value ≡ Some x) × (m' ≡ (record m.0 { reading = record m.0.reading { out = true } }, (m.0.reading.slot, x) ∷ m.1))

  abbrev pub stored : Step T → Seated T → ℕ → Seated T → Type 0
  stored st m r m' = (x : T) → m.1 ≡ (m.0.writing.slot, x) ∷ []
      → (y : T) × (r % 4 < 3) × (m' ≡ (record m.0 { writing = record { first = m.0.writing.first; events = m.0.writing.events ++ Store x ∷ []; slot = r % 4; out = true } }, (r % 4, y) ∷ []))

  -- the word was fresh, or the reader's own value is the newest
  abbrev pub looked : Step T → Seated T → ℕ → Seated T → Type 0
  looked st m r m' = (4 ≤ r → m' ≡ (record m.0 { reading = record m.0.reading { fresh = true } }, m.1))
      × (r < 4 → (n : ℕ) × (x : T) × (n ≡ last_number 0 m.0.reading.events) × (m.0.reading.value ≡ Some x) × (m' ≡ (record m.0 { reading = record m.0.reading { events = m.0.reading.events ++ Load n x ∷ [] } }, m.1)))

  abbrev pub fetched : Step T → Seated T → ℕ → Seated T → Type 0
  fetched st m r m' = (n : ℕ) × (y : T) × (last_number 0 m.0.reading.events < n) × (4 ≤ r) × (r < 7)
      × (m' ≡ (record m.0 { reading = record { events = m.0.reading.events ++ Load n y ∷ []; slot = r % 4; out = true; value = Some y; fresh = false } }, (r % 4, y) ∷ []))

  -- each party learns how many events the other has, and both lists have a history, before that and with it
  abbrev pub met : Step T → Seated T → ℕ → Seated T → Type 0
  met st m r m' = let v = m.0 in
      ((x : T) → v.writing.first ≡ Some x → HasValueHistory x v.writing.events v.reading.events × HasValueHistory x (v.writing.events ++ writes.Learn (length v.reading.events) ∷ []) (v.reading.events ++ reads.Learn (length v.writing.events) ∷ []))
      × (m' ≡ (
        record v {
          writing = record v.writing { events = v.writing.events ++ writes.Learn (length v.reading.events) ∷ [] };
          reading = record v.reading { events = v.reading.events ++ reads.Learn (length v.writing.events) ∷ [] };
        },
        m.1,
      ))

  -- a writer holds its slot, and no other part
  abbrev pub IsWriter : Seated T → ℕ → Type 0
  IsWriter m k = (m.0.writes ≡ true) × (m.0.reads ≡ false) × (m.0.writing.out ≡ true) × (m.0.writing.slot ≡ k) × (k < 3) × ((x : T) × (m.1 ≡ (k, x) ∷ []))

  abbrev pub IsReader : Seated T → ℕ → Type 0
  IsReader m k = (m.0.writes ≡ false) × (m.0.reads ≡ true) × (m.0.reading.out ≡ true) × (m.0.reading.fresh ≡ false) × (m.0.reading.slot ≡ k) × (k < 3)
      × ((x : T) × (m.0.reading.value ≡ Some x) × (m.1 ≡ (k, x) ∷ []))
