-- What a slot of a mix read, saw and took, as its line tells it, and the entry of such slots.
use Rattle.std.specs.Prelude.{◌≡◌, ◌⊎◌, ℕ, ◌+◌, ◌*◌, Bool, false, if◌then◌else◌, List, [], ◌∷◌, map, flat_map, length, All}
use Rattle.af_base.specs.declared.frame.Frame.{Frame}
use Rattle.af_base.specs.declared.log.Cycle.TheVariants as cycle
use Rattle.af_base.specs.declared.log.CycleEntry.{CycleEntry}
use Rattle.af_base.specs.declared.log.SlotEntry.{SlotEntry}
use Rattle.af_base.specs.Log.{absent, count_seen}
use Rattle.af_base.specs.Sample.{IsFrame, packed_word}
use Rattle.af_model.specs.Cycles.{IsSeen, place_of}
use Rattle.af_runs.specs.Fronts.{is_shown}
use Rattle.af_journal.specs.declared.fast_reading.SlotRead.{SlotRead}
use Rattle.af_journal.specs.declared.line.Line.TheVariants as line
use Rattle.af_journal.specs.Lines.{Written, numbers}
use Rattle.af_journal.specs.Texts.{words_after}
use Rattle.af_model.specs.Reports.{one_if}

-- a slot of a mix
pub record SlotGot : Type 0 where
  pub slot : SlotEntry
  pub scale : ℕ
  pub mono : Bool
  pub frames : List Frame

-- a slot as the program read it, with the frames that it took
abbrev pub got_of : SlotRead → List Frame → SlotGot
got_of r frames = record { slot = r.slot; scale = r.scale; mono = r.mono; frames = frames }

-- the lines of a slot: none if it shows nothing
abbrev pub lines_by : ℕ → SlotEntry → ℕ → Bool → List Frame → List Written
lines_by i slot scale mono frames = if is_shown slot.seen then numbers (line.Slot i scale mono slot.gains slot.flush slot.rear slot.seen) ∷ words_after (map packed_word frames) else []

abbrev pub got_lines : ℕ → SlotGot → List Written
got_lines i g = lines_by i g.slot g.scale g.mono g.frames

-- a slot whose frames begin at a place: one that isn't of the mask, or one that saw something
pub record IsGot (place : ℕ) (g : SlotGot) : Type 0 where
  pub other : ((g.slot ≡ absent) × (g.scale ≡ 0) × (g.mono ≡ false)) ⊎ IsSeen g.slot.seen
  pub first : g.slot.first ≡ place_of place g.slot.seen
  pub count : length g.frames ≡ count_seen g.slot.seen
  pub are : All IsFrame g.frames

-- slots whose frames follow one another
abbrev pub AreGots : ℕ → List SlotGot → Type 0
AreGots place [] = Unit {0}
AreGots place (g ∷ gs) = IsGot place g × AreGots (place + length g.frames) gs

-- the frames of some slots
abbrev pub frames_in : List SlotGot → List Frame
frames_in gs = flat_map (λ (g : SlotGot). g.frames) gs

-- the number whose bits are these, the lowest first
unfoldable pub marks : List Bool → ℕ
marks [] = 0
marks (b ∷ bs) = one_if b + 2 * marks bs

-- the entry of a mix by a state with these slots
unfoldable pub mix_entry : ℕ → List SlotGot → CycleEntry
mix_entry state gs = record { state = state; cycle = cycle.Mixed; slots = map (λ (g : SlotGot). g.slot) gs; scales = map (λ (g : SlotGot). g.scale) gs; mono = marks (map (λ (g : SlotGot). g.mono) gs) }
