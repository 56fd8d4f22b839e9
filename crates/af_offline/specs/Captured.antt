-- A recording of the program at work.
use Rattle.std.specs.Prelude.{◌≡◌, ℕ, ◌+◌, ◌/◌, ◌%◌, ◌≤◌, List, [], ◌∷◌, length}
use Rattle.std.specs.List.{flat_map}
use Rattle.af_offline.specs.declared.capture.Tape.{Tape}
use Rattle.af_offline.specs.declared.capture.Counted.{Counted}
use Rattle.af_words.specs.Asking.{AreSizes}
use Rattle.af_words.specs.declared.request.Sizes.{Sizes}
use Rattle.af_offline.specs.Recorded.{Counts, Recording}

-- the four bytes of a word that holds a frame, low byte first
abbrev pub word_bytes : ℕ → List ℕ
word_bytes word = word % 256 ∷ word / 256 % 256 ∷ word / 65536 % 256 ∷ word / 16777216 % 256 ∷ []

-- how far a recording at work has come, by the words of frames
abbrev pub state_of : Tape → Recording ℕ
state_of tape = record { read = tape.hand.read; queued = tape.hand.queued; lost = tape.lost }

-- a recording at work has these sizes and the bytes of all that was read, and each frame was read, is queued or was lost
pub record IsTape (sizes : Sizes) (tape : Tape) : Type 0 where
  pub sound : AreSizes sizes
  pub size : tape.hand.size ≡ sizes.room
  pub places : length tape.places.items ≡ sizes.read
  pub bytes : tape.bytes.items ≡ flat_map word_bytes tape.hand.read
  pub counted : (length tape.hand.read + length tape.hand.queued) + tape.lost ≡ tape.hand.supplied
  pub few : tape.hand.supplied ≤ 2097152

abbrev pub counts_in : Counted → Counts
counts_in c = record { supplied = c.supplied; read = c.read; lost = c.lost }
