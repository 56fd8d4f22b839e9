-- When a client can do the work that its ops ask for: its file has the frames that it is still to write, its block takes the flushes that are still to come, and each word that it pokes is one of its block.
use Rattle.std.specs.Prelude.{◌≡◌, ℕ, ◌+◌, ◌<◌, ◌≤◌, true, false, List, [], ◌∷◌, drop, All}
use Rattle.af_cblk.specs.Shape.{most_flushes}
use Rattle.af_runs.specs.declared.want.Want.{Want}
use Rattle.af_runs.specs.declared.want.Want.TheVariants as want
use Rattle.af_script.specs.declared.op.Op.{Op}
use Rattle.af_script.specs.declared.op.Op.TheVariants as op
use Rattle.af_party.specs.Parties.{PartyState}

-- the frames that these wants, and these ops, write
abbrev pub frames_due : List Want → ℕ
frames_due [] = 0
frames_due (want.Write count ∷ wants) = count + frames_due wants
frames_due (_ ∷ wants) = frames_due wants

abbrev pub frames_to_come : List Op → ℕ
frames_to_come [] = 0
frames_to_come (op.Write count ∷ ops) = count + frames_to_come ops
frames_to_come (_ ∷ ops) = frames_to_come ops

-- the flushes that these wants, and these ops, ask for
abbrev pub flushes_due : List Want → ℕ
flushes_due [] = 0
flushes_due (want.Flush ∷ wants) = 1 + flushes_due wants
flushes_due (_ ∷ wants) = flushes_due wants

abbrev pub flushes_to_come : List Op → ℕ
flushes_to_come [] = 0
flushes_to_come (op.Flush ∷ ops) = 1 + flushes_to_come ops
flushes_to_come (_ ∷ ops) = flushes_to_come ops

-- a write asks for a frame at least, a gain's halves fit their word, and a word that is poked is one of its block, with so many cells in the stream's and in the command block
abbrev pub IsFitting : (stream command : ℕ) → Want → Type 0
IsFitting stream command (want.Write count) = (1 ≤ count) × (count < 4294967296)
IsFitting stream command (want.Gain left right) = (left ≤ 65535) × (right ≤ 65535)
IsFitting stream command (want.Poke false word value) = word < 7 + stream
IsFitting stream command (want.Poke true word value) = word < 7 + command
IsFitting stream command _ = Unit {0}

abbrev pub IsFittingOp : (stream command : ℕ) → Op → Type 0
IsFittingOp stream command (op.Write count) = (1 ≤ count) × (count < 4294967296)
IsFittingOp stream command (op.Gain left right) = (left ≤ 65535) × (right ≤ 65535)
IsFittingOp stream command (op.Poke false word value) = word < 7 + stream
IsFittingOp stream command (op.Poke true word value) = word < 7 + command
IsFittingOp stream command _ = Unit {0}

-- a client of these ops and a file of so many frames can do its work
pub record CanWork (ops : List Op) (frames : ℕ) (p : PartyState) : Type 0 where
  pub file : p.stream.released + (frames_due p.client.due + frames_to_come (drop p.client.at ops)) ≤ frames
  pub few_frames : frames ≤ 4194304
  pub flushes : p.stream.flushes + (flushes_due p.client.due + flushes_to_come (drop p.client.at ops)) ≤ most_flushes p.stream.pass.part.shape.wrap
  pub due_fits : All (IsFitting p.stream.pass.part.shape.cells p.command.pass.part.shape.cells) p.client.due
  pub ops_fit : All (IsFittingOp p.stream.pass.part.shape.cells p.command.pass.part.shape.cells) (drop p.client.at ops)
  pub commands : (p.command.pass.part.shape.frames ≡ 128) × (p.command.pass.part.shape.base ≡ 0)
  pub room : p.calls.room ≡ 64
