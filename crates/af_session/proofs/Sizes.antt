-- The sizes of new blocks.
use Rattle.std.proofs.Common.{◌≡◌, ℕ, ◌*◌, ◌≤◌, ◌==◌, if◌then◌else◌, refl, ap, ◌∙◌, arith}
use Rattle.af_session.proofs.Common.{IsCommandShape, IsShape, IsStreamShape, Shape, TrackSpec, cells_of, command_shape, engine_track, stream_shape}
use Rattle.af_script.proofs.Cells.{cells_of-next}

-- two shapes are the same if each of their sizes is
same_shape : (k l : Shape) → k.frames ≡ l.frames → k.cells ≡ l.cells → k.base ≡ l.base → k.wrap ≡ l.wrap → k ≡ l
same_shape k l frames cells base wrap = λ i. record { frames = frames i; cells = cells i; base = base i; wrap = wrap i }

-- how many cells a block of few frames has
cells_are : (k : Shape) (frames : ℕ) → IsShape k → k.frames ≡ frames → frames ≤ 8192 → k.cells ≡ cells_of frames
cells_are k frames ok same few = cells_of-next k.frames k.cells ok.cells.0 ok.cells.1 ok.cells.2 (omega arith) ∙ ap cells_of same

-- the shape of the block of a track's stream
pub stream_shape_is : (version : ℕ) (spec : TrackSpec) (k : Shape) → IsStreamShape (engine_track version spec) k → spec.frames ≤ 8192 → k ≡ stream_shape version spec
stream_shape_is version spec k is few =
    let cells : k.cells ≡ cells_of spec.frames = cells_are k spec.frames is.sound is.frames few in
    same_shape k (stream_shape version spec) is.frames cells is.base (is.wrap ∙ ap (λ (n : ℕ). if version == 2 then n * 4 else 0) cells)

of_128 : cells_of 128 ≡ 128
unfolding cells_of
of_128 = refl

-- the shape of a command block
pub command_shape_is : (k : Shape) → IsCommandShape k → k ≡ command_shape
command_shape_is k is = same_shape k command_shape is.frames (cells_are k 128 is.sound is.frames (omega arith) ∙ of_128) is.base is.wrap
