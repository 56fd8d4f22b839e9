-- A recording on one thread, in periods: a supply and then a read.
use Rattle.std.specs.Prelude.{ℕ, zero, suc, ◌+◌, ◌-◌, min, List, [], ◌∷◌, ◌++◌, length, take, drop}
use Rattle.af_base.specs.declared.frame.Frame.{Frame}
use Rattle.af_words.specs.declared.request.Sizes.{Sizes}

-- the frames read so far and those that are queued, and how many were lost
pub record Recording (X : Type 0) : Type 0 where
  pub read : List X
  pub queued : List X
  pub lost : ℕ

module _ {X : Type 0} where
  -- a recording before the first period
  abbrev pub empty : Recording X
  empty = record { read = []; queued = []; lost = 0 }

  -- a supply puts the first frames that there is room for, and the others are lost
  abbrev pub supplied : ℕ → List X → Recording X → Recording X
  supplied room frames r =
      let put = min (length frames) (room - length r.queued) in
      record { read = r.read; queued = r.queued ++ take put frames; lost = r.lost + (length frames - put) }

  -- a read takes up to so many of the frames that are queued
  abbrev pub read_up_to : ℕ → Recording X → Recording X
  read_up_to count r = record { read = r.read ++ take count r.queued; queued = drop count r.queued; lost = r.lost }

  -- a period: a supply of these frames, and then a read
  abbrev pub period : Sizes → List X → Recording X → Recording X
  period sizes frames r = read_up_to sizes.read (supplied sizes.room frames r)

  -- periods until no frame is left, but no more than so many
  abbrev pub periods : Sizes → ℕ → List X → Recording X → Recording X
  periods sizes zero frames r = r
  periods sizes (suc count) [] r = r
  periods sizes (suc count) (frame ∷ frames) r = periods sizes count (drop sizes.supply (frame ∷ frames)) (period sizes (take sizes.supply (frame ∷ frames)) r)

  -- a recording after all frames are supplied: each period takes at least one
  abbrev pub recording_of : Sizes → List X → Recording X
  recording_of sizes frames = periods sizes (length frames) frames empty

  -- all frames that are heard: reads until one gives nothing take all that is queued
  abbrev pub frames_heard : Recording X → List X
  frames_heard r = r.read ++ r.queued

-- how many frames were supplied, read and lost
pub record Counts : Type 0 where
  pub supplied : ℕ
  pub read : ℕ
  pub lost : ℕ

abbrev pub counts_of : Sizes → List Frame → Counts
counts_of sizes frames = let r = recording_of sizes frames in record { supplied = length frames; read = length (frames_heard r); lost = r.lost }
