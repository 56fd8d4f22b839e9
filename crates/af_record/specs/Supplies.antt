-- The history of a recording: its supplies and its reads, the oldest first. A frame is named by its word.
use Rattle.std.specs.Prelude.{◌≡◌, ℕ, ◌+◌, List, [], ◌∷◌, ◌++◌, length, map, take, drop}
use Rattle.af_base.specs.declared.frame.Frame.{Frame}
use Rattle.af_base.specs.Sample.{packed_word}

-- the frames of a supply that were put, and those that were lost
pub record Supply : Type 0 where
  pub put : List ℕ
  pub lost : List ℕ

-- the first `count` frames are put, and the others are lost
abbrev pub supply_of : List Frame → ℕ → Supply
supply_of frames count = record { put = map packed_word (take count frames); lost = map packed_word (drop count frames) }

-- the kept list: what all supplies put, in order
abbrev pub kept : List Supply → List ℕ
kept [] = []
kept (s ∷ supplies) = s.put ++ kept supplies

-- how many frames were lost
abbrev pub count_lost : List Supply → ℕ
count_lost [] = 0
count_lost (s ∷ supplies) = length s.lost + count_lost supplies

-- how many frames were supplied
abbrev pub count_supplied : List Supply → ℕ
count_supplied [] = 0
count_supplied (s ∷ supplies) = (length s.put + length s.lost) + count_supplied supplies

-- the frames of all reads, in order
abbrev pub all_read : List (List ℕ) → List ℕ
all_read [] = []
all_read (frames ∷ reads) = frames ++ all_read reads

-- The frames read are a beginning of the kept list, and its others are queued. So each supplied frame was read once in its order, or is queued, or was lost
pub record IsCaptureHistory (supplies : List Supply) (reads : List (List ℕ)) : Type 0 where
  pub queued : List ℕ
  pub kept_is : all_read reads ++ queued ≡ kept supplies
  pub counts : length (all_read reads) + length queued + count_lost supplies ≡ count_supplied supplies
