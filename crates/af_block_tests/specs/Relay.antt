-- What a relay of frames from one thread to another keeps.
use Rattle.std.specs.Prelude.{◌≡◌, ℕ, Bool, true, List, map, take}
use Rattle.af_base.specs.declared.frame.Frame.{Frame}
use Rattle.af_base.specs.declared.seen.Seen.{Seen}
use Rattle.af_base.specs.declared.seen.Seen.TheVariants as seen
use Rattle.af_base.specs.Sample.{packed_word}
use Rattle.af_model.specs.Fates.{drops_none}
use Rattle.af_model.specs.History.{is_lawful}
use Rattle.af_cblk.specs.declared.view.ClientPart.{ClientPart}
use Rattle.af_cblk.specs.declared.view.ServerPart.{ServerPart}

-- a beginning of these frames was released, and nothing was poked
abbrev pub Sent : List Frame → ClientPart → Type 0
Sent frames c = (is_lawful c.events ≡ true) × ((n : ℕ) × (c.frames ≡ map packed_word (take n frames)))

-- these frames were taken, and if no flush was noticed nothing was dropped
abbrev pub Received : Bool → List Frame → ServerPart → Type 0
Received clean frames s = (s.frames ≡ map packed_word frames) × (clean ≡ true → drops_none s.events ≡ true)

-- how many frames a look showed
abbrev pub count_of : Seen → ℕ
count_of (seen.Frames count) = count
count_of _ = 0

abbrev pub IsFlushed : Seen → Type 0
IsFlushed (seen.Flushed dropped) = Unit {0}
IsFlushed _ = ⊥
