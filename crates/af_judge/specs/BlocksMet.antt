-- What a meeting leaves of a track's blocks, and what it answers.
use Rattle.std.specs.Prelude.{◌≡◌, ◌<◌, ◌^◌, Bool, true, false, length}
use Rattle.af_model.specs.History.{is_lawful}
use Rattle.af_judge.specs.declared.track_judge.TrackJudge.{TrackJudge}
use Rattle.af_judge.specs.Blocks.{BlockJudged, HasItsHistory, parties_met}

-- a track after the meetings, in which its stream proxy takes part or not, and its hand once it is there
abbrev pub blocks_met : Bool → Bool → TrackJudge → TrackJudge
blocks_met there hands t = record t { stream = parties_met there hands t.stream; commands = parties_met true false t.commands }

-- a block has its history, if its server took part and nothing was poked so far
abbrev pub KeepsItsHistory : Bool → BlockJudged → Type 0
KeepsItsHistory there j = there ≡ true → is_lawful j.client ≡ true → HasItsHistory j

-- few enough words of a block were released to be judged, if its server took part and nothing was poked so far
abbrev pub IsShort : Bool → BlockJudged → Type 0
IsShort there j = there ≡ true → is_lawful j.client ≡ true → length j.released < 2 ^ 63

-- both blocks of a track have their histories, that of the stream if its server took part
abbrev pub BothKeep : Bool → TrackJudge → Type 0
BothKeep there t = KeepsItsHistory there t.stream × KeepsItsHistory true t.commands

abbrev pub AreShort : Bool → TrackJudge → Type 0
AreShort there t = IsShort there t.stream × IsShort true t.commands
