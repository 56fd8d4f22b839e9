-- A static buffer that is looped under one setting: calls of so many places, one after the other, at unity.
use Rattle.std.specs.Prelude.{ℕ, Bool, List, length, replicate, is_some, if◌then◌else◌}
use Rattle.af_base.specs.declared.frame.Frame.{Frame}
use Rattle.af_static.specs.declared.setting.Setting.{Setting}
use Rattle.af_static.specs.Calls.{Call, filled_of, outputs_of, standing_in, unplayed}
use Rattle.af_static.specs.InStep.{HandState}
use Rattle.af_static.specs.Loops.{is_valid, shut_by}
use Rattle.af_words.specs.declared.request.Turns.{Turns}

-- so many calls of so many places, at unity on both sides, that find one setting
abbrev pub calls_under : Setting → ℕ → ℕ → List Call
calls_under setting places calls = replicate calls (record { setting = setting; gains = (4096, 4096); places = places })

-- the one setting of a loop, which the first call sees
abbrev pub loop_setting : Turns → Setting
loop_setting turns = record { number = 1; start = turns.start; end = turns.end; count = turns.count }

-- what is heard of all calls of a loop
abbrev pub looped : Turns → List Frame → List Frame
looped turns frames = outputs_of frames unplayed (calls_under (loop_setting turns) turns.places turns.calls)

-- how many calls there were, how many frames they took, and whether the player is shut
pub record Rolls : Type 0 where
  pub cycles : ℕ
  pub filled : ℕ
  pub is_shut : Bool

abbrev pub rolls_of : Turns → List Frame → Rolls
rolls_of turns frames = record {
  cycles = turns.calls;
  filled = filled_of frames unplayed (calls_under (loop_setting turns) turns.places turns.calls);
  is_shut = is_some (shut_by (length frames) (loop_setting turns));
}

-- the setting by which the next call of a player plays
unfoldable pub next_setting : HandState → Setting
next_setting hand = if is_valid (length hand.frames) hand.used then hand.newest else hand.used

-- what is heard of all calls of a buffer in hand
abbrev pub heard_in : HandState → Turns → List Frame
heard_in hand turns = outputs_of hand.frames (standing_in hand) (calls_under hand.newest turns.places turns.calls)

-- how many calls a buffer in hand has, how many frames they take, and whether the player is shut
abbrev pub rolls_from : HandState → Turns → Rolls
rolls_from hand turns = record {
  cycles = turns.calls;
  filled = filled_of hand.frames (standing_in hand) (calls_under hand.newest turns.places turns.calls);
  is_shut = is_some (shut_by (length hand.frames) (next_setting hand));
}
