-- The calls of a player, one after the other: what all of them play.
use Rattle.std.specs.Prelude.{◌≡◌, ℕ, ◌+◌, if◌then◌else◌, List, [], ◌∷◌, ◌++◌, length}
use Rattle.af_base.specs.declared.frame.Frame.{Frame}
use Rattle.af_model.specs.declared.newest.ReaderEvent.{ReaderEvent}
use Rattle.af_model.specs.declared.newest.ReaderEvent.TheVariants.{Load}
use Rattle.af_model.specs.declared.newest.ReaderEvent.TheVariants as reads
use Rattle.af_static.specs.declared.setting.Setting.{Setting}
use Rattle.af_static.specs.declared.head.Head.{Head}
use Rattle.af_static.specs.Ends.{Plays}
use Rattle.af_static.specs.InStep.{HandState}
use Rattle.af_static.specs.Loops.{at_first, head_after, head_heard, is_valid, opening, output, taken}

-- a call: the setting that it finds, and the gains and the number of places that it is given
pub record Call : Type 0 where
  pub setting : Setting
  pub gains : ℕ × ℕ
  pub places : ℕ

-- what a call goes on from: the setting that the call before it used, and the head
pub record Standing : Type 0 where
  pub used : Setting
  pub head : Head

-- what the first call goes on from
abbrev pub unplayed : Standing
unplayed = record { used = opening; head = at_first }

-- the setting that a call uses: the one that it finds, unless the one used before is invalid, which stays for good
abbrev pub used_in : ℕ → Standing → Call → Setting
used_in n s call = if is_valid n s.used then call.setting else s.used

-- the settings that a call loads: none if the one used before is invalid
abbrev pub loads_in : ℕ → Standing → Call → List Setting
loads_in n s call = if is_valid n s.used then call.setting ∷ [] else []

-- the head from which a call plays
abbrev pub head_in : ℕ → Standing → Call → Head
head_in n s call = head_heard n s.used s.head (used_in n s call)

-- the frames that a call takes
abbrev pub frames_taken_by : List Frame → Standing → Call → List Frame
frames_taken_by frames s call = taken frames (used_in (length frames) s call) (head_in (length frames) s call) call.places

-- what the call after this one goes on from
abbrev pub standing_after : ℕ → Standing → Call → Standing
standing_after n s call = record { used = used_in n s call; head = head_after n (used_in n s call) (head_in n s call) call.places }

-- the outputs of calls, one after the other
abbrev pub outputs_of : List Frame → Standing → List Call → List Frame
outputs_of frames s [] = []
outputs_of frames s (call ∷ calls) = output call.gains (frames_taken_by frames s call) call.places ++ outputs_of frames (standing_after (length frames) s call) calls

-- how many frames some calls take
abbrev pub filled_of : List Frame → Standing → List Call → ℕ
filled_of frames s [] = 0
filled_of frames s (call ∷ calls) = length (frames_taken_by frames s call) + filled_of frames (standing_after (length frames) s call) calls

-- the settings that some calls load
abbrev pub loads_of : ℕ → Standing → List Call → List Setting
loads_of n s [] = []
loads_of n s (call ∷ calls) = loads_in n s call ++ loads_of n (standing_after n s call) calls

-- what a call after all of these goes on from
abbrev pub after_calls : ℕ → Standing → List Call → Standing
after_calls n s [] = s
after_calls n s (call ∷ calls) = after_calls n (standing_after n s call) calls

-- calls of a buffer's player, one after the other: their outputs, how many frames they took, and what the next one goes on from
pub record CallsPlay (frames : List Frame) (first : Standing) (calls : List Call) (played : List Frame) (count : ℕ) (now : Standing) : Type 0 where
  pub outputs : played ≡ outputs_of frames first calls
  pub filled : count ≡ filled_of frames first calls
  pub standing : now ≡ after_calls (length frames) first calls

-- the settings that a player loaded, in the order in which it saw them
abbrev pub loaded : List (ReaderEvent Setting) → List Setting
loaded [] = []
loaded (Load n s ∷ rs) = s ∷ loaded rs
loaded (reads.Learn count ∷ rs) = loaded rs

-- what the next call of a player goes on from, and of one in hand
abbrev pub standing_of : Plays → Standing
standing_of p = record { used = p.setting; head = p.head }

abbrev pub standing_in : HandState → Standing
standing_in hand = record { used = hand.used; head = hand.head }

-- all calls of a player since it was made: what they played and took, and that they found the settings that it loaded
pub record HasPlayed (frames : List Frame) (calls : List Call) (played : List Frame) (count : ℕ) (p : Plays) : Type 0 where
  pub all : CallsPlay frames unplayed calls played count (standing_of p)
  pub loads : loaded p.events ≡ loads_of (length frames) unplayed calls

-- a call with so many places
abbrev pub with_places : Call → ℕ → Call
with_places call places = record call { places = places }

-- a call and one behind it that is alike, but for its places, play and take what one call of all their places would, whatever comes behind them
pub record AreOneCall (frames : List Frame) (first : Standing) (call : Call) (more : ℕ) (behind : List Call) : Type 0 where
  pub outputs : outputs_of frames first (call ∷ with_places call more ∷ behind) ≡ outputs_of frames first (with_places call (call.places + more) ∷ behind)
  pub filled : filled_of frames first (call ∷ with_places call more ∷ behind) ≡ filled_of frames first (with_places call (call.places + more) ∷ behind)
