-- What a judge keeps of a block's server, by the server's list.
use Rattle.std.specs.Prelude.{◌≡◌, ℕ, ◌+◌, min, Bool, if◌then◌else◌, MatchBool, MatchOption}
use Rattle.af_base.specs.declared.log.SlotEntry.{SlotEntry}
use Rattle.af_base.specs.declared.seen.Seen.TheVariants as seen
use Rattle.af_model.specs.declared.shape.Shape.{Shape}
use Rattle.af_model.specs.Cycles.{Listed, LooksBy, kept}
use Rattle.af_model.specs.Point.{wrapped}
use Rattle.af_model.specs.ServerCalls.{ServerKept, look_at}
use Rattle.af_model.specs.Spelled.{own_front}
use Rattle.af_runs.specs.Fronts.{front_by_answer, lawful_front}
use Rattle.af_judge.specs.declared.server_judge.ServerJudge.{ServerJudge}

-- the most that is counted of anything
abbrev pub most_counted : ℕ
most_counted = 18446744073709551615

-- what is kept of a server, by what its list tells
abbrev pub server_at : Shape → ServerKept → ServerJudge
server_at shape k = record { shape = shape; flush = k.flush; is_new = k.is_new; noticed = k.noticed; rear = k.rear; front = k.front; consumed = min most_counted k.consumed; own = own_front shape k; shut = k.shut }

-- what is kept of the server with this list
abbrev pub IsServerOf : Listed → ServerJudge → Type 0
IsServerOf s j = j ≡ server_at s.shape (kept s)

-- the server consumed so many frames
pub record IsConsumed (count : ℕ) (j : ServerJudge) : Type 0 where
  pub consumed : j.consumed ≡ min most_counted count
  pub own : j.own ≡ wrapped (j.shape.base + count)

-- the front by which a look is judged: on a lawful block the server's own, if the answer leaves it open, and else one by which it answers so, if there is any
abbrev pub front_judged : Bool → ℕ → Listed → SlotEntry → ℕ
front_judged lawful asked s slot = if lawful then lawful_front asked s slot else front_by_answer s.shape slot

-- the look answers by this front and by the list before
abbrev pub AnswersAs : ℕ → Listed → SlotEntry → ℕ → Type 0
AnswersAs asked s slot front = MatchOption (kept s).shut
    (slot.seen ≡ look_at s.shape (kept s).flush asked slot.flush slot.rear front)
    (λ words. (slot.seen ≡ seen.Shut words.0 words.1) × (slot.flush ≡ (kept s).flush) × (slot.rear ≡ words.1))

-- the look answers as its words say: on a lawful block by the server's own front, if the answer leaves it open, and on another by some front
abbrev pub LooksRightly : Bool → ℕ → Listed → SlotEntry → Type 0
LooksRightly lawful asked s slot = MatchBool lawful (LooksBy asked s slot (lawful_front asked s slot)) ((front : ℕ) × LooksBy asked s slot front)
