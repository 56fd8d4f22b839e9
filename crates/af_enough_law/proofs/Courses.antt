-- The course of a track that plays through: what its client sends it, and what each turn makes of its life.
use Rattle.std.proofs.Common.{◌≡◌, ℕ, zero, suc, ◌+◌, ◌≤◌, ◌==◌, ◌&&◌, ◌||◌, not, Bool, true, false, if◌then◌else◌, List, [], ◌∷◌, length, Option, None}
use Rattle.af_enough_law.proofs.Common.{CommandLook, Heard, TrackKept, LifeState, Absent, Idle, Active, Stopping1, Stopping2, Stopped, Life, by_command, opens, is_shut, shows_command, by_report, status_word}

-- ## Words and looks

-- a track once it took these words, two for each command, none of which waits
abbrev pub told_all : Option ℕ → List ℕ → TrackKept → TrackKept
told_all given (code ∷ argument ∷ words) s = told_all given words (record s { life = by_command code argument s.life; slot = if opens code s.life then given else s.slot; settled = s.settled + 1 })
told_all given _ s = s

-- no START among these words has a flush count
abbrev pub starts_at_once : List ℕ → Bool
starts_at_once (code ∷ argument ∷ words) = not ((code == 2) && not (argument == 0)) && starts_at_once words
starts_at_once _ = true

-- no look finds its block shut
abbrev pub none_shut : List CommandLook → Bool
none_shut [] = true
none_shut (look ∷ looks) = not (is_shut look.seen) && none_shut looks

-- the looks end with one that shows no command
abbrev pub is_ended : List CommandLook → Bool
is_ended [] = false
is_ended (look ∷ looks) = if shows_command look.seen then is_ended looks else length looks == 0

-- the track after the report, with its status word
abbrev pub reported_by : Heard → TrackKept → TrackKept
reported_by h s = let t = record s { life = by_report h.known s.life } in record t { status = status_word h.known.shut t }

-- ## What the client of a track that plays through sends it: OPEN, START, a STOP at some count and REMOVE

abbrev pub code_at : ℕ → ℕ
code_at zero = 1
code_at (suc zero) = 2
code_at (suc (suc zero)) = 4
code_at _ = 6

abbrev pub argument_at : ℕ → ℕ → ℕ
argument_at count (suc (suc zero)) = count
argument_at count _ = 0

-- the words of so many commands, if so many were sent before
abbrev pub course : ℕ → ℕ → ℕ → List ℕ
course count told zero = []
course count told (suc more) = code_at told ∷ argument_at count told ∷ course count (suc told) more

-- a life that goes on, in this state
abbrev pub life_in : LifeState → Bool → Bool → ℕ → ℕ → Life
life_in state member drained retries stop_at = record { state = state; member = member; ended = false; drained = drained; retries = retries; stop_at = stop_at }

-- The life of a track that is stopped at this count, by how many commands were taken
pub data Course (count : ℕ) : ℕ → Life → Type 0 where
  absent : Course count 0 (life_in Absent false false 50 0)
  idle : Course count 1 (life_in Idle false false 50 0)
  playing : (retries : ℕ) → 1 ≤ retries → retries ≤ 50 → Course count 2 (life_in Active true false retries 0)
  stopping : (retries : ℕ) → Course count 3 (life_in Stopping1 true false retries count)
  drained : (retries : ℕ) → Course count 3 (life_in Stopping2 true true retries count)
  stopped : (retries : ℕ) → Course count 3 (life_in Stopped false true retries count)
  over : (life : Life) → life.ended ≡ true → Course count 4 life

-- how far a track is on its way to a stop: 3 if it has stopped
abbrev pub stage_of : LifeState → ℕ
stage_of Stopping1 = 1
stage_of Stopping2 = 2
stage_of Stopped = 3
stage_of _ = 0

abbrev pub stage : Life → ℕ
stage life = stage_of life.state

-- a track that took so many commands, so far on its way, is to be heard
abbrev pub is_heard : ℕ → ℕ → Bool
is_heard told way = (told == 2) || ((told == 3) && not (way == 3))

-- A track that follows its course: its commands are settled as they are taken, and its status word is stored
pub record Follows (count told : ℕ) (s : TrackKept) : Type 0 where
  pub course : Course count told s.life
  pub settled : s.settled ≡ told
  pub awaits : s.awaits ≡ None
  pub status : s.status ≡ status_word false s

-- a life once it took these words
abbrev pub told_words : List ℕ → Life → Life
told_words (code ∷ argument ∷ words) life = told_words words (by_command code argument life)
told_words _ life = life

-- the life after a turn's words and report; one that had ended stays as it is
abbrev pub life_after : Heard → List ℕ → Life → Life
life_after h words life = if life.ended then life else by_report h.known (told_words words life)
