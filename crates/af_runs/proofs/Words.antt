-- Words that lemmas alone speak of.
use Rattle.std.specs.Prelude.{◌≡◌, ℕ, ◌==◌, false, if◌then◌else◌, List, [], ◌∷◌, length}
use Rattle.af_base.specs.declared.event.ServerEvent.{ServerEvent}
use Rattle.af_model.specs.declared.shape.Shape.{Shape}
use Rattle.af_model.specs.History.{Moment, by_server, client_of, server_of, is_lawful}
use Rattle.af_model.specs.ServerCalls.{look_at}
use Rattle.af_runs.specs.Blocks.{BlockTold}
use Rattle.af_base.specs.declared.event.ServerEvent.TheVariants as server
use Rattle.af_base.specs.declared.seen.Seen.TheVariants as seen

-- the moments up to the last meeting of client and server, the newest first
abbrev pub up_to_meeting : List Moment → List Moment
up_to_meeting [] = []
up_to_meeting (by_server (server.Learn count) ∷ told) = by_server (server.Learn count) ∷ told
up_to_meeting (moment ∷ told) = up_to_meeting told

-- the moments before the first poke, the newest first
abbrev pub before_poke : List Moment → List Moment
before_poke [] = []
before_poke (moment ∷ told) = if is_lawful (client_of (moment ∷ told)) then moment ∷ told else before_poke told

-- how many events of the server were told up to the last meeting before the first poke, or up to the last meeting if no poke was told
abbrev pub sure_count : BlockTold → ℕ
sure_count b = length (server_of (up_to_meeting (before_poke b.told)))

-- the flush word seen last, after one event more
abbrev pub flush_after : ℕ → ServerEvent → ℕ
flush_after kept (server.SawFlush flush) = flush
flush_after kept _ = kept

-- no missing frames are tallied next: a look that showed frames showed all that was asked for
abbrev pub NoneMissing : List ServerEvent → Type 0
NoneMissing (server.Tally missing ∷ events) = ⊥
NoneMissing _ = Unit {0}

-- The events of a server, and those told of it, of a block of this shape, after this flush word was seen. They are the same, but for the fronts of looks that leave them open: one that shows all that was asked for, and one that drops nothing by a position. The server's front is one by which the look answers so
pub data AnswerAlike (k : Shape) : (kept : ℕ) → List ServerEvent → List ServerEvent → Type 0 where
  ends : (kept : ℕ) → AnswerAlike k kept [] []
  same : (kept : ℕ) (e : ServerEvent) (events told : List ServerEvent) → AnswerAlike k (flush_after kept e) events told → AnswerAlike k kept (e ∷ events) (e ∷ told)
  shows : (kept flush rear front other count : ℕ) (events told : List ServerEvent) → look_at k kept count flush rear front ≡ seen.Frames count → NoneMissing told → AnswerAlike k flush events told
      → AnswerAlike k kept (server.SawFlush flush ∷ server.SawRear rear ∷ server.SawFront front ∷ server.Take count ∷ events) (server.SawFlush flush ∷ server.SawRear rear ∷ server.SawFront other ∷ server.Take count ∷ told)
  drops : (kept asked flush rear front other : ℕ) (events told : List ServerEvent) → (k.wrap == 0) ≡ false → look_at k kept asked flush rear front ≡ seen.Flushed 0 → AnswerAlike k flush events told
      → AnswerAlike k kept (server.SawFlush flush ∷ server.SawRear rear ∷ server.SawFront front ∷ server.Drop front ∷ events) (server.SawFlush flush ∷ server.SawRear rear ∷ server.SawFront other ∷ server.Drop other ∷ told)
