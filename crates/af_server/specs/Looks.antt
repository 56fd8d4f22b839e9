-- What a look and a take of a server's proxy come to.
use Rattle.std.specs.Prelude.{◌≡◌, ℕ, ◌+◌, ◌≤◌, is_some, if◌then◌else◌, MatchOption, Option, Some, None, List, ◌++◌, ◌∷◌, [], map, length}
use Rattle.af_base.specs.declared.event.ServerEvent.TheVariants as server
use Rattle.af_base.specs.declared.frame.Frame.{Frame}
use Rattle.af_base.specs.declared.seen.Seen.{Seen}
use Rattle.af_base.specs.declared.seen.Seen.TheVariants as seen
use Rattle.af_base.specs.Sample.{packed_word}
use Rattle.af_model.specs.Point.{wrapped}
use Rattle.af_model.specs.ServerCalls.{look_at, look_events, shown_by, dropped_by, flushes_by}
use Rattle.af_cblk.specs.declared.view.ServerPart.{ServerPart}
use Rattle.af_cblk.specs.Parts.{saw_flush, saw_rear, server_saw_front}
use Rattle.af_cblk.specs.Sides.{ServerSide}
use Rattle.af_server.specs.declared.look.Look.{Look}
use Rattle.af_server.specs.Order.{ServerState}

-- ## Looking

-- A look answers by the three words that it sees, the flush word kept before, and the frames asked for, and adds the events of that. A proxy that was shut answers the words that shut it, and adds none
abbrev pub Looks : ServerState → ℕ → Look → ServerState → Type 0
Looks c asked look d =
    MatchOption c.shut
    (
    (front : ℕ)
    × (let shows = look_at c.pass.part.shape c.flush asked look.flush look.rear front in
    (look.seen ≡ shows) × (d.shown ≡ shown_by shows) × (d.pass.part.events ≡ c.pass.part.events ++ look_events shows look.flush look.rear front)))
    (λ words. (look.seen ≡ seen.Shut words.0 words.1) × (look.flush ≡ c.flush) × (look.rear ≡ words.1) × (d ≡ (record c { shown = None })))

-- ## What a look's answer tells

-- the words that shut the proxy, if the look found or finds it shut
abbrev pub shut_of : Seen → Option (ℕ × ℕ)
shut_of (seen.Shut front rear) = Some (front, rear)
shut_of _ = None

-- how many frames a look discarded
abbrev pub dropped_of : Seen → ℕ
dropped_of (seen.Flushed count) = count
dropped_of _ = 0

-- how many flushes there were at the last one that was noticed, after a look that saw this flush word
abbrev pub flushes_after : (wrap flush before : ℕ) → Seen → ℕ
flushes_after wrap flush before (seen.Flushed count) = flushes_by wrap flush
flushes_after wrap flush before _ = before

-- a look that showed frames showed at least one, and no more than were asked for
abbrev pub WithinAsk : ℕ → Seen → Type 0
WithinAsk asked (seen.Frames count) = (1 ≤ count) × (count ≤ asked)
WithinAsk asked _ = Unit {0}

-- a look steps once for each of the three words, and once more if it discards
abbrev pub sight_steps : Seen → ℕ
sight_steps (seen.Flushed count) = 4
sight_steps _ = 3

abbrev pub look_steps : ServerState → Seen → ℕ
look_steps c answer = if is_some c.shut then 0 else sight_steps answer

-- ## The parts of a look and a take

-- flush, rear and front were seen
abbrev pub saw_all : ServerPart → ℕ → ℕ → ℕ → ServerPart
saw_all s flush rear front = server_saw_front (saw_rear (saw_flush s flush) rear) front

-- the words of these frames were loaded, and else the server is as before
abbrev pub Reads : ServerSide → ServerSide → List Frame → Type 0
Reads p q into = q ≡ (record p { part = record p.part { loaded = map packed_word into } })

-- the front that a new flush stores: the front seen, and so many frames as it drops
abbrev pub stored_front : (wrap flush rear front : ℕ) → ℕ
stored_front wrap flush rear front = wrapped (front + dropped_by wrap flush rear front)

-- these frames were taken
abbrev pub Takes : ServerState → List Frame → ServerState → Type 0
Takes c into d =
    (d.pass.part.events ≡ c.pass.part.events ++ server.Take (length into) ∷ []) × (d.pass.part.frames ≡ c.pass.part.frames ++ map packed_word into)
