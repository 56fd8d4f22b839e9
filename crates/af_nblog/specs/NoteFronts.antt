-- What the end that notes saw of the end that reads.
use Rattle.std.specs.Prelude.{◌≡◌, ℕ, ◌+◌, ◌-◌, ◌*◌, ◌≤◌, ◌==◌, max, Bool, true, List, [], ◌∷◌, take}
use Rattle.af_base.specs.declared.event.ClientEvent.{ClientEvent}
use Rattle.af_base.specs.declared.event.ClientEvent.TheVariants as client
use Rattle.af_base.specs.declared.event.ServerEvent.{ServerEvent}
use Rattle.af_base.specs.declared.event.ServerEvent.TheVariants as server
use Rattle.af_model.specs.Point.{wrapped}
use Rattle.af_model.specs.PipeHistory.{room_by}

-- a take is of one note
abbrev pub takes_note : ServerEvent → Bool
takes_note (server.Take count) = count == 8
takes_note _ = true

-- how many takes these events have
abbrev pub read_in : List ServerEvent → ℕ
read_in [] = 0
read_in (server.Take count ∷ es) = 1 + read_in es
read_in (_ ∷ es) = read_in es

-- Each front seen, behind so many words put, is that of a number of notes read. They are no more than those put, no fewer than an earlier look saw, and no fewer than before a meeting that stands before it. The room by it is what the notes put and not read leave
abbrev pub SeesRead : (size : ℕ) → List ServerEvent → (put low : ℕ) → List ClientEvent → Type 0
SeesRead size reads put low [] = Unit {0}
SeesRead size reads put low (client.SawFront front ∷ es) =
    (read : ℕ) × (low ≤ read) × (8 * read ≤ put) × (put ≤ 8 * read + size) × (front ≡ wrapped (8 * read)) × (room_by size put front ≡ size - (put - 8 * read)) × SeesRead size reads put read es
SeesRead size reads put low (client.Release count ∷ es) = SeesRead size reads (put + count) low es
SeesRead size reads put low (client.Learn count ∷ es) = SeesRead size reads put (max low (read_in (take count reads))) es
SeesRead size reads put low (_ ∷ es) = SeesRead size reads put low es
