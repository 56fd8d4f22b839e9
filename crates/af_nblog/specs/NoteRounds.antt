-- A log in rounds: in each one end notes, the other reads until it sees no note left, and then both meet. In which of them notes are refused.
use Rattle.std.specs.Prelude.{◌≡◌, ℕ, ◌+◌, ◌*◌, ◌≤◌, ◌⊎◌, Bool, true, false, Some, None, List, [], ◌∷◌, length, take}
use Rattle.af_base.specs.declared.event.ClientEvent.{ClientEvent}
use Rattle.af_base.specs.declared.event.ClientEvent.TheVariants as client
use Rattle.af_base.specs.declared.event.ServerEvent.{ServerEvent}
use Rattle.af_base.specs.declared.event.ServerEvent.TheVariants as server
use Rattle.af_cblk.specs.declared.view.ClientPart.{ClientPart}
use Rattle.af_cblk.specs.Sides.{ServerSide}
use Rattle.af_nblog.specs.declared.entries.Note.{Note}
use Rattle.af_nblog.specs.declared.writing.Noted.TheVariants.{Sent, Refused}
use Rattle.af_nblog.specs.NoteFronts.{read_in}
use Rattle.af_nblog.specs.NoteRears.{put_in}
use Rattle.af_nblog.specs.NoteEnds.{WriterState, ReaderState, NotedBy, ReadBy, accepted, read}

-- ## Whether notes were kept, round by round

-- how many notes of a round were kept
abbrev pub count_accepted : List Bool → ℕ
count_accepted [] = 0
count_accepted (true ∷ outcomes) = 1 + count_accepted outcomes
count_accepted (false ∷ outcomes) = count_accepted outcomes

-- A note of a round is refused only if the notes kept before it, in this round and in the round before, are at least as many as there is room for
abbrev pub RefusesLate : (room before : ℕ) → List Bool → Type 0
RefusesLate room before [] = Unit {0}
RefusesLate room before (true ∷ outcomes) = RefusesLate room (before + 1) outcomes
RefusesLate room before (false ∷ outcomes) = (room ≤ before) × RefusesLate room before outcomes

-- each round refuses so late, if so many notes were kept in the round before the first
abbrev pub EachRefusesLate : (room before : ℕ) → List (List Bool) → Type 0
EachRefusesLate room before [] = Unit {0}
EachRefusesLate room before (round ∷ rounds) = RefusesLate room before round × EachRefusesLate room (count_accepted round) rounds

-- ## The turns of a round

-- these notes were made one after the other, each kept or refused
abbrev pub HasNoted : ClientPart → List Bool → ClientPart → Type 0
HasNoted p [] q = q ≡ p
HasNoted p (true ∷ outcomes) q = (note : Note) × (mid : ClientPart) × NotedBy p note Sent mid × HasNoted mid outcomes q
HasNoted p (false ∷ outcomes) q = (note : Note) × (sent : ℕ) × (known : ℕ) × (mid : ClientPart) × NotedBy p note (Refused sent known) mid × HasNoted mid outcomes q

-- these notes were read one after the other
abbrev pub HasRead : ServerSide → List Note → ServerSide → Type 0
HasRead p [] q = q ≡ p
HasRead p (note ∷ notes) q = (mid : ServerSide) × ReadBy p (Some note) mid × HasRead mid notes q

-- a turn of the end that reads: these notes, until it sees no note left, or as many as there is room for
abbrev pub HasDrained : ℕ → ServerSide → List Note → ServerSide → Type 0
HasDrained room p notes q = ((mid : ServerSide) × HasRead p notes mid × ReadBy mid None q) ⊎ ((room ≤ length notes) × HasRead p notes q)

-- ## Between rounds

-- how many events of the other end were learnt last, after so many before
abbrev pub told_reads : ℕ → List ClientEvent → ℕ
told_reads told [] = told
told_reads told (client.Learn count ∷ es) = told_reads count es
told_reads told (_ ∷ es) = told_reads told es

abbrev pub told_puts : ℕ → List ServerEvent → ℕ
told_puts told [] = told
told_puts told (server.Learn count ∷ es) = told_puts count es
told_puts told (_ ∷ es) = told_puts told es

-- how many notes were kept in the last of these rounds, if there were so many in the round before the first
abbrev pub last_accepted : ℕ → List (List Bool) → ℕ
last_accepted before [] = before
last_accepted before (round ∷ rounds) = last_accepted (count_accepted round) rounds

-- Each end's words are those of whole notes, and its events say how many there are
pub record AreCounted (w : WriterState) (r : ReaderState) : Type 0 where
  pub whole : length w.pass.part.frames ≡ 8 * length (accepted w)
  pub put_is : put_in w.pass.part.events ≡ length w.pass.part.frames
  pub whole_read : length r.pass.part.frames ≡ 8 * length (read r)
  pub read_is : read_in r.pass.part.events ≡ length (read r)

-- Between rounds, of which these were the outcomes: each end learnt all that the other did, the notes kept before the last round have been read, and each refusal came late
pub record IsBetween (room : ℕ) (rounds : List (List Bool)) (w : WriterState) (r : ReaderState) : Type 0 where
  pub counted : AreCounted w r
  pub reads : length (read r) ≤ read_in (take (told_reads 0 w.pass.part.events) r.pass.part.events)
  pub puts : 8 * length (accepted w) ≤ put_in (take (told_puts 0 r.pass.part.events) w.pass.part.events)
  pub late : EachRefusesLate room 0 rounds
  pub drained : length (accepted w) ≤ length (read r) + last_accepted 0 rounds
