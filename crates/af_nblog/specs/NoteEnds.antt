-- What contracts see of the two ends of a log of notes, and what always holds of them.
use Rattle.std.specs.Prelude.{◌≡◌, ℕ, ◌+◌, ◌-◌, ◌*◌, ◌/◌, ◌<◌, ◌≤◌, true, false, MatchOption, Option, Some, None, List, [], ◌∷◌, ◌++◌, length}
use Rattle.std.specs.List.{list_all}
use Rattle.af_base.specs.declared.event.ClientEvent.TheVariants as client
use Rattle.af_base.specs.declared.event.ServerEvent.TheVariants as server
use Rattle.af_model.specs.Point.{wrapped}
use Rattle.af_cblk.specs.declared.view.ClientPart.{ClientPart}
use Rattle.af_cblk.specs.declared.view.ServerPart.{ServerPart}
use Rattle.af_cblk.specs.Parts.{ahead, client_saw_front, saw_rear, server_saw_front}
use Rattle.af_cblk.specs.Shape.{IsShape}
use Rattle.af_cblk.specs.Sides.{Made, ClientSide, ServerSide, client_made, server_made, ServerIs}
use Rattle.af_link.specs.PipeEnds.{room_of}
use Rattle.af_nblog.specs.declared.entries.Note.{Note}
use Rattle.af_nblog.specs.declared.writing.Noted.{Noted}
use Rattle.af_nblog.specs.declared.writing.Noted.TheVariants.{Sent, Refused}
use Rattle.af_nblog.specs.Notes.{words_of, notes_in}
use Rattle.af_nblog.specs.NoteFronts.{takes_note}

-- ## The end that notes

-- the writer's pass, and how many notes were refused
pub record WriterState : Type 0 where
  pub pass : ClientSide
  pub refused : ℕ

-- the block that a writer was made with
abbrev pub writer_made : WriterState → Made
writer_made w = client_made w.pass

-- the notes accepted, in order
abbrev pub accepted : WriterState → List Note
accepted w = notes_in w.pass.part.frames

-- for how many notes there is room in all
abbrev pub room_in : ClientPart → ℕ
room_in p = p.shape.frames / 8

-- how many notes lie in the log by the front last seen: those for which it leaves no room
abbrev pub left_by : ClientPart → ℕ
left_by p = room_in p - room_of p / 8

-- how many notes that front shows taken: those accepted but for those that lie in the log
abbrev pub known_by : ClientPart → ℕ
known_by p = length (notes_in p.frames) - left_by p

-- A note is refused exactly if the front that it sees leaves as many notes in the log as there is room for. Else its words are put, in one release
abbrev pub NotedBy : ClientPart → Note → Noted → ClientPart → Type 0
NotedBy p note Sent q =
    (left_by (client_saw_front p q.front) < room_in p)
    × (q ≡ (record p {
      events = p.events ++ client.SawFront q.front ∷ client.Release 8 ∷ [];
      front = q.front;
      frames = p.frames ++ words_of note;
      stored = q.stored;
    }))
NotedBy p note (Refused sent known) q =
    (room_in p ≤ left_by q) × (sent ≡ length (notes_in p.frames)) × (known ≡ known_by q) × (q ≡ client_saw_front p q.front)

-- the note, if it was accepted
abbrev pub kept : Noted → Note → List Note
kept Sent note = note ∷ []
kept (Refused sent known) note = []

-- how many notes an answer refused
abbrev pub refusals : Noted → ℕ
refusals Sent = 0
refusals (Refused sent known) = 1

-- the steps of a note: the front, eight cells and a release; or the front alone
abbrev pub note_steps : Noted → ℕ
note_steps Sent = 10
note_steps (Refused sent known) = 1

-- The end of a pipe for whole notes, which put whole notes and nothing else, and their number
pub record IsNoting (p : ClientPart) (sent room : ℕ) : Type 0 where
  pub shape : IsShape p.shape
  pub size : p.shape.frames ≡ 8 * room
  pub some : 1 ≤ room
  pub whole : length p.frames ≡ 8 * sent
  pub sent_is : sent ≡ length (notes_in p.frames)

-- ## The end that reads

-- the reader's pass
pub record ReaderState : Type 0 where
  pub pass : ServerSide

-- the block that a reader was made with
abbrev pub reader_made : ReaderState → Made
reader_made r = server_made r.pass

-- the notes read, in order
abbrev pub read : ReaderState → List Note
read r = notes_in r.pass.part.frames

-- the end saw this rear and then this front
abbrev pub looked : ServerPart → ℕ → ℕ → ServerPart
looked s rear front = server_saw_front (saw_rear s rear) front

-- the eight frames of these words were taken, from the front last seen on
abbrev pub note_taken : ServerPart → List ℕ → ServerPart
note_taken s words =
    record s {
      events = s.events ++ server.Take 8 ∷ [];
      frames = s.frames ++ words;
      front = wrapped (s.front + 8);
      fresh = false;
      flush_fresh = false;
      rear_fresh = false;
      loaded = [];
    }

-- There is no note exactly if the rear that is seen lies less than a note past the front. Else the note there is taken, whole
abbrev pub ReadBy : ServerSide → Option Note → ServerSide → Type 0
ReadBy p answer q =
    (rear : ℕ) × (front : ℕ)
    × MatchOption answer
    ((ahead front rear < 8) × ServerIs (looked p.part rear front) p q)
    (λ note. (8 ≤ ahead front rear) × ServerIs (note_taken (looked p.part rear front) (words_of note)) p q)

-- the note that was read, if one was
abbrev pub listed : Option Note → List Note
listed None = []
listed (Some note) = note ∷ []

-- the steps of a read: rear and front, and with a note eight cells and the front
abbrev pub read_steps : Option Note → ℕ
read_steps None = 2
read_steps (Some note) = 11

-- The end of a pipe for whole notes, which took whole notes, each in one take
pub record IsReading (s : ServerPart) : Type 0 where
  pub whole : length s.frames ≡ 8 * length (notes_in s.frames)
  pub takes : list_all takes_note s.events ≡ true

-- ## Meeting

-- the notes read and those left are together those accepted, in order
pub record AreInOrder (accepted read : List Note) : Type 0 where
  pub left : List Note
  pub together : read ++ left ≡ accepted
